use Rattle.std.proofs.Common.{◌≡◌, map, take, string_bytes}
use Rattle.osvalues.specs.Data.{op_text}
use Rattle.osvalues.proofs.values.script_text.Given as goal

abbrev pub invariant-loop-op : goal.invariant-loop-op
invariant-loop-op l = map string_bytes l.texts.items ≡ map (op_text l.writer.plan.now) (take l.op-index l.script)
