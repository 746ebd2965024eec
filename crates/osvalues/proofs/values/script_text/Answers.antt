use Rattle.std.proofs.Common.{◌≡◌, ◌∙◌, map, ap, string_bytes, arith, codes}
use Rattle.std.proofs.lemmas.{List.take_all, Result.IfOk-weaker}
use Rattle.osvalues.specs.Data.{op_text}
use Rattle.osvalues.proofs.Joining.{join-pieces}
use Rattle.osvalues.proofs.values.script_text.Goals as goal

pub returns : goal.returns
returns c =
    let pieces : map string_bytes c.deref.result.now ≡ map (op_text c.args.writer.now.plan.now) c.args.script.now =
    ap (map string_bytes) c.deref.ensures.value ∙ c.loop-op.invariant ∙ ap (map (op_text c.args.writer.now.plan.now)) (take_all c.loop-op.op-index c.args.script.now (omega arith)) in
    IfOk-weaker c.join.result _ _ (λ text e. e ∙ join-pieces string_bytes (op_text c.args.writer.now.plan.now) (codes ";") c.deref.result.now c.args.script.now pieces) c.join.ensures.ok
