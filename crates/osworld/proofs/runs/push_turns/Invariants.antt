use Rattle.std.proofs.Common.{◌≡◌, ◌++◌, take}
use Rattle.osworld.specs.Runs.{serves_of}
use Rattle.osworld.proofs.runs.push_turns.Given as goal

abbrev pub invariant-loop-other : goal.invariant-loop-other
invariant-loop-other l = l.round.items ≡ l.fn.round.items ++ serves_of (take l.other-index l.ids) l.id
