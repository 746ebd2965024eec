use Rattle.std.proofs.Common.{◌≡◌, length}
use Rattle.oscript.specs.Runners.{ended}
use Rattle.osrunner.specs.Rows.{held_in, with_row}
use Rattle.osrunner.proofs.rows.Rows.end.Given as goal

abbrev pub invariant-loop-self : goal.invariant-loop-self
invariant-loop-self l = with_row l.runner ended l.self ≡ with_row l.runner ended l.initial.self

abbrev pub decreases-loop-self : goal.decreases-loop-self
decreases-loop-self l = length (held_in l.runner l.self)
