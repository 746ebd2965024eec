use Rattle.std.proofs.Common.{◌≡◌, ◌≤◌, drop, length}
use Rattle.osbase.specs.History.{greatest_ceiling}
use Rattle.osres.proofs.held.greatest_ceiling.Given as goal

abbrev pub invariant-loop-place : goal.invariant-loop-place
invariant-loop-place l = record { within : l.place ≤ length l.resources; greatest : l.greatest ≡ greatest_ceiling (drop l.place l.resources) }

abbrev pub decreases-loop-place : goal.decreases-loop-place
decreases-loop-place l = l.place
