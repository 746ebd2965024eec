use Rattle.std.proofs.Common.{◌≡◌, ◌≤◌, drop, length}
use Rattle.osjobs.specs.Priorities.{highest_of}
use Rattle.osjobs.proofs.priorities.highest_of.Given as goal

abbrev pub invariant-loop-place : goal.invariant-loop-place
invariant-loop-place l = record { within : l.place ≤ length l.tasks; highest : l.highest ≡ highest_of (drop l.place l.tasks) }

abbrev pub decreases-loop-place : goal.decreases-loop-place
decreases-loop-place l = l.place
