use Rattle.std.proofs.Common.{◌≡◌, ◌≤◌, IsTrue, IfSome, drop, length}
use Rattle.osbase.specs.History.{first_greatest}
use Rattle.osjobs.specs.Priorities.{is_own_runner, level_by}
use Rattle.osjobs.proofs.priorities.first_of_level.Given as goal

abbrev pub invariant-loop-place : goal.invariant-loop-place
invariant-loop-place l = record {
  within : l.place ≤ length l.jobs;
  best : l.best ≡ first_greatest (level_by l.core) (drop l.place l.jobs);
  own : IfSome l.best (λ j. IsTrue (is_own_runner l.core j.runner));
}

abbrev pub decreases-loop-place : goal.decreases-loop-place
decreases-loop-place l = l.place
