use Rattle.std.proofs.Common.{◌≤◌, drop, length}
use Rattle.oslog.specs.Naming.{Indexes}
use Rattle.oslog.proofs.names.index_of.Given as goal

abbrev pub invariant-loop-place : goal.invariant-loop-place
invariant-loop-place l = record {
  within : l.place ≤ length l.named;
  indexed : Indexes l.names.plan.now l.index (drop l.place l.named);
}

abbrev pub decreases-loop-place : goal.decreases-loop-place
decreases-loop-place l = l.place
