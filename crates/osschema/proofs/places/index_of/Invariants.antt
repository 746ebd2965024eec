use Rattle.std.proofs.Common.{◌≤◌, drop, length}
use Rattle.osschema.specs.Index.{Indexes}
use Rattle.osschema.proofs.places.index_of.Given as goal

abbrev pub invariant-loop-place : goal.invariant-loop-place
invariant-loop-place l = record {
  within : l.place ≤ length l.declared;
  indexed : Indexes l.declared l.first l.are_apart (drop l.place l.declared);
}

abbrev pub decreases-loop-place : goal.decreases-loop-place
decreases-loop-place l = l.place
