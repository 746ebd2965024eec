use Rattle.std.proofs.Common.{◌≡◌, length, map}
use Rattle.osplan.specs.Limits.{are_ascending}
use Rattle.osvalidate.specs.Check.{point_sizes}
use Rattle.osvalidate.proofs.table_checks.are_ascending.Given as goal

abbrev pub invariant-loop-points : goal.invariant-loop-points
invariant-loop-points l = are_ascending (map point_sizes l.points) ≡ are_ascending (map point_sizes l.initial.points)

abbrev pub decreases-loop-points : goal.decreases-loop-points
decreases-loop-points l = length l.points
