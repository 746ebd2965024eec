use Rattle.std.proofs.Common.{◌≡◌, length, map}
use Rattle.std.specs.List.{list_all}
use Rattle.osplan.specs.Limits.{delays, is_delay}
use Rattle.osvalidate.specs.Check.{point_sizes}
use Rattle.osschema.specs.Declarations.{declared_sizes}
use Rattle.osvalidate.proofs.table_checks.are_delays.Given as goal

abbrev pub invariant-loop-points : goal.invariant-loop-points
invariant-loop-points l = list_all (is_delay (declared_sizes l.counter)) (delays (map point_sizes l.points)) ≡ list_all (is_delay (declared_sizes l.counter)) (delays (map point_sizes l.initial.points))

abbrev pub decreases-loop-points : goal.decreases-loop-points
decreases-loop-points l = length l.points
