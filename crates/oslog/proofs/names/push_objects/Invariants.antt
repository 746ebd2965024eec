use Rattle.std.proofs.Common.{◌≡◌, ◌-◌, ◌≤◌, ◌++◌, map}
use Rattle.osbase.specs.Sets.{numbers_from}
use Rattle.oslog.specs.Naming.{object_under}
use Rattle.oslog.proofs.names.push_objects.Given as goal

abbrev pub invariant-loop-core : goal.invariant-loop-core
invariant-loop-core l = (l.index ≤ l.count) × (l.named ≡ l.initial.named ++ map (object_under l.core l.kind) (numbers_from 0 l.index))

abbrev pub decreases-loop-core : goal.decreases-loop-core
decreases-loop-core l = l.count - l.index
