use Rattle.std.proofs.Common.{◌≡◌, ◌++◌, take}
use Rattle.std.specs.List.{flat_map}
use Rattle.osplan.specs.declared.plans.TheConstants.{KINDS}
use Rattle.oslog.specs.Naming.{objects_in}
use Rattle.oslog.proofs.names.push_core.Given as goal

abbrev pub invariant-loop-kind : goal.invariant-loop-kind
invariant-loop-kind l =
    l.named ≡ l.initial.named ++ flat_map (objects_in l.core) (take l.kind-index KINDS)
