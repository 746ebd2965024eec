use Rattle.std.proofs.Common.{◌≡◌, ◌++◌, take}
use Rattle.std.specs.List.{flat_map}
use Rattle.osplan.specs.declared.plans.TheConstants.{COMMON}
use Rattle.oslog.specs.Naming.{common_in}
use Rattle.oslog.proofs.names.push_common.Given as goal

abbrev pub invariant-loop-kind : goal.invariant-loop-kind
invariant-loop-kind l =
    l.named ≡ l.initial.named ++ flat_map (common_in l.plan) (take l.kind-index COMMON)
