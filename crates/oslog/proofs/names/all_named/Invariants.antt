use Rattle.std.proofs.Common.{◌≡◌, ◌++◌, take}
use Rattle.std.specs.List.{flat_map}
use Rattle.osplan.specs.declared.plans.TheConstants.{COMMON}
use Rattle.oslog.specs.Naming.{common_in, named_in}
use Rattle.oslog.proofs.names.all_named.Given as goal

abbrev pub invariant-loop-core : goal.invariant-loop-core
invariant-loop-core l =
    l.named ≡ flat_map (common_in l.plan) COMMON ++ flat_map named_in (take l.core-index l.plan.cores)
