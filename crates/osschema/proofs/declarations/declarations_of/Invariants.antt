use Rattle.std.proofs.Common.{◌≡◌, ◌++◌, take}
use Rattle.std.specs.List.{flat_map}
use Rattle.osplan.specs.declared.plans.TheConstants.{COMMON}
use Rattle.osschema.specs.Declarations.{common_of, declared_by}
use Rattle.osschema.proofs.declarations.declarations_of.Given as goal

abbrev pub invariant-loop-core : goal.invariant-loop-core
invariant-loop-core l = l.declared ≡ flat_map (common_of l.text) COMMON ++ flat_map declared_by (take l.core-index l.cores)
