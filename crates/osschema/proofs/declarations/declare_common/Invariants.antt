use Rattle.std.proofs.Common.{◌≡◌, ◌++◌, flat_map, take}
use Rattle.osplan.specs.declared.plans.TheConstants.{COMMON}
use Rattle.osschema.specs.Declarations.{common_of}
use Rattle.osschema.proofs.declarations.declare_common.Given as goal

abbrev pub invariant-loop-kind : goal.invariant-loop-kind
invariant-loop-kind l = l.declared ≡ l.initial.declared ++ flat_map (common_of l.text) (take l.kind-index COMMON)
