use Rattle.std.proofs.Common.{◌≡◌, ◌++◌, flat_map, take}
use Rattle.osplan.specs.declared.plans.TheConstants.{KINDS}
use Rattle.osschema.specs.Declarations.{declared_of}
use Rattle.osschema.proofs.declarations.declare.Given as goal

abbrev pub invariant-loop-kind : goal.invariant-loop-kind
invariant-loop-kind l = l.declared ≡ l.initial.declared ++ flat_map (declared_of l.core) (take l.kind-index KINDS)
