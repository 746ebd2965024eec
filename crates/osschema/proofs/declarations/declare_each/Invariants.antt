use Rattle.std.proofs.Common.{◌≡◌, ◌++◌, map, drop}
use Rattle.std.specs.List.{enumerate_from}
use Rattle.osschema.specs.Declarations.{declaration, declared_as}
use Rattle.osschema.proofs.declarations.declare_each.Given as goal

-- the objects declared so far and those still to come are all that is declared
abbrev pub invariant-loop-index : goal.invariant-loop-index
invariant-loop-index l = l.declared ++ map (declaration l.core l.kind) (enumerate_from l.index (drop l.index l.objects)) ≡ l.initial.declared ++ declared_as l.core l.kind l.objects
