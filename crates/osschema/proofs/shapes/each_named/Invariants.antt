use Rattle.std.proofs.Common.{◌≡◌, map, take}
use Rattle.osschema.proofs.shapes.each_named.Given as goal

abbrev pub invariant-loop-object : goal.invariant-loop-object
invariant-loop-object g l = l.each ≡ map g.T.Declared.named (take l.object-index l.objects)
