use Rattle.std.proofs.Common.{◌≡◌, map, take}
use Rattle.serde_json.specs.View.{view}
use Rattle.osvalues.proofs.values.list_value.Given as goal

abbrev pub invariant-loop-element : goal.invariant-loop-element
invariant-loop-element g l = map view l.values.items ≡ map (g.W.Writer.written l.writer) (take l.element-index l.elements)
