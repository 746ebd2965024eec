use Rattle.std.proofs.{Common.ap, Common.length, Common.◌∙◌, lemmas.List.length-replicate}
use Rattle.osqueue.specs.{declared.fronts.Fronts.Fronts, Ordered.ordered}
use Rattle.osqueue.proofs.Pooling.{none-ordered, queue-begun}
use Rattle.osqueue.proofs.queue.ReadyQueue.new.Goals as goal

pub invariant_of-result : goal.invariant_of-result
invariant_of-result g c = queue-begun g.row.P g.row.J _ _ _ _ _ (ap (λ (f : Fronts g.row.P). f.word) c.new.ensures) (ap (λ (f : Fronts g.row.P). length f.places) c.new.ensures ∙ length-replicate g.row.P 0) c.new-2.ensures

pub returns : goal.returns
returns g c = ap ordered c.new-2.ensures ∙ none-ordered g.row.J
