use Rattle.std.proofs.{Common.arith, lemmas.Grind.common_steps, lemmas.List.drop_all, lemmas.Result.err_from_is_err_and}
use Rattle.osjson.proofs.Each.{drop-here, each-more, each-stop, each-end}
use Rattle.osjson.proofs.loops.read_each.Goals as goal

pub loop-element-preserved : goal.loop-element-preserved
loop-element-preserved g c =
    let here = drop-here c.args.elements.now c.loop-element.element-index c.element-item.result (omega arith) c.element-item.is in record {
      shape = rw c.in_ok-push.ensures.ok (each-more _ _ here c.in_ok-read.field-0 c.in_ok-read.ensures.shape c.loop-element.invariant.shape);
      passes = grind (arith, common_steps);
    }

pub returns-in_err-read-clause-shape : goal.returns-in_err-read-clause-shape
returns-in_err-read-clause-shape g c =
    let here = drop-here c.args.elements.now c.loop-element.element-index c.element-item.result (omega arith) c.element-item.is in
    let p = err_from_is_err_and c.from_residual.result c.from_residual.ensures.1 in
    rw (p.1, p.2) (each-stop _ _ here c.in_err-read.field-0.0 c.in_err-read.ensures.shape c.loop-element.invariant.shape)

pub returns-clause-shape : goal.returns-clause-shape
returns-clause-shape g c = each-end _ (drop_all c.loop-element.element-index c.args.elements.now (omega arith)) c.loop-element.invariant.shape
