use Rattle.std.proofs.lemmas.Result.{err_from_is_err_and}
use Rattle.osload.proofs.plans.plan_of.Goals as goal

pub returns-in_err-cores : goal.returns-in_err-cores
returns-in_err-cores c = let p = err_from_is_err_and c.from_residual-in_err-cores.result c.from_residual-in_err-cores.ensures.1 in rw (p.1, p.2) (rw c.as_slice-2.ensures at c.in_err-cores.ensures)
