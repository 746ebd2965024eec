use Rattle.std.proofs.Common.{refl}
use Rattle.osload.proofs.table_plans.CorePlannerPlannerPointTextExpiryPoint.plan.Goals as goal

pub returns : goal.returns
returns c = let actions = c.in_ok-actions.ensures in (refl, rw (c.word_of.ensures, actions.1, c.as_slice.ensures) refl, rw (actions.2, c.as_slice.ensures) refl)
