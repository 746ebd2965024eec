use Rattle.std.proofs.{Common.length, Common.ap, Common.arith, lemmas.Bool.lt-ltb, lemmas.Bool.ltb-true}
use Rattle.osplan.specs.{declared.plans.Plan.Plan, Limits.sizes_of}
use Rattle.osplan.proofs.Within.{few-spinlocks, limit-parts}
use Rattle.osstate.proofs.state.CoreState.knows_spinlock.Goals as goal

pub returns-clause-lock : goal.returns-clause-lock
returns-clause-lock g c inside =
    let few = few-spinlocks (sizes_of c.self.inside.config.now) (limit-parts c.self.inside.config.now c.plan.ensures.limits).sizes in
    let same = ap (λ (p : Plan). length p.spinlocks) c.plan.ensures.value in
    let within = ltb-true c.from.result c.len.result inside in
    lt-ltb c.args.lock.index 16 (omega (arith, few, within, c.from.ensures, c.len.ensures, same))
