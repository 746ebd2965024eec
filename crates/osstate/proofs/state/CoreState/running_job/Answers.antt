use Rattle.std.proofs.Common.{IsTrue, IfSome, subst}
use Rattle.osjobs.specs.Priorities.{is_own_runner}
use Rattle.osstate.specs.State.{KernelState}
use Rattle.osstate.proofs.Room.{own_running}
use Rattle.osstate.proofs.state.CoreState.running_job.Goals as goal

pub returns-clause-own : goal.returns-clause-own
returns-clause-own g c =
    subst (λ (s : KernelState). IfSome c.running.result (λ job. IsTrue (is_own_runner s.view.own job.runner))) c.self.view_is
    (own_running c.self.inside.core.now c.self.inside.jobs c.running.result c.self.invariant.jobs.within c.self.invariant.jobs.interrupts c.running.ensures)
