use Rattle.std.proofs.Common.{◌≡◌, ◌<◌, false, IsTrue, sym, subst, ◌∙◌}
use Rattle.osbase.specs.declared.references.Runner.TheVariants as Runner
use Rattle.osbase.specs.History.{job_count}
use Rattle.osjobs.specs.Priorities.{is_own_runner}
use Rattle.osstate.specs.{Sound.interrupt_limit, State.KernelState}
use Rattle.osstate.proofs.Room.{not_pending}
use Rattle.osstate.proofs.state.CoreState.is_pending.Goals as goal

pub returns-clause-limit : goal.returns-clause-limit
returns-clause-limit g c =
    subst (λ (s : KernelState). IsTrue (is_own_runner s.view.own (Runner.Isr c.args.isr)) → c.is_pending.result ≡ false → job_count (Runner.Isr c.args.isr) s.tasks.isrs.live < interrupt_limit s.view.own (Runner.Isr c.args.isr)) c.self.view_is
    (λ own none. not_pending c.self.inside.core.now c.args.isr c.self.inside.jobs.isrs c.self.invariant.jobs.entered own (sym c.is_pending.ensures ∙ none))
