use Rattle.std.proofs.Common.{◌<◌, rules, sym, subst}
use Rattle.osbase.specs.declared.references.Runner.TheVariants as Runner
use Rattle.osbase.specs.History.{job_count}
use Rattle.osstate.specs.{Sound.interrupt_limit, State.KernelState}
use Rattle.osstate.proofs.{Room.interrupt_place, Sounds.accepted}
use Rattle.osstate.proofs.state.CoreState.accept.Goals as goal

pub accept-requires : goal.accept-requires
accept-requires g c = (
  search rules,
  interrupt_place c.self.inside.core.now c.args.isr c.self.inside.jobs.isrs.live c.self.invariant.tasks.isrs c.self.invariant.jobs.interrupts
      (subst (λ (s : KernelState). job_count (Runner.Isr c.args.isr) s.tasks.isrs.live < interrupt_limit s.view.own (Runner.Isr c.args.isr)) (sym c.self.view_is) c.requires.limit),
)

pub invariant_of-self : goal.invariant_of-self
invariant_of-self g c =
    rw (c.accept.ensures, c.record.ensures.progress) (accepted g.row.P g.row.J c.args.isr _ c.self.invariant
    (subst (λ (s : KernelState). job_count (Runner.Isr c.args.isr) s.tasks.isrs.live < interrupt_limit s.view.own (Runner.Isr c.args.isr)) (sym c.self.view_is) c.requires.limit))
