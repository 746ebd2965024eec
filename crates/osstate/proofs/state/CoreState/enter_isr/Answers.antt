use Rattle.std.proofs.Common.{◌≡◌, true, rules, sym, subst}
use Rattle.osbase.specs.declared.references.Runner.TheVariants as Runner
use Rattle.osjobs.specs.Priorities.{is_own_runner}
use Rattle.osstate.specs.State.{KernelState}
use Rattle.osstate.proofs.{Room.entered_place, Sounds.isr_entered}
use Rattle.osstate.proofs.state.CoreState.enter_isr.Goals as goal

pub enter_isr-requires : goal.enter_isr-requires
enter_isr-requires g c = (
  search rules,
  entered_place c.self.inside.core.now c.args.isr c.self.inside.jobs.isrs.entered c.self.invariant.tasks.isrs
      (subst (λ (s : KernelState). is_own_runner s.view.own (Runner.Isr c.args.isr) ≡ true) (sym c.self.view_is) c.requires.own) c.self.invariant.jobs.entered,
)

pub invariant_of-self : goal.invariant_of-self
invariant_of-self g c =
    rw (c.enter_isr.ensures, c.record.ensures.progress) (isr_entered g.row.P g.row.J c.args.isr _ c.self.invariant
    (subst (λ (s : KernelState). is_own_runner s.view.own (Runner.Isr c.args.isr) ≡ true) (sym c.self.view_is) c.requires.own))
