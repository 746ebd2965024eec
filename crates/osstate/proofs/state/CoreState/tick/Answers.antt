use Rattle.std.proofs.Common.{refl, rules, ap, subst, arith, []}
use Rattle.osbase.specs.{Sets.slot_of, History.Printed}
use Rattle.osbase.specs.declared.marks.Mark.TheVariants as Mark
use Rattle.osstate.specs.{Sound.IsSound, State.KernelState}
use Rattle.osstate.proofs.{Histories.own-step, Room.own_charged, Sounds.same-jobs}
use Rattle.osstate.proofs.state.CoreState.tick.Goals as goal

pub tick-requires : goal.tick-requires
tick-requires g c =
    let same = ap (λ (s : KernelState). s.progress.entries) c.self.view_is in (
      search rules,
      (
        λ r. omega (arith, (c.self.invariant.jobs.used (slot_of r)).ticks, c.requires.count, same),
        λ r k d less. omega (arith, (c.self.invariant.jobs.used (slot_of r)).locks k d less, c.requires.count, same),
      ),
    )

pub invariant_of-self : goal.invariant_of-self
invariant_of-self g c = rw (c.tick.ensures [], c.record.ensures.progress) (same-jobs [] (Printed Mark.Tick) refl refl c.self.invariant)

pub returns-clause-state : goal.returns-clause-state
returns-clause-state g c =
    let sound = subst (IsSound g.row.P g.row.J) c.self.view_is c.self.invariant in
    own-step (Printed Mark.Tick) sound (own_charged c.args.self.now.view.own c.args.self.now.tasks sound.jobs.within sound.jobs.interrupts) (search rules)
