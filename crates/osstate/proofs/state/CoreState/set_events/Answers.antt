use Rattle.std.proofs.Common.{rules, refl, subst, []}
use Rattle.osbase.specs.declared.marks.Mark.TheVariants as Mark
use Rattle.osbase.specs.History.{Printed}
use Rattle.osstate.specs.Sound.{IsSound}
use Rattle.osstate.proofs.{Histories.own-step, Sounds.same-jobs}
use Rattle.osstate.proofs.state.CoreState.set_events.Goals as goal

pub invariant_of-self : goal.invariant_of-self
invariant_of-self g c = rw (c.set_events.ensures, c.record.ensures.progress) (same-jobs [] (Printed (Mark.EventSet c.args.task c.args.mask)) refl refl c.self.invariant)

pub returns-clause-state : goal.returns-clause-state
returns-clause-state g c = own-step (Printed (Mark.EventSet c.args.task c.args.mask)) (subst (IsSound g.row.P g.row.J) c.self.view_is c.self.invariant) c.requires.own (search rules)
