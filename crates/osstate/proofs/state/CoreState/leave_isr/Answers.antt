use Rattle.std.proofs.Common.{rules, subst}
use Rattle.osbase.specs.declared.marks.Mark.TheVariants as Mark
use Rattle.osbase.specs.History.{Printed}
use Rattle.osstate.specs.Sound.{IsSound}
use Rattle.osstate.proofs.{Histories.own-step, Sounds.isr_left}
use Rattle.osstate.proofs.state.CoreState.leave_isr.Goals as goal

pub invariant_of-self : goal.invariant_of-self
invariant_of-self g c = rw (c.end_isr.ensures, c.close_call.ensures, c.owe.ensures, c.record.ensures.progress) (isr_left g.row.P g.row.J c.args.isr _ c.self.invariant)

pub returns-clause-state : goal.returns-clause-state
returns-clause-state g c = own-step (Printed (Mark.IsrLeft c.args.isr)) (subst (IsSound g.row.P g.row.J) c.self.view_is c.self.invariant) c.requires.own (search rules)
