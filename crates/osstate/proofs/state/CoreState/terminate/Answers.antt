use Rattle.std.proofs.Common.{◌≡◌, true, rules, sym, subst}
use Rattle.osbase.specs.declared.references.Runner.TheVariants as Runner
use Rattle.osjobs.specs.Priorities.{is_own_runner}
use Rattle.osbase.specs.declared.marks.Mark.TheVariants as Mark
use Rattle.osbase.specs.History.{Printed}
use Rattle.osstate.specs.{Sound.IsSound, State.KernelState}
use Rattle.osstate.proofs.{Histories.own-step, Sounds.below, Sounds.terminated}
use Rattle.osstate.proofs.state.CoreState.terminate.Goals as goal

pub invariant_of-self : goal.invariant_of-self
invariant_of-self g c = rw (c.end.ensures, c.close_call.ensures, c.owe.ensures, c.record.ensures.progress) (terminated g.row.P g.row.J c.args.task _ c.self.invariant)

pub returns-clause-state : goal.returns-clause-state
returns-clause-state g c = own-step (Printed (Mark.Terminated c.args.task)) (subst (IsSound g.row.P g.row.J) c.self.view_is c.self.invariant) c.requires.own (search rules)

pub returns-clause-below : goal.returns-clause-below
returns-clause-below g c = rw c.end.ensures (below g.row.P g.row.J c.args.task _ c.self.invariant (subst (λ (s : KernelState). is_own_runner s.view.own (Runner.Task c.args.task) ≡ true) (sym c.self.view_is) c.requires.own))
