use Rattle.std.proofs.Common.{rules, refl, subst, []}
use Rattle.osbase.specs.History.{Noted, InterruptsSuspended}
use Rattle.osstate.specs.Sound.{IsSound}
use Rattle.osstate.proofs.{Histories.own-step, Sounds.same-jobs}
use Rattle.osstate.proofs.state.CoreState.suspend_interrupts.Goals as goal

pub invariant_of-self : goal.invariant_of-self
invariant_of-self g c = rw c.suspend_interrupts.ensures (same-jobs [] (Noted (InterruptsSuspended c.args.runner)) refl refl c.self.invariant)

pub returns : goal.returns
returns g c = own-step (Noted (InterruptsSuspended c.args.runner)) (subst (IsSound g.row.P g.row.J) c.self.view_is c.self.invariant) c.requires.own (search rules)
