use Rattle.std.proofs.Common.{rules, refl, subst}
use Rattle.osbase.specs.History.{Noted, Done}
use Rattle.osstate.specs.Sound.{IsSound}
use Rattle.osstate.proofs.{Histories.own-step, Sounds.border-closed, Sounds.goes-on, Sounds.jobs-kept}
use Rattle.osstate.proofs.state.CoreState.complete.Goals as goal

pub invariant_of-self : goal.invariant_of-self
invariant_of-self g c =
    rw (c.complete.ensures, c.close_call.ensures) (goes-on _ _ c.self.invariant (jobs-kept _ (Noted (Done c.args.runner c.args.status c.args.value)) 0 refl refl c.self.invariant.jobs) (border-closed c.args.runner c.self.invariant.border) c.self.invariant.times)

pub returns : goal.returns
returns g c = own-step (Noted (Done c.args.runner c.args.status c.args.value)) (subst (IsSound g.row.P g.row.J) c.self.view_is c.self.invariant) c.requires.own (search rules)
