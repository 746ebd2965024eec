use Rattle.std.proofs.Common.{sym, subst}
use Rattle.osbase.specs.History.{Noted, AlarmCancelled}
use Rattle.osclock.specs.Clocks.{AreClocks}
use Rattle.osclock.proofs.Asked.{kept}
use Rattle.osstate.proofs.Sounds.{clocked}
use Rattle.osstate.proofs.state.CoreState.cancel_alarm.Goals as goal

pub invariant_of-self : goal.invariant_of-self
invariant_of-self g c =
    clocked g.row.P g.row.J _ _ _ c.self.invariant (subst (AreClocks c.self.inside.core.now) (sym c.cancel_alarm.ensures) (kept c.self.inside.core.now (Noted (AlarmCancelled c.args.alarm)) _ c.self.invariant.times.clocks)) c.self.invariant.times.tables c.self.invariant.times.waiting
