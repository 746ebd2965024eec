use Rattle.std.proofs.Common.{sym, subst}
use Rattle.osbase.specs.History.{Noted, AlarmSet}
use Rattle.osclock.specs.Clocks.{AreClocks}
use Rattle.osclock.proofs.Asked.{kept}
use Rattle.osstate.proofs.Sounds.{clocked}
use Rattle.osstate.proofs.state.CoreState.set_alarm.Goals as goal

pub invariant_of-self : goal.invariant_of-self
invariant_of-self g c =
    clocked g.row.P g.row.J _ _ _ c.self.invariant (subst (AreClocks c.self.inside.core.now) (sym c.set_alarm.ensures) (kept c.self.inside.core.now (Noted (AlarmSet c.args.alarm c.args.first c.args.cycle)) _ c.self.invariant.times.clocks)) c.self.invariant.times.tables c.self.invariant.times.waiting
