use Rattle.std.proofs.Common.{◌<◌, length, sym, subst}
use Rattle.osclock.specs.Clocks.{ClockState}
use Rattle.osclock.proofs.Bounds.{alarm-inside}
use Rattle.osclock.proofs.clocks.Clocks.set_alarm.Goals as goal

pub set_alarm-requires : goal.set_alarm-requires
set_alarm-requires c = subst (λ (s : ClockState). c.args.alarm.index < length s.alarms) (sym c.self.view_is) (alarm-inside c.args.core.now _ c.args.alarm c.requires.clocks.clocks c.requires.clocks.own)
