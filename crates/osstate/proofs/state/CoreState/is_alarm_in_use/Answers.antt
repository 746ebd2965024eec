use Rattle.std.proofs.Common.{◌≡◌, true, sym, subst}
use Rattle.osbase.specs.Objects.{alarm_object}
use Rattle.osplan.specs.Objects.{is_own_object}
use Rattle.osclock.proofs.Bounds.{alarm-inside}
use Rattle.osstate.specs.State.{KernelState}
use Rattle.osstate.proofs.state.CoreState.is_alarm_in_use.Goals as goal

pub is_in_use-requires : goal.is_in_use-requires
is_in_use-requires g c = alarm-inside c.self.inside.core.now _ c.args.alarm c.self.invariant.times.clocks (subst (λ (s : KernelState). is_own_object s.view.own (alarm_object c.args.alarm) ≡ true) (sym c.self.view_is) c.requires.own)
