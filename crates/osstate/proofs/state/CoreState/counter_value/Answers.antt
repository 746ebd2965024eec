use Rattle.std.proofs.Common.{◌≡◌, true, sym, subst}
use Rattle.osbase.specs.Objects.{counter_object}
use Rattle.osplan.specs.Objects.{is_own_object}
use Rattle.osclock.proofs.Bounds.{counter-inside}
use Rattle.osstate.specs.State.{KernelState}
use Rattle.osstate.proofs.state.CoreState.counter_value.Goals as goal

pub value-requires : goal.value-requires
value-requires g c = counter-inside c.self.inside.core.now _ c.args.counter c.self.invariant.times.clocks (subst (λ (s : KernelState). is_own_object s.view.own (counter_object c.args.counter) ≡ true) (sym c.self.view_is) c.requires.own)
