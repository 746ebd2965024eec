use Rattle.std.proofs.Common.{IfSome, ap, ◌≡◌, ◌||◌, true, sym, subst}
use Rattle.osbase.specs.{declared.histories.OpenCall.OpenCall, History.Took, History.phase_on, Phases.is_before_live, Phases.is_past_first_gate}
use Rattle.osstate.specs.{Sound.is_awaited_known, Sound.is_first_gate, State.KernelState, Steps.state_after}
use Rattle.osstate.proofs.Sounds.{taken}
use Rattle.osstate.proofs.state.CoreState.take_item.Goals as goal

pub invariant_of-self : goal.invariant_of-self
invariant_of-self g c =
    rw (c.take_item.ensures, c.take_item-2.ensures, c.settle_by.ensures.call, c.receive_by.ensures) (taken g.row.P g.row.J c.args.item.now _ _ _ c.self.invariant
    (subst (λ (s : KernelState). is_before_live (phase_on c.args.item.now s.progress.phase) ≡ true → is_before_live s.progress.phase ≡ true) (sym c.self.view_is) c.requires.forward)
    (subst (λ (s : KernelState). is_past_first_gate (phase_on c.args.item.now s.progress.phase) ≡ true → (is_first_gate c.args.item.now || is_past_first_gate s.progress.phase) ≡ true) (sym c.self.view_is) c.requires.onward))

pub settle_by-requires : goal.settle_by-requires
settle_by-requires g c = c.requires.lock (subst (λ (s : KernelState). IfSome s.border.open_call (λ (call : OpenCall). is_awaited_known call.awaits ≡ true)) c.self.view_is c.self.invariant.border.awaited)

pub returns-clause-state : goal.returns-clause-state
returns-clause-state g c =
    rw (c.take_item.ensures, c.take_item-2.ensures, c.settle_by.ensures.spins, c.settle_by.ensures.call, c.post_by.ensures, c.receive_by.ensures) (ap (state_after (Took c.args.item.now)) c.self.view_is)
