-- What a core's turn requests is its own.
use Rattle.std.proofs.Common.{◌≡◌, Bool, true, false, cond, Option, Some, None, refl, sym, subst, ◌∙◌}
use Rattle.std.proofs.lemmas.Bool.{false≢true}
use Rattle.osbase.specs.{declared.items.Stimulus.Stimulus, declared.turns.Choice.Choice, Phases.is_going}
use Rattle.osplan.specs.View.{View, is_configured}
use Rattle.osstate.specs.State.{KernelState}
use Rattle.osadmit.specs.Admission.{has_asked_halt}
use Rattle.oskernel.specs.{declared.wants.Want.Want, declared.wants.Watch.Watch, Wants.want_in, Wants.watch_in}
use Rattle.osboard.specs.declared.calls.BoardCall.TheVariants.{AskHalt, Drain, Enter, Start}
use Rattle.osrun.specs.{declared.requests.Request.Request, declared.requests.Request.TheVariants.OfBoard, declared.requests.Request.TheVariants.StartUnknown, declared.requests.Request.TheVariants.TakeStimulus, Requests.request_by, Requests.look_request}
use Rattle.osrun.proofs.Going.{asks-open, drains-down}

-- What a core's turn requests is its own: it starts a configured core, names its own mode, or takes its next stimulus.
-- It drains only if none is left or it is down or halted. It asks for a shutdown of all cores only if that call is
-- open.
abbrev pub IsOwnRequest : View → KernelState → Option Stimulus → Option Request → Type 0
IsOwnRequest v s next (Some (OfBoard (Start k))) = is_configured v k ≡ true
IsOwnRequest v s next (Some (OfBoard (Enter mode))) = mode ≡ v.own.mode
IsOwnRequest v s next (Some (OfBoard Drain)) = is_going s.progress.course ≡ true → next ≡ None
IsOwnRequest v s next (Some (OfBoard (AskHalt status))) = has_asked_halt s ≡ true
IsOwnRequest v s next (Some (TakeStimulus stimulus)) = next ≡ Some stimulus
IsOwnRequest v s next o = Unit {0}

pub asks-own : (v : View) (s : KernelState) (next : Option Stimulus) (choice : Choice) → IsOwnRequest v s next (request_by v (want_in s) (watch_in s) next choice)
asks-own v s next choice = by (want_in s) (watch_in s) next choice refl
  where
    by : (want : Want) (watch : Watch) (next : Option Stimulus) (choice : Choice) → want_in s ≡ want → IsOwnRequest v s next (request_by v want watch next choice)
    by (Want.Start k) watch next Choice.Own wants = start (is_configured v k) refl
      where
        start : (b : Bool) → is_configured v k ≡ b → IsOwnRequest v s next (Some (cond b (OfBoard (Start k)) (StartUnknown k)))
        start true e = e
        start false e = tt
    by Want.Enter watch next Choice.Own wants = refl
    by (Want.AskHalt status) watch next Choice.Own wants = asks-open s status wants
    by Want.GoOn watch (Some stimulus) Choice.Own wants = refl
    by Want.GoOn watch None Choice.Own wants = λ going. refl
    by Want.Drain watch next Choice.Own wants = λ going. absurd (false≢true (sym (drains-down s wants) ∙ going))
    by want watch next Choice.Look wants = looks watch
      where
        looks : (watch : Watch) → IsOwnRequest v s next (Some (look_request watch))
        looks Watch.Halt = tt
        looks Watch.Last = tt
        looks watch = tt
    by want watch next choice wants = tt

-- The request is for a shutdown of all cores. A core makes it only if it has an open call for one.
abbrev pub is_halt_request : Request → Bool
is_halt_request (OfBoard (AskHalt status)) = true
is_halt_request request = false

pub asks-none : (v : View) (s : KernelState) (next : Option Stimulus) (choice : Choice) (request : Request) → has_asked_halt s ≡ false → request_by v (want_in s) (watch_in s) next choice ≡ Some request → is_halt_request request ≡ false
asks-none v s next choice (OfBoard (AskHalt status)) none asks = absurd (false≢true (sym none ∙ subst (IsOwnRequest v s next) asks (asks-own v s next choice)))
asks-none v s next choice request none asks = refl
