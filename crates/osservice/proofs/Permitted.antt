-- Acts that are allowed are permitted, at the state of every history.
use Rattle.std.proofs.Common.{◌≡◌, nat_lt, Bool, true, false, cond, refl, sym, subst}
use Rattle.std.proofs.lemmas.Bool.{and_from, and_parts}
use Rattle.osbase.specs.{declared.references.CoreId.CoreId, declared.messages.Message.Message, declared.limits.TheConstants.CORES, History.AlarmSet, History.History, History.started_cores}
use Rattle.osplan.specs.Clocked.{are_clocks_within}
use Rattle.osclock.specs.Clocks.{are_settings_granted}
use Rattle.osstate.specs.{Readings.knows_started, State.KernelState, State.state_of}
use Rattle.osacts.specs.Acts.{Act, Acts, Prints, Notes, Sends, nothing, one_then, both, when, if_started, look, look_around, act, does}
use Rattle.osacts.specs.{Laws.are_permitted, Laws.is_permitted, Seen.Seen, Seen.all_cores, Seen.seen_of}
use Rattle.osacts.proofs.{Law.agrees, Seeing.seen-same}
use Rattle.osservice.proofs.Kept.{AreAllowed, IsSeen, Leave, is_allowed, started-known}

-- A core answers only others whose numbers a configuration may have, and marks may name what any history shows of it.
module _ (l : Leave) (within : are_clocks_within l.view.own ≡ true) (known : (core : CoreId) → l.answered core ≡ true → nat_lt core.number CORES ≡ true) (seen : (h : History) → IsSeen l (seen_of l.view h)) where
  one-permitted : (a : Act) → is_allowed l a ≡ true → (h : History) → is_permitted a (state_of l.view h) ≡ true
  one-permitted (Prints m) ok h = refl
  one-permitted (Notes (AlarmSet a first cycle)) ok h = rw within at ok
  one-permitted (Notes n) ok h = refl
  one-permitted (Sends core (Message.Reply status)) ok h = known core ok
  one-permitted (Sends core (Message.Value status n)) ok h = known core ok
  one-permitted (Sends core message) ok h = (and_parts (nat_lt core.number CORES) _ ok).0

  either : (b c d : Bool) → (b ≡ true → c ≡ true) → (b ≡ false → d ≡ true) → cond b c d ≡ true
  either true c d p q = p refl
  either false c d p q = q refl

  pub permitted : (x : Acts) → AreAllowed l x → (h : History) → are_settings_granted l.view.own h ≡ true → are_permitted x (state_of l.view h) ≡ true
  permitted nothing ok h set = refl
  permitted (one_then a x) ok h set =
      let one = one-permitted a ok.0 h in
      let step = agrees l.view within (one_then a nothing) h set (and_from _ _ one refl) in
      and_from _ _ one (subst (λ (s : KernelState). are_permitted x s ≡ true) (sym step.state) (permitted x ok.1 (act a h) step.granted))
  permitted (both x y) ok h set =
      let first = permitted x ok.0 h set in
      let step = agrees l.view within x h set first in
      and_from _ _ first (subst (λ (s : KernelState). are_permitted y s ≡ true) (sym step.state) (permitted y ok.1 (does x l.view h) step.granted))
  permitted (when b x y) ok h set = either b _ _ (λ e. permitted x (ok.0 e) h set) (λ e. permitted y (ok.1 e) h set)
  permitted (if_started core x y) ok h set =
      either (knows_started h core) _ _ (λ e. permitted x (ok.1.0 (started-known (started_cores h) core e)) h set) (λ e. permitted y ok.1.1 h set)
  permitted (look f) ok h set =
      subst (λ (s : Seen). are_permitted (f s) (state_of l.view h) ≡ true) (sym (seen-same l.view h within set)) (permitted (f (seen_of l.view h)) (ok (seen_of l.view h) (seen h)) h set)
  permitted (look_around f) ok h set = permitted (f (all_cores l.view h)) (ok.1 (all_cores l.view h)) h set
