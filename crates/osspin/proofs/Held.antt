-- Whether a core holds a spinlock is known by the core's own calls.
use Rattle.std.proofs.Common.{◌≡◌, ◌==◌, ◌<◌, ◌≢◌, Bool, false, if◌then◌else◌, Option, Some, None, List, [], ◌∷◌, length, refl, sym, ap, ◌∙◌, ⊎_elim, arith}
use Rattle.std.proofs.lemmas.List.{get_or-replicate, length-set}
use Rattle.std.proofs.lemmas.Bool.{cases_eq, eq-eqb, eqb-true, ne_eqb}
use Rattle.osbase.specs.{declared.references.CoreId.CoreId, declared.references.SpinlockId.SpinlockId, declared.limits.TheConstants.SPINLOCKS}
use Rattle.osshared.specs.Histories.{IsLegal, IsLegalFrom, calls_by, state_after}
use Rattle.osspin.specs.{declared.calls.SpinAction.SpinAction, declared.calls.SpinAction.TheVariants.Take, declared.calls.SpinAction.TheVariants.Free, declared.calls.SpinAction.TheVariants.Look, Holding.holds_after, Holding.holds_by}
use Rattle.osspin.specs.Spins.{SpinEntry, holder_of, holders_after, is_held_by, lock_after, lock_reply, no_holders, spinlocks}
use Rattle.osspin.proofs.Each.{after-beside, after-on, known-first}

module _ (core : CoreId) where
  -- a call of the core itself
  own-call : (action : SpinAction) (h : Option CoreId) → is_held_by core (lock_after core action h) ≡ holds_after action (lock_reply core action h) (is_held_by core h)
  own-call Take None = eq-eqb core.number core.number refl
  own-call Take (Some d) = refl
  own-call Free None = refl
  own-call Free (Some d) = grind arith
  own-call Look h = refl

  -- a call of another core
  other-call : (c : CoreId) → c.number ≢ core.number → (action : SpinAction) (h : Option CoreId) → is_held_by core (lock_after c action h) ≡ is_held_by core h
  other-call c other Take None = ne_eqb c.number core.number other
  other-call c other Take (Some d) = refl
  other-call c other Free None = refl
  other-call c other Free (Some d) = grind (arith, eqb-true, ne_eqb)
  other-call c other Look h = refl

  module _ (lock : SpinlockId) where
    abbrev held : List (Option CoreId) → Bool
    held holders = is_held_by core (holder_of holders lock)

    -- one call, of the core or of another
    one-own : (holders : List (Option CoreId)) → lock.index < length holders → (e : SpinEntry) → core.number ≡ e.core.number → e.reply ≡ lock_reply e.core e.call.action (holder_of holders e.call.lock)
        → held (holders_after e.core e.call holders) ≡ (if e.call.lock.index == lock.index then holds_after e.call.action e.reply (held holders) else held holders)
    one-own holders known e own reply =
        let me : e.core ≡ core = λ i. record { number = sym own i } in
        ⊎_elim
        (λ same. rw (eq-eqb e.call.lock.index lock.index same, after-on lock holders known e same, reply, same, me) (own-call e.call.action (holder_of holders lock)))
        (λ other. rw (ne_eqb e.call.lock.index lock.index other) (ap (is_held_by core) (after-beside lock holders e other)))
        (cases_eq e.call.lock.index lock.index)

    one-other : (holders : List (Option CoreId)) → lock.index < length holders → (e : SpinEntry) → core.number ≢ e.core.number → held (holders_after e.core e.call holders) ≡ held holders
    one-other holders known e other = ⊎_elim
        (λ same. ap (is_held_by core) (after-on lock holders known e same) ∙ other-call e.core (λ is. other (sym is)) e.call.action (holder_of holders lock))
        (λ beside. ap (is_held_by core) (after-beside lock holders e beside))
        (cases_eq e.call.lock.index lock.index)

    held-from : (holders : List (Option CoreId)) → lock.index < length holders → (log : List SpinEntry) → IsLegalFrom spinlocks holders log
        → held (state_after spinlocks holders log) ≡ holds_by lock (calls_by core log) (held holders)
    held-from holders known [] legal = refl
    held-from holders known (e ∷ es) legal =
        let rest = held-from (holders_after e.core e.call holders) (rw length-set known) es legal.1 in
        ⊎_elim
        (λ own. rw (eq-eqb core.number e.core.number own) (rest ∙ ap (holds_by lock (calls_by core es)) (one-own holders known e own legal.0)))
        (λ other. rw (ne_eqb core.number e.core.number other) (rest ∙ ap (holds_by lock (calls_by core es)) (one-other holders known e other)))
        (cases_eq core.number e.core.number)

pub held-by : (core : CoreId) (lock : SpinlockId) → lock.index < SPINLOCKS → (log : List SpinEntry) → IsLegal spinlocks tt log
    → is_held_by core (holder_of (state_after spinlocks no_holders log) lock) ≡ holds_by lock (calls_by core log) false
held-by core lock known log legal = held-from core lock no_holders (known-first lock known) log legal
    ∙ ap (λ (h : Option CoreId). holds_by lock (calls_by core log) (is_held_by core h)) (get_or-replicate SPINLOCKS lock.index None None known)
