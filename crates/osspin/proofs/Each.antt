-- A history of all spinlocks contains a history of each of them.
use Rattle.std.proofs.Common.{◌≡◌, ◌<◌, ◌≢◌, Option, None, List, [], ◌∷◌, length, sym, ⊎_elim}
use Rattle.std.proofs.lemmas.List.{get_or-replicate, get_or-set_other, get_or-set_same, length-replicate, length-set}
use Rattle.std.proofs.lemmas.Bool.{cases_eq, eq-eqb, ne_eqb}
use Rattle.osbase.specs.{declared.references.CoreId.CoreId, declared.references.SpinlockId.SpinlockId, declared.limits.TheConstants.SPINLOCKS}
use Rattle.osshared.specs.Histories.{IsLegal, IsLegalFrom}
use Rattle.osspin.specs.Spins.{SpinEntry, calls_on, holder_of, holders_after, lock_after, no_holders, one_lock, spinlocks}

module _ (lock : SpinlockId) where
  -- the lock after a call of it, or of another lock
  pub after-on : (holders : List (Option CoreId)) → lock.index < length holders → (e : SpinEntry) → e.call.lock.index ≡ lock.index
      → holder_of (holders_after e.core e.call holders) lock ≡ lock_after e.core e.call.action (holder_of holders lock)
  after-on holders known e same = rw same (get_or-set_same holders lock.index _ None known)

  pub after-beside : (holders : List (Option CoreId)) (e : SpinEntry) → e.call.lock.index ≢ lock.index → holder_of (holders_after e.core e.call holders) lock ≡ holder_of holders lock
  after-beside holders e other = get_or-set_other holders e.call.lock.index lock.index _ None (λ same. other (sym same))

  legal-from : (holders : List (Option CoreId)) → lock.index < length holders → (log : List SpinEntry) → IsLegalFrom spinlocks holders log → IsLegalFrom one_lock (holder_of holders lock) (calls_on lock log)
  legal-from holders known [] legal = tt
  legal-from holders known (e ∷ es) legal =
      let rest = legal-from (holders_after e.core e.call holders) (rw length-set known) es legal.1 in
      ⊎_elim
      (λ same. rw (eq-eqb e.call.lock.index lock.index same) (rw (same) at (legal.0), rw (after-on holders known e same) at rest))
      (λ other. rw (ne_eqb e.call.lock.index lock.index other) (rw (after-beside holders e other) at rest))
      (cases_eq e.call.lock.index lock.index)

-- at first no lock is held
pub known-first : (lock : SpinlockId) → lock.index < SPINLOCKS → lock.index < length no_holders
known-first lock known = rw length-replicate known

pub legal-each : (lock : SpinlockId) → lock.index < SPINLOCKS → (log : List SpinEntry) → IsLegal spinlocks tt log → IsLegal one_lock tt (calls_on lock log)
legal-each lock known log legal = rw (get_or-replicate {A = Option CoreId} SPINLOCKS lock.index None None known) at (legal-from lock no_holders (known-first lock known) log legal)
