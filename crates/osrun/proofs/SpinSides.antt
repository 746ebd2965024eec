-- If some spinlocks are called by some cores alone, the calls of these cores are a legal history by themselves.
use Rattle.std.proofs.Common.{◌≡◌, ℕ, Bool, true, false, not, cond, Option, None, List, [], ◌∷◌, length, filter, get_or, set, refl, ap, ◌∙◌, arith}
use Rattle.std.specs.List.{list_all}
use Rattle.std.proofs.lemmas.Bool.{and_parts, cases_eq, cases_lt, cond_both}
use Rattle.std.proofs.lemmas.List.{get_or-set_other, get_or-set_same, get_or_past, length-set}
use Rattle.osbase.specs.{declared.references.CoreId.CoreId, declared.references.SpinlockId.SpinlockId}
use Rattle.osshared.specs.Histories.{IsLegal, IsLegalFrom, calls_by}
use Rattle.osspin.specs.Spins.{SpinEntry, holders_after, lock_reply, no_holders, spinlocks}

-- The same place of two lists of the same length is set to the same value.
set-same : {A : Type 0} (d : A) (xs ys : List A) (n : ℕ) (x : A) → length xs ≡ length ys → get_or (set xs n x) n d ≡ get_or (set ys n x) n d
set-same d xs ys n x len = grind (arith, cases_lt n (length xs), get_or-set_same, get_or_past, length-set)

module _ (inside : CoreId → Bool) (theirs : SpinlockId → Bool) where
  -- The spinlock is on the core's side: for these cores it is one of theirs, and for any other core it is not.
  abbrev pub is_of_side : CoreId → SpinlockId → Bool
  is_of_side id l = cond (inside id) (theirs l) (not (theirs l))

  -- Each call is of a spinlock on its core's side.
  abbrev pub are_of_sides : List SpinEntry → Bool
  are_of_sides log = list_all (λ (e : SpinEntry). is_of_side e.core e.call.lock) log

  -- This holds if each core's calls are on its side.
  pub sides-together : (log : List SpinEntry) → ((id : CoreId) → list_all (λ (e : SpinEntry). is_of_side id e.call.lock) (calls_by id log) ≡ true) → are_of_sides log ≡ true
  sides-together [] each = refl
  sides-together (e ∷ es) each = grind (arith, each e.core, sides-together es (λ id. grind (arith, each id)))

  abbrev lock_at : ℕ → SpinlockId
  lock_at n = record { index = n }

  -- Two states of all spinlocks in which the spinlocks of these cores have the same holders.
  record Agree (s t : List (Option CoreId)) : Type 0 where
    pub count : length s ≡ length t
    pub same : (n : ℕ) → theirs (lock_at n) ≡ true → get_or s n None ≡ get_or t n None

  abbrev pub inside_calls : List SpinEntry → List SpinEntry
  inside_calls log = filter (λ (e : SpinEntry). inside e.core) log

  -- A call of any other spinlock changes none of theirs.
  beside : (e : SpinEntry) (s t : List (Option CoreId)) → theirs e.call.lock ≡ false → Agree s t → Agree (holders_after e.core e.call s) t
  beside e s t out agree = record {
    count = grind (arith, length-set, agree.count);
    same = λ n mine. grind (arith, get_or-set_other, agree.same n, out, mine);
  }

  -- A call of one of their spinlocks changes both states alike.
  both : (e : SpinEntry) (s t : List (Option CoreId)) → theirs e.call.lock ≡ true → Agree s t → Agree (holders_after e.core e.call s) (holders_after e.core e.call t)
  both e s t mine agree = record {
    count = grind (arith, length-set, agree.count);
    same = λ n theirs_too. grind (arith, set-same, cases_eq n e.call.lock.index, get_or-set_other, agree.count, agree.same n theirs_too, agree.same e.call.lock.index mine);
  }

  legal-kept : (log : List SpinEntry) (s t : List (Option CoreId)) → Agree s t → are_of_sides log ≡ true → IsLegalFrom spinlocks s log → IsLegalFrom spinlocks t (inside_calls log)
  legal-kept [] s t agree all legal = tt
  legal-kept (e ∷ es) s t agree all legal =
      let parts = and_parts (is_of_side e.core e.call.lock) (are_of_sides es) all in
      cond_both (inside e.core) (e ∷ inside_calls es) (inside_calls es) (λ (log : List SpinEntry). IsLegalFrom spinlocks t log)
      (λ ours.
      let mine : theirs e.call.lock ≡ true = grind (arith, parts.0, ours) in (
        legal.0 ∙ ap (lock_reply e.core e.call.action) (agree.same e.call.lock.index mine),
        legal-kept es (holders_after e.core e.call s) (holders_after e.core e.call t) (both e s t mine agree) parts.1 legal.1,
      ))
      (λ other. legal-kept es (holders_after e.core e.call s) t (beside e s t (grind (arith, parts.0, other)) agree) parts.1 legal.1)

  -- If each call is on its core's side, the calls of these cores alone are a legal history.
  pub legal-apart : (log : List SpinEntry) → are_of_sides log ≡ true → IsLegal spinlocks tt log → IsLegal spinlocks tt (inside_calls log)
  legal-apart log all legal = legal-kept log no_holders no_holders (record { count = refl; same = λ n mine. refl }) all legal
