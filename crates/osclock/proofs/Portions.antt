-- Each alarm is attached to at most one counter.
use Rattle.std.proofs.Common.{◌≡◌, ℕ, ◌+◌, ◌≤◌, Bool, true, false, cond, filter, List, [], ◌∷◌, length, sum_by, refl, sym, ◌∙◌, arith}
use Rattle.std.proofs.lemmas.List.Sums.{sum_by-cons, sum_by-le-sum_by}
use Rattle.osbase.specs.{declared.references.AlarmRef.AlarmRef, Sets.numbers_from}
use Rattle.osplan.specs.declared.plans.Core.{Core}
use Rattle.osattached.proofs.Members.{portions}
use Rattle.osclock.specs.Clocks.{alarm_family, alarm_refs, attached_to, counter_ref}

-- the number of elements that pass is a sum
passing : {A : Type 0} (p : A → Bool) (xs : List A) → length (filter p xs) ≡ sum_by (λ (x : A). cond (p x) 1 0) xs
passing p [] = refl
passing {A} p (x ∷ xs) = by (p x) (passing p xs) ∙ sym (sum_by-cons (λ (y : A). cond (p y) 1 0) x xs)
  where
    by : (b : Bool) → length (filter p xs) ≡ sum_by (λ (y : A). cond (p y) 1 0) xs → length (cond b (x ∷ filter p xs) (filter p xs)) ≡ cond b 1 0 + sum_by (λ (y : A). cond (p y) 1 0) xs
    by true rest = omega (arith, rest)
    by false rest = omega (arith, rest)

-- The alarms that pass a test, added up over the counters, are at most all of the core's that pass it.
pub attached-portions : (core : Core) (p : AlarmRef → Bool) (count : ℕ) → sum_by (λ (n : ℕ). length (filter p (attached_to core (counter_ref core n)))) (numbers_from 0 count) ≤ length (filter p (alarm_refs core))
attached-portions core p count =
    omega (
      arith,
      sum_by-le-sum_by (λ (n : ℕ). length (filter p (attached_to core (counter_ref core n)))) (λ (n : ℕ). sum_by (λ (a : AlarmRef). cond (p a) 1 0) (attached_to core (counter_ref core n))) (numbers_from 0 count) (λ n. omega (arith, passing p (attached_to core (counter_ref core n)))),
      portions core.id (alarm_family core) (λ (a : AlarmRef). cond (p a) 1 0) count,
      passing p (alarm_refs core),
    )
