-- A core's own objects of one kind, by place: they have the first places on the core, as many as there are objects.
use Rattle.std.proofs.Common.{◌≡◌, ◌&&◌, ℕ, zero, suc, ◌<◌, nat_lt, Bool, true, false, cond, Option, Some, None, is_some, List, [], ◌∷◌, length, refl, ap, sym, subst, ◌∙◌, arith}
use Rattle.std.specs.List.{list_all, slice_get}
use Rattle.std.proofs.lemmas.Bool.{and_parts, and_from, cond-true, false_from_ne_true, false≢true, lt-ltb, ltb-true}
use Rattle.std.proofs.lemmas.Option.{slice_get_within}
use Rattle.osbase.specs.{declared.objects.Place.Place, declared.references.CoreId.CoreId, declared.references.CounterRef.CounterRef, Families.counter_at, Families.is_place_on, History.same_core}
use Rattle.osbase.specs.Objects.{counter_of, counter_place, place_on, same_place}
use Rattle.osbase.proofs.Same.{same_core-refl, same_core-true, same_place-true}

-- ---- what is at a place of a list

-- If all elements pass a test, each does.
pub passes-at : {X : Type 0} (p : X → Bool) (xs : List X) (i : ℕ) (x : X) → list_all p xs ≡ true → slice_get xs i ≡ Some x → p x ≡ true
passes-at p [] i x all e = cc
passes-at p (y ∷ ys) zero x all e =
    let same : y ≡ x = cc in
    subst (λ z. p z ≡ true) same (and_parts (p y) (list_all p ys) all).0
passes-at p (y ∷ ys) (suc i) x all e = passes-at p ys i x (and_parts (p y) (list_all p ys) all).1 e

pub some-at : {X : Type 0} (xs : List X) (i : ℕ) → i < length xs → is_some (slice_get xs i) ≡ true
some-at [] i inside = absurd (omega (arith, inside))
some-at (x ∷ xs) zero inside = refl
some-at (x ∷ xs) (suc i) inside = some-at xs i (omega (arith, inside))

-- If a lookup under a condition finds an element, the condition holds and the place is inside the list.
pub found-inside : {X : Type 0} (b : Bool) (xs : List X) (i : ℕ) (x : X) → cond b (slice_get xs i) None ≡ Some x → (b && nat_lt i (length xs)) ≡ true
found-inside true xs i x e = lt-ltb i (length xs) (slice_get_within xs i x e)
found-inside false xs i x e = cc

-- if all of a list's elements pass a test, what a lookup under a condition finds passes it
pub own-passes : {X : Type 0} (q : X → Bool) (xs : List X) (b : Bool) (i : ℕ) (x : X) → list_all q xs ≡ true → cond b (slice_get xs i) None ≡ Some x → q x ≡ true
own-passes q xs true i x all e = passes-at q xs i x all e
own-passes q xs false i x all e = cc

-- ---- the core's own places

module _ (core : CoreId) (count : ℕ) where
  -- a place of the core's own is the place on this core with the same index
  pub place-is : (p : Place) → is_place_on core count p ≡ true → p ≡ place_on core p.index
  place-is p own = ap (λ c. place_on c p.index) (same_core-true p.core core (and_parts (same_core p.core core) (nat_lt p.index count) own).0)

  pub place-inside : (p : Place) → is_place_on core count p ≡ true → p.index < count
  place-inside p own = ltb-true p.index count (and_parts (same_core p.core core) (nat_lt p.index count) own).1

  -- a place of the core's own is looked up in the core's list
  pub there : {X : Type 0} (xs : List X) (p : Place) → is_place_on core count p ≡ true → cond (same_core p.core core) (slice_get xs p.index) None ≡ slice_get xs p.index
  there xs p own = cond-true (same_core p.core core) (slice_get xs p.index) None (and_parts (same_core p.core core) (nat_lt p.index count) own).0

  pub some-there : {X : Type 0} (xs : List X) (p : Place) → count ≡ length xs → is_place_on core count p ≡ true → is_some (cond (same_core p.core core) (slice_get xs p.index) None) ≡ true
  some-there {X} xs p many own = ap (λ (o : Option X). is_some o) (there xs p own) ∙ some-at xs p.index (subst (λ (n : ℕ). p.index < n) many (place-inside p own))

  -- a place on the core with an index below the count is the core's own
  pub own-at : (n : ℕ) → n < count → is_place_on core count (place_on core n) ≡ true
  own-at n inside = and_from (same_core core core) (nat_lt n count) (same_core-refl core) (lt-ltb n count inside)

  -- a place that is the core's own differs from a place that is not
  pub apart : (p q : Place) → is_place_on core count p ≡ false → is_place_on core count q ≡ true → same_place p q ≡ false
  apart p q other own =
      false_from_ne_true (same_place p q) (λ e. false≢true (sym other ∙ (ap (λ (x : Place). is_place_on core count x) (same_place-true p q e) ∙ own)))

-- a place differs from a place of the core with another index
pub elsewhere : (core : CoreId) (p : Place) (m : ℕ) → (m ≡ p.index → ⊥) → same_place p (place_on core m) ≡ false
elsewhere core p m other = false_from_ne_true (same_place p (place_on core m)) (λ e. other (sym (ap (λ (x : Place). x.index) (same_place-true p (place_on core m) e))))

-- ---- counters

pub record CounterPlace (core : CoreId) (counters : ℕ) (c : CounterRef) : Type 0 where
  pub ref : c ≡ counter_at core c.index
  pub inside : c.index < counters

pub place-of-counter : (core : CoreId) (counters : ℕ) (c : CounterRef) → is_place_on core counters (counter_place c) ≡ true → CounterPlace core counters c
place-of-counter core counters c own = record { ref = ap counter_of (place-is core counters (counter_place c) own); inside = place-inside core counters (counter_place c) own }
