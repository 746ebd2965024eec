-- Tests over lists, and over consecutive numbers, element by element.
use Rattle.std.proofs.Common.{◌≡◌, ℕ, zero, suc, ◌+◌, ◌<◌, Bool, true, false, List, map, Some, get_or, slice_get, refl, ap, subst, ◌∙◌, arith}
use Rattle.std.specs.List.{AllByRecursion, list_all, list_any}
use Rattle.std.proofs.lemmas.Bool.{and_from}
use Rattle.std.proofs.{lemmas.List.Elements.All-from_recursion, lemmas.List.Folds.Any-from_list_any, lemmas.List.Sums.list_all-from_AllPass, lemmas.Option.get_or_from_slice_get, lemmas.Option.slice_get-get_or, lemmas.Option.slice_get_within}
use Rattle.osbase.specs.Sets.{numbers_from}

-- If each element passes a test, all pass.
pub all-at : {X : Type 0} (p : X → Bool) (xs : List X) → ((i : ℕ) (x : X) → slice_get xs i ≡ Some x → p x ≡ true) → list_all p xs ≡ true
all-at p xs each = list_all-from_AllPass p xs (λ i d lt. each i (get_or xs i d) (slice_get-get_or xs i d lt))

-- An element that passes.
pub record One {X : Type 0} (p : X → Bool) (xs : List X) : Type 0 where
  pub at : ℕ
  pub one : X
  pub there : slice_get xs at ≡ Some one
  pub passes : p one ≡ true

pub any-one : {X : Type 0} (p : X → Bool) (xs : List X) → list_any p xs ≡ true → One p xs
any-one p xs e =
    let any = Any-from_list_any p xs e in
    record { at = any.0; one = any.1; there = slice_get-get_or xs any.0 any.1 any.2 ∙ ap Some any.3; passes = any.4 }

-- What holds of each element, one by one, holds of the element at a place.
pub recursion-at : {X : Type 0} (P : X → Type 0) (xs : List X) (i : ℕ) (x : X) → AllByRecursion P xs → slice_get xs i ≡ Some x → P x
recursion-at P xs i x all e = subst P (get_or_from_slice_get xs i x x e) (All-from_recursion P xs all i x (slice_get_within xs i x e))

-- ---- `count` numbers

module _ {X : Type 0} (at : ℕ → X) where
  number-from : (first count k : ℕ) → k < count → slice_get (map at (numbers_from first count)) k ≡ Some (at (k + first))
  number-from first zero k lt = absurd (omega (arith, lt))
  number-from first (suc count) zero lt = let same : first ≡ 0 + first = omega arith in ap (λ (n : ℕ). Some (at n)) same
  number-from first (suc count) (suc k) lt =
      let same : k + (first + 1) ≡ suc k + first = omega arith in
      number-from (first + 1) count k (omega (arith, lt)) ∙ ap (λ (n : ℕ). Some (at n)) same

  pub number-at : (count k : ℕ) → k < count → slice_get (map at (numbers_from 0 count)) k ≡ Some (at k)
  number-at count k lt = let same : k + 0 ≡ k = omega arith in number-from 0 count k lt ∙ ap (λ (n : ℕ). Some (at n)) same

  module _ (p : X → Bool) where
    pub all-numbers : (first count : ℕ) → ((n : ℕ) → n < count + first → p (at n) ≡ true) → list_all p (map at (numbers_from first count)) ≡ true
    all-numbers first zero each = refl
    all-numbers first (suc count) each = and_from _ _ (each first (omega arith)) (all-numbers (first + 1) count (λ n lt. each n (omega (arith, lt))))

    pub no-number : (first count : ℕ) → ((n : ℕ) → n < count + first → p (at n) ≡ false) → list_any p (map at (numbers_from first count)) ≡ false
    no-number first zero each = refl
    no-number first (suc count) each = rw (each first (omega arith)) (no-number (first + 1) count (λ n lt. each n (omega (arith, lt))))
