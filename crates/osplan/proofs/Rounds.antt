-- A test on the elements of a list that lets more pass with each round, until a round changes nothing: as many rounds
-- as there are elements are enough.
use Rattle.std.proofs.Common.{◌≡◌, ◌⊎◌, ℕ, zero, suc, ◌+◌, ◌≤◌, ◌<◌, Bool, true, false, cond, List, [], ◌∷◌, length, inl, inr, refl, sym, ◌∙◌, arith}
use Rattle.std.specs.List.{AllByRecursion, count_by}
use Rattle.std.proofs.{lemmas.Bool.cases_lt, lemmas.Bool.cond_both, lemmas.List.Elements.All-from_recursion, lemmas.List.Elements.All-weaker, lemmas.List.Elements.recursion_from_All, lemmas.List.Sums.count_by-le-length, lemmas.List.Sums.sum_by-cons, lemmas.List.Sums.sum_by-le-sum_by}

-- what a test adds to a count
abbrev one_if : Bool → ℕ
one_if b = cond b 1 0

same-test : (a b : Bool) → one_if a ≡ one_if b → b ≡ a
same-test true true e = refl
same-test true false e = absurd (omega (arith, e))
same-test false true e = absurd (omega (arith, e))
same-test false false e = refl

-- If one test passes all that another does, and both pass as many elements, they agree.
module _ {X : Type 0} (p q : X → Bool) (weaker : (x : X) → p x ≡ true → q x ≡ true) where
  fewer : (x : X) → one_if (p x) ≤ one_if (q x)
  fewer x = cond_both (p x) 1 0 (λ n. n ≤ one_if (q x)) (λ e. rw (weaker x e) (omega arith)) (λ e. omega arith)

  no-fewer : (xs : List X) → count_by p xs ≤ count_by q xs
  no-fewer xs = sum_by-le-sum_by (λ x. one_if (p x)) (λ x. one_if (q x)) xs fewer

  agree : (xs : List X) → count_by p xs ≡ count_by q xs → AllByRecursion (λ x. q x ≡ p x) xs
  agree [] e = tt
  agree (x ∷ xs) e =
      let parts : one_if (p x) + count_by p xs ≡ one_if (q x) + count_by q xs = sym (sum_by-cons (λ y. one_if (p y)) x xs) ∙ e ∙ sum_by-cons (λ y. one_if (q y)) x xs in
      (same-test (p x) (q x) (omega (arith, fewer x, no-fewer xs)), agree xs (omega (arith, fewer x, no-fewer xs)))

module _ {X : Type 0} (test : ℕ → X → Bool) (xs : List X) where
  -- The next round changes nothing.
  abbrev pub Stays : ℕ → Type 0
  Stays n = AllByRecursion (λ x. test (suc n) x ≡ test n x) xs

  module _ (more : (n : ℕ) (x : X) → test n x ≡ true → test (suc n) x ≡ true) (on : (n : ℕ) → Stays n → (x : X) → test (suc n) x ≡ test n x → test (suc (suc n)) x ≡ test (suc n) x) where
    abbrev count : ℕ → ℕ
    count n = count_by (test n) xs

    further : (n : ℕ) → Stays n ⊎ (n ≤ count n) → Stays n ⊎ (n < count (suc n))
    further n (inl stays) = inl stays
    further n (inr many) =
        elim (cases_lt (count n) (count (suc n))) as (λ _. Stays n ⊎ (n < count (suc n))) [
          | inl grows ↦ inr (omega (arith, many, grows))
          | inr few ↦ inl (agree (test n) (test (suc n)) (more n) xs (omega (arith, few, no-fewer (test n) (test (suc n)) (more n) xs)))
        ]

    stays-on : (n : ℕ) → Stays n → Stays (suc n)
    stays-on n stays = recursion_from_All _ xs (All-weaker _ (λ x. test (suc (suc n)) x ≡ test (suc n) x) (on n stays) xs (All-from_recursion (λ x. test (suc n) x ≡ test n x) xs stays))

    settles : (n : ℕ) → Stays n ⊎ (n ≤ count n)
    settles zero = inr (omega arith)
    settles (suc n) =
        elim (further n (settles n)) as (λ _. Stays (suc n) ⊎ (suc n ≤ count (suc n))) [
          | inl stays ↦ inl (stays-on n stays)
          | inr many ↦ inr (omega (arith, many))
        ]

    pub settled : Stays (length xs)
    settled =
        elim (further (length xs) (settles (length xs))) as (λ _. Stays (length xs)) [
          | inl stays ↦ stays
          | inr many ↦ absurd (omega (arith, many, count_by-le-length (test (suc (length xs))) xs))
        ]
