-- A list of numbers below a bound that has no number twice is no longer than the bound.
use Rattle.std.proofs.Common.{◌≡◌, ℕ, zero, suc, ◌+◌, ◌<◌, ◌≤◌, nat_eq, Bool, true, false, cond, List, [], ◌∷◌, length, refl, ap, sym, ◌∙◌, arith}
use Rattle.std.proofs.lemmas.Bool.{eq-eqb, false≢true}

-- How often a number is in this list.
abbrev pub number_count : ℕ → List ℕ → ℕ
number_count n [] = 0
number_count n (x ∷ xs) = cond (nat_eq x n) (suc (number_count n xs)) (number_count n xs)

abbrev counts_below : ℕ → List ℕ → ℕ
counts_below zero xs = 0
counts_below (suc k) xs = number_count k xs + counts_below k xs

rest-counts : (n x : ℕ) (xs : List ℕ) → number_count n xs ≤ number_count n (x ∷ xs)
rest-counts n x xs = by (nat_eq x n)
  where
    by : (b : Bool) → number_count n xs ≤ cond b (suc (number_count n xs)) (number_count n xs)
    by true = omega arith
    by false = omega arith

first-counts : (x : ℕ) (xs : List ℕ) → number_count x (x ∷ xs) ≡ suc (number_count x xs)
first-counts x xs = rw (eq-eqb x x refl) refl

rest-below : (k x : ℕ) (xs : List ℕ) → counts_below k xs ≤ counts_below k (x ∷ xs)
rest-below zero x xs = omega arith
rest-below (suc k) x xs = omega (arith, rest-counts k x xs, rest-below k x xs)

more-below : (k x : ℕ) (xs : List ℕ) → x < k → suc (counts_below k xs) ≤ counts_below k (x ∷ xs)
more-below zero x xs h = absurd (omega (arith, h))
more-below (suc k) x xs h = by (nat_eq x k) refl (more-below k x xs)
  where
    by : (b : Bool) → nat_eq x k ≡ b → (x < k → suc (counts_below k xs) ≤ counts_below k (x ∷ xs)) → suc (counts_below (suc k) xs) ≤ counts_below (suc k) (x ∷ xs)
    by true e rest = let here : number_count k (x ∷ xs) ≡ suc (number_count k xs) = rw e refl in omega (arith, here, rest-below k x xs)
    by false e rest =
        let apart : x ≡ k → ⊥ = (λ same. false≢true (sym e ∙ ap (nat_eq x) (sym same) ∙ eq-eqb x x refl)) in
        omega (arith, rest-counts k x xs, rest (omega (arith, h, apart)))

not-past : (i k : ℕ) → (k ≤ i → ⊥) → i < k
not-past i k out = omega (arith, out)

counted-below : (k : ℕ) (xs : List ℕ) → ((n : ℕ) → k ≤ n → number_count n xs ≡ 0) → length xs ≤ counts_below k xs
counted-below k [] none = omega arith
counted-below k (x ∷ xs) none =
    let rest : (n : ℕ) → k ≤ n → number_count n xs ≡ 0 = (λ n h. omega (arith, none n h, rest-counts n x xs)) in
    omega (arith, counted-below k xs rest, more-below k x xs inside)
  where
    inside : x < k
    inside = not-past x k (λ (h : k ≤ x). omega (arith, none x h, first-counts x xs))

few-below : (k : ℕ) (xs : List ℕ) → ((n : ℕ) → number_count n xs ≤ 1) → counts_below k xs ≤ k
few-below zero xs once = omega arith
few-below (suc k) xs once = omega (arith, once k, few-below k xs once)

pub few : (k : ℕ) (xs : List ℕ) → ((n : ℕ) → k ≤ n → number_count n xs ≡ 0) → ((n : ℕ) → number_count n xs ≤ 1) → length xs ≤ k
few k xs none once = omega (arith, counted-below k xs none, few-below k xs once)
