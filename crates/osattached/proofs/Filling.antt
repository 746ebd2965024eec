-- A list that is filled place by place.
use Rattle.std.proofs.Common.{◌≡◌, ℕ, zero, suc, ◌+◌, ◌<◌, List, [], ◌∷◌, length, map, refl, ap, sym, ◌∙◌, arith, get_or}
use Rattle.std.specs.List.{slice_set}
use Rattle.osbase.specs.Sets.{numbers_from}

-- the list with its first `count` places changed
abbrev pub filled : {A : Type 0} → (ℕ → A → A) → ℕ → ℕ → List A → List A
filled F first count [] = []
filled F first zero (x ∷ xs) = x ∷ xs
filled F first (suc count) (x ∷ xs) = F first x ∷ filled F (first + 1) count xs

pub filled-none : {A : Type 0} (F : ℕ → A → A) (first : ℕ) (xs : List A) → filled F first zero xs ≡ xs
filled-none F first [] = refl
filled-none F first (x ∷ xs) = refl

pub length-filled : {A : Type 0} (F : ℕ → A → A) (first count : ℕ) (xs : List A) → length (filled F first count xs) ≡ length xs
length-filled F first count [] = refl
length-filled F first zero (x ∷ xs) = refl
length-filled F first (suc count) (x ∷ xs) = ap suc (length-filled F (first + 1) count xs)

-- the next place is unchanged
pub filled-next : {A : Type 0} (F : ℕ → A → A) (first count : ℕ) (xs : List A) (d : A) → get_or (filled F first count xs) count d ≡ get_or xs count d
filled-next F first count [] d = refl
filled-next F first zero (x ∷ xs) d = refl
filled-next F first (suc count) (x ∷ xs) d = filled-next F (first + 1) count xs d

filled-more : {A : Type 0} (F : ℕ → A → A) (first count place : ℕ) (xs : List A) (d : A) → place ≡ first + count → slice_set (filled F first count xs) count (F place (get_or xs count d)) ≡ filled F first (suc count) xs
filled-more F first count place [] d at = refl
filled-more F first zero place (x ∷ xs) d at = ap (λ n. F n x ∷ xs) (let here : place ≡ first = omega (arith, at) in here) ∙ ap (λ ys. F first x ∷ ys) (sym (filled-none F (first + 1) xs))
filled-more F first (suc count) place (x ∷ xs) d at = ap (λ ys. F first x ∷ ys) (filled-more F (first + 1) count place xs d (omega (arith, at)))

pub filled-on : {A : Type 0} (F : ℕ → A → A) (place : ℕ) (xs ys : List A) (d : A) → ys ≡ filled F 0 place xs → slice_set ys place (F place (get_or ys place d)) ≡ filled F 0 (place + 1) xs
filled-on F place xs ys d is =
    ap (λ zs. slice_set zs place (F place (get_or zs place d))) is
    ∙ ap (λ x. slice_set (filled F 0 place xs) place (F place x)) (filled-next F 0 place xs d)
    ∙ filled-more F 0 place place xs d (omega arith)
    ∙ ap (λ n. filled F 0 n xs) (let one : suc place ≡ place + 1 = omega arith in one)

-- with all places changed, the list is a table
filled-all : {A : Type 0} (F : ℕ → A → A) (G : ℕ → A) (first : ℕ) (xs : List A) (d : A) → ((k : ℕ) → k < length xs → F (first + k) (get_or xs k d) ≡ G (first + k)) → filled F first (length xs) xs ≡ map G (numbers_from first (length xs))
filled-all F G first [] d same = refl
filled-all F G first (x ∷ xs) d same =
    ap (λ y. y ∷ filled F (first + 1) (length xs) xs) (ap (λ n. F n x) here ∙ same 0 (omega arith) ∙ ap G (sym here))
    ∙ ap (λ ys. G first ∷ ys) (filled-all F G (first + 1) xs d (λ k inside. ap (λ n. F n (get_or xs k d)) (on k) ∙ same (suc k) (omega (arith, inside)) ∙ ap G (sym (on k))))
  where
    here : first ≡ first + 0
    here = omega arith

    on : (k : ℕ) → first + 1 + k ≡ first + suc k
    on k = omega arith

pub filled-table : {A : Type 0} (F : ℕ → A → A) (xs : List A) (d : A) → filled F 0 (length xs) xs ≡ map (λ (n : ℕ). F n (get_or xs n d)) (numbers_from 0 (length xs))
filled-table F xs d = filled-all F (λ (n : ℕ). F n (get_or xs n d)) 0 xs d (λ k inside. ap (λ (n : ℕ). F (0 + k) (get_or xs n d)) (let none : k ≡ 0 + k = omega arith in none))
