-- Tables: a value for each number of a range.
use Rattle.std.proofs.Common.{◌≡◌, ℕ, zero, suc, ◌+◌, ◌-◌, ◌≤◌, ◌<◌, ◌∷◌, map, refl, ap, ◌∙◌, arith, get_or}
use Rattle.std.specs.List.{slice_set}
use Rattle.osbase.specs.Sets.{numbers_from}

-- the numbers from `n` up to a bound begin with `n`
pub numbers-next : (n most : ℕ) → n < most → numbers_from n (most - n) ≡ n ∷ numbers_from (n + 1) (most - (n + 1))
numbers-next n most below = ap (numbers_from n) (let one : most - n ≡ suc (most - (n + 1)) = omega (arith, below) in one)

-- a table's entry at a place is the value for the number of this place
pub table-at : {A : Type 0} (F : ℕ → A) (first count place n : ℕ) (d : A) → n ≡ first + place → place < count → get_or (map F (numbers_from first count)) place d ≡ F n
table-at F first zero place n d e within = absurd (omega (arith, within))
table-at F first (suc count) zero n d e within = ap F (let here : first ≡ n = omega (arith, e) in here)
table-at F first (suc count) (suc place) n d e within = table-at F (first + 1) count place n d (omega (arith, e)) (omega (arith, within))

-- two tables that agree at every number are equal
pub table-same : {A : Type 0} (F G : ℕ → A) (first count : ℕ) → ((n : ℕ) → first ≤ n → F n ≡ G n) → map F (numbers_from first count) ≡ map G (numbers_from first count)
table-same F G first zero same = refl
table-same F G first (suc count) same =
    ap (λ x. x ∷ map F (numbers_from (first + 1) count)) (same first (omega arith))
    ∙ ap (λ xs. G first ∷ xs) (table-same F G (first + 1) count (λ n h. same n (omega (arith, h))))

-- if two tables agree at every number but one, they are equal once the first gets the second one's entry there
pub table-set : {A : Type 0} (F G : ℕ → A) (first count place n : ℕ) → n ≡ first + place → place < count → ((m : ℕ) → (m ≡ n → ⊥) → F m ≡ G m) → slice_set (map F (numbers_from first count)) place (G n) ≡ map G (numbers_from first count)
table-set F G first zero place n e within others = absurd (omega (arith, within))
table-set F G first (suc count) zero n e within others =
    ap (λ m. G m ∷ map F (numbers_from (first + 1) count)) (let here : n ≡ first = omega (arith, e) in here)
    ∙ ap (λ xs. G first ∷ xs) (table-same F G (first + 1) count (λ m h. others m (λ q. omega (arith, q, h, e))))
table-set F G first (suc count) (suc place) n e within others =
    ap (λ x. x ∷ slice_set (map F (numbers_from (first + 1) count)) place (G n)) (others first (λ q. omega (arith, q, e)))
    ∙ ap (λ xs. G first ∷ xs) (table-set F G (first + 1) count place n (omega (arith, e)) (omega (arith, within)) others)
