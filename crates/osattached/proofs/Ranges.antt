-- Lists that have something for each number of a range.
use Rattle.std.proofs.Common.{◌≡◌, ℕ, zero, suc, ◌+◌, ◌<◌, Some, List, [], ◌∷◌, ◌++◌, get_or, length, map, replicate, refl, ap, sym, ◌∙◌, arith, add-one}
use Rattle.std.specs.List.{slice_get, slice_set}
use Rattle.std.proofs.lemmas.List.{get_or-map, length-map, map-set}
use Rattle.arrayvec.specs.ArrayVec.{ArrayVec as Items}
use Rattle.osbase.specs.Sets.{numbers_from}

pub length-numbers : (first count : ℕ) → length (numbers_from first count) ≡ count
length-numbers first zero = refl
length-numbers first (suc count) = ap suc (length-numbers (first + 1) count)

pub length-table : {A : Type 0} (F : ℕ → A) (count : ℕ) → length (map F (numbers_from 0 count)) ≡ count
length-table F count = length-map (numbers_from 0 count) F ∙ length-numbers 0 count

-- two tables that agree at every number of the range
pub table-within : {A : Type 0} (F G : ℕ → A) (first count : ℕ) → ((n : ℕ) → n < first + count → F n ≡ G n) → map F (numbers_from first count) ≡ map G (numbers_from first count)
table-within F G first zero same = refl
table-within F G first (suc count) same =
    ap (λ x. x ∷ map F (numbers_from (first + 1) count)) (same first (omega arith))
    ∙ ap (λ xs. G first ∷ xs) (table-within F G (first + 1) count (λ n h. same n (omega (arith, h))))

-- a table with one place more
pub table-more : {A : Type 0} (F : ℕ → A) (count : ℕ) → map F (numbers_from 0 (count + 1)) ≡ map F (numbers_from 0 count) ++ F count ∷ []
table-more {A} F count = ap (λ n. map F (numbers_from 0 n)) (add-one count) ∙ from 0 count count (omega arith)
  where
    from : (first many last : ℕ) → last ≡ first + many → map F (numbers_from first (suc many)) ≡ map F (numbers_from first many) ++ F last ∷ []
    from first zero last is = ap (λ n. F n ∷ []) (let here : first ≡ last = omega (arith, is) in here)
    from first (suc many) last is = ap (λ xs. F first ∷ xs) (from (first + 1) many last (omega (arith, is)))

-- a list is a table by its places
pub listed : {X Y : Type 0} (f : X → Y) (G : ℕ → Y) (first : ℕ) (xs : List X) → ((k : ℕ) (x : X) → slice_get xs k ≡ Some x → f x ≡ G (first + k)) → map f xs ≡ map G (numbers_from first (length xs))
listed f G first [] same = refl
listed f G first (x ∷ xs) same =
    ap (λ y. y ∷ map f xs) (same 0 x refl ∙ ap G (let here : first + 0 ≡ first = omega arith in here))
    ∙ ap (λ ys. G first ∷ ys) (listed f G (first + 1) xs (λ k y at. same (suc k) y at ∙ ap G (let on : first + suc k ≡ first + 1 + k = omega arith in on)))

pub repeated : {Y : Type 0} (y : Y) (G : ℕ → Y) (first count : ℕ) → ((n : ℕ) → y ≡ G n) → replicate count y ≡ map G (numbers_from first count)
repeated y G first zero same = refl
repeated y G first (suc count) same = ap (λ z. z ∷ replicate count y) (same first) ∙ ap (λ ys. G first ∷ ys) (repeated y G (first + 1) count same)

-- ---- lists of bounded lists

pub added : {R : Type 0} (lists : List (Items R)) (old : List (List R)) (i place : ℕ) (list longer : Items R) (r : R) → map (λ (x : Items R). x.items) lists ≡ old → i ≡ place → place < length old → list ≡ get_or lists i list
    → longer.items ≡ list.items ++ r ∷ [] → map (λ (x : Items R). x.items) (slice_set lists i longer) ≡ slice_set old place (get_or old place [] ++ r ∷ [])
added {R} lists old i place list longer r view at known here is =
    map-set (λ (x : Items R). x.items) lists i longer
    ∙ ap (slice_set (map (λ (x : Items R). x.items) lists) i)
    (is ∙ ap (λ (x : Items R). x.items ++ r ∷ []) here ∙ ap (λ xs. xs ++ r ∷ []) (sym (get_or-map (λ (x : Items R). x.items) lists i list [] (omega (arith, at, known, ap length view, length-map lists (λ (x : Items R). x.items))))))
    ∙ ap (λ xs. slice_set xs i (get_or xs i [] ++ r ∷ [])) view
    ∙ ap (λ n. slice_set old n (get_or old n [] ++ r ∷ [])) at
