-- Sums over lists: of what is kept, by rows and by columns, and of what occurs at most once.
use Rattle.std.proofs.Common.{◌≡◌, ℕ, zero, suc, ◌+◌, ◌≤◌, Bool, true, false, cond, filter, List, [], ◌∷◌, map, sum_by, refl, ap, sym, subst, ◌∙◌, arith}
use Rattle.std.proofs.{lemmas.Bool.false_from_ne_true, lemmas.List.Sums.sum_by-cons}
use Rattle.osbase.specs.Sets.{numbers_from}

pub sum-none : {A : Type 0} (xs : List A) → sum_by (λ (x : A). 0) xs ≡ 0
sum-none [] = refl
sum-none {A} (x ∷ xs) = omega (arith, sum_by-cons (λ (y : A). 0) x xs, sum-none xs)

pub sum-both : {A : Type 0} (f g : A → ℕ) (xs : List A) → sum_by (λ (x : A). f x + g x) xs ≡ sum_by f xs + sum_by g xs
sum-both f g [] = refl
sum-both {A} f g (x ∷ xs) = omega (arith, sum_by-cons (λ (y : A). f y + g y) x xs, sum_by-cons f x xs, sum_by-cons g x xs, sum-both f g xs)

-- by rows and by columns
pub sum-across : {A B : Type 0} (v : A → B → ℕ) (xs : List A) (ys : List B) → sum_by (λ (x : A). sum_by (v x) ys) xs ≡ sum_by (λ (y : B). sum_by (λ (x : A). v x y) xs) ys
sum-across {A} {B} v [] ys = sym (sum-none ys)
sum-across {A} {B} v (x ∷ xs) ys =
    sum_by-cons (λ (z : A). sum_by (v z) ys) x xs
    ∙ ap (λ (n : ℕ). sum_by (v x) ys + n) (sum-across v xs ys)
    ∙ sym (sum-both (v x) (λ (y : B). sum_by (λ (z : A). v z y) xs) ys)
    ∙ each ys
  where
    each : (zs : List B) → sum_by (λ (y : B). v x y + sum_by (λ (z : A). v z y) xs) zs ≡ sum_by (λ (y : B). sum_by (λ (z : A). v z y) (x ∷ xs)) zs
    each [] = refl
    each (y ∷ zs) =
        omega (
          arith,
          sum_by-cons (λ (y : B). v x y + sum_by (λ (z : A). v z y) xs) y zs,
          sum_by-cons (λ (y : B). sum_by (λ (z : A). v z y) (x ∷ xs)) y zs,
          sum_by-cons (λ (z : A). v z y) x xs,
          each zs,
        )

pub sum-kept : {A : Type 0} (q : A → Bool) (f : A → ℕ) (xs : List A) → sum_by f (filter q xs) ≡ sum_by (λ (x : A). cond (q x) (f x) 0) xs
sum-kept q f [] = refl
sum-kept {A} q f (x ∷ xs) = by (q x) (sum-kept q f xs) ∙ sym (sum_by-cons (λ (y : A). cond (q y) (f y) 0) x xs)
  where
    by : (b : Bool) → sum_by f (filter q xs) ≡ sum_by (λ (y : A). cond (q y) (f y) 0) xs → sum_by f (cond b (x ∷ filter q xs) (filter q xs)) ≡ cond b (f x) 0 + sum_by (λ (y : A). cond (q y) (f y) 0) xs
    by true rest = omega (arith, sum_by-cons f x (filter q xs), rest)
    by false rest = omega (arith, rest)

pub sum-mapped : {A : Type 0} (g : A → ℕ) (F : ℕ → A) (ns : List ℕ) → sum_by g (map F ns) ≡ sum_by (λ (n : ℕ). g (F n)) ns
sum-mapped g F [] = refl
sum-mapped g F (n ∷ ns) = omega (arith, sum_by-cons g (F n) (map F ns), sum_by-cons (λ (m : ℕ). g (F m)) n ns, sum-mapped g F ns)

-- a sum over numbers, of which at most one passes the test
past : (q : ℕ → Bool) (k first count : ℕ) → ((n : ℕ) → first ≤ n → q n ≡ false) → sum_by (λ (n : ℕ). cond (q n) k 0) (numbers_from first count) ≡ 0
past q k first zero none = refl
past q k first (suc count) none =
    sum_by-cons (λ (n : ℕ). cond (q n) k 0) first (numbers_from (first + 1) count)
    ∙ ap (λ (b : Bool). cond b k 0 + sum_by (λ (n : ℕ). cond (q n) k 0) (numbers_from (first + 1) count)) (none first (omega arith))
    ∙ omega (arith, past q k (first + 1) count (λ n h. none n (omega (arith, h))))

pub at-most-once : (q : ℕ → Bool) (k first count : ℕ) → ((m n : ℕ) → q m ≡ true → q n ≡ true → m ≡ n) → sum_by (λ (n : ℕ). cond (q n) k 0) (numbers_from first count) ≤ k
at-most-once q k first zero once = omega arith
at-most-once q k first (suc count) once =
    subst (λ (n : ℕ). n ≤ k) (sym (sum_by-cons (λ (n : ℕ). cond (q n) k 0) first (numbers_from (first + 1) count))) (by (q first) refl (at-most-once q k (first + 1) count once))
  where
    by : (b : Bool) → q first ≡ b → sum_by (λ (n : ℕ). cond (q n) k 0) (numbers_from (first + 1) count) ≤ k → cond b k 0 + sum_by (λ (n : ℕ). cond (q n) k 0) (numbers_from (first + 1) count) ≤ k
    by false e rest = omega (arith, rest)
    by true e rest =
        let others : (n : ℕ) → first + 1 ≤ n → q n ≡ false = λ n h. false_from_ne_true (q n) (λ d. omega (arith, h, once first n e d)) in
        omega (arith, past q k (first + 1) count others)
