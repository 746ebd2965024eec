-- Sums over lists: of what is made of each element, and of what is found.
use Rattle.std.proofs.Common.{◌≡◌, ℕ, ◌+◌, ◌≤◌, Bool, true, false, cond, Option, Some, None, filter_map, List, [], ◌∷◌, sum_by, refl, sym, subst, ◌∙◌, arith}
use Rattle.std.specs.{List.cons_option, List.find, List.list_all, Option.option_map_or}
use Rattle.std.proofs.{lemmas.Bool.and_parts, lemmas.List.Sums.sum_by-cons}
pub use Rattle.osattached.proofs.Sums.{sum-both}

pub sum-made : {A B : Type 0} (g : A → Option B) (f : B → ℕ) (xs : List A) → sum_by f (filter_map g xs) ≡ sum_by (λ (x : A). option_map_or f (g x) 0) xs
sum-made g f [] = refl
sum-made {A} {B} g f (x ∷ xs) = by (g x) (sum-made g f xs) ∙ sym (sum_by-cons (λ (y : A). option_map_or f (g y) 0) x xs)
  where
    by : (o : Option B) → sum_by f (filter_map g xs) ≡ sum_by (λ (y : A). option_map_or f (g y) 0) xs → sum_by f (cons_option o (filter_map g xs)) ≡ option_map_or f o 0 + sum_by (λ (y : A). option_map_or f (g y) 0) xs
    by (Some y) rest = omega (arith, sum_by-cons f y (filter_map g xs), rest)
    by None rest = omega (arith, rest)

-- what is found is among those that pass
pub found-le : {A : Type 0} (near p on : A → Bool) (f : A → ℕ) → ((x : A) → near x ≡ true → p x ≡ true → on x ≡ true) → (xs : List A) → list_all near xs ≡ true
    → option_map_or f (find p xs) 0 ≤ sum_by (λ (x : A). cond (p x) (cond (on x) (f x) 0) 0) xs
found-le near p on f so [] all = omega arith
found-le {A} near p on f so (x ∷ xs) all =
    subst (λ (n : ℕ). option_map_or f (cond (p x) (Some x) (find p xs)) 0 ≤ n) (sym (sum_by-cons (λ (y : A). cond (p y) (cond (on y) (f y) 0) 0) x xs))
    (by (p x) refl (found-le near p on f so xs (and_parts (near x) (list_all near xs) all).1))
  where
    here : near x ≡ true
    here = (and_parts (near x) (list_all near xs) all).0

    by : (b : Bool) → p x ≡ b → option_map_or f (find p xs) 0 ≤ sum_by (λ (y : A). cond (p y) (cond (on y) (f y) 0) 0) xs → option_map_or f (cond b (Some x) (find p xs)) 0 ≤ cond b (cond (on x) (f x) 0) 0 + sum_by (λ (y : A). cond (p y) (cond (on y) (f y) 0) 0) xs
    by true e rest = subst (λ (d : Bool). f x ≤ cond d (f x) 0 + sum_by (λ (y : A). cond (p y) (cond (on y) (f y) 0) 0) xs) (sym (so x here e)) (omega arith)
    by false e rest = omega (arith, rest)
