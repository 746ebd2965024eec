-- Tests of lists and of the lists made of them.
use Rattle.std.proofs.Common.{◌≡◌, ◌&&◌, Bool, true, List, [], ◌∷◌, map, refl, sym, ◌∙◌, arith}
use Rattle.std.specs.List.{list_all, list_any}
use Rattle.std.proofs.lemmas.{Bool.and_from, List.length-map, List.map-id, List.Folds.list_all-map}
use Rattle.osplan.proofs.Tests.{all-weaker}

pub list_all-by : {X Y : Type 0} (p : X → Bool) (q : Y → Bool) (f : X → Y) → ((x : X) → p x ≡ true → q (f x) ≡ true) → (xs : List X) → list_all p xs ≡ true → list_all q (map f xs) ≡ true
list_all-by p q f each xs h = list_all-map q f xs ∙ all-weaker p (λ x. q (f x)) each xs h

pub list_all-every : {X : Type 0} (p : X → Bool) → ((x : X) → p x ≡ true) → (xs : List X) → list_all p xs ≡ true
list_all-every p each [] = refl
list_all-every p each (x ∷ xs) = and_from _ _ (each x) (list_all-every p each xs)

pub list_all-total : {X Y : Type 0} (q : Y → Bool) (f : X → Y) → ((x : X) → q (f x) ≡ true) → (xs : List X) → list_all q (map f xs) ≡ true
list_all-total q f each xs = list_all-map q f xs ∙ list_all-every (λ x. q (f x)) each xs

pub list_any-by : {X Y : Type 0} (p : X → Bool) (q : Y → Bool) (f : X → Y) → ((x : X) → p x ≡ true → q (f x) ≡ true) → (xs : List X) → list_any p xs ≡ true → list_any q (map f xs) ≡ true
list_any-by p q f each [] h = cc
list_any-by p q f each (x ∷ xs) h = grind (arith, each x, list_any-by p q f each xs)

-- ---- lists that are mapped twice

pub map-same : {X Y Z : Type 0} (f : Y → Z) (g : X → Y) (h : X → Z) (p : X → Bool) → ((x : X) → p x ≡ true → f (g x) ≡ h x) → (xs : List X) → list_all p xs ≡ true → map f (map g xs) ≡ map h xs
map-same f g h p same [] a = refl
map-same f g h p same (x ∷ xs) a = rw (same x (grind arith), map-same f g h p same xs (grind arith)) refl

pub map-back : {X Y : Type 0} (f : Y → X) (g : X → Y) (p : X → Bool) → ((x : X) → p x ≡ true → f (g x) ≡ x) → (xs : List X) → list_all p xs ≡ true → map f (map g xs) ≡ xs
map-back f g p back xs a = map-same f g (λ x. x) p back xs a ∙ map-id xs

-- all elements pass both tests if all pass the one and all pass the other
pub all-split : {X : Type 0} (p q r : X → Bool) → ((x : X) → p x ≡ (q x && r x)) → (xs : List X) → list_all p xs ≡ (list_all q xs && list_all r xs)
all-split p q r each [] = refl
all-split p q r each (x ∷ xs) = rw (each x, all-split p q r each xs) (grind arith)

pub all-apart : {X : Type 0} (p q : X → Bool) (xs : List X) → list_all (λ x. p x && q x) xs ≡ true → (list_all p xs && list_all q xs) ≡ true
all-apart p q xs h = sym (all-split (λ x. p x && q x) p q (λ x. refl) xs) ∙ h

-- two tests agree on a list if they agree on each element that passes a third test, and all pass it
pub all-same : {X Y : Type 0} (q : Y → Bool) (g : X → Y) (p r : X → Bool) → ((x : X) → r x ≡ true → q (g x) ≡ p x) → (xs : List X) → list_all r xs ≡ true → list_all q (map g xs) ≡ list_all p xs
all-same q g p r same [] a = refl
all-same q g p r same (x ∷ xs) a = rw (same x (grind arith), all-same q g p r same xs (grind arith)) refl

-- a test of each element of a mapped list
pub ruleset mapped = (list_all-map)

-- a test of each element of a mapped list, and its length
pub ruleset counted = (list_all-map, length-map)
