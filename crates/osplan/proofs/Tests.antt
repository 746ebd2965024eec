-- Tests over lists.
use Rattle.std.proofs.Common.{◌≡◌, ℕ, ◌≤◌, Bool, true, false, not, ◌&&◌, ◌||◌, nat_eq, List, [], ◌∷◌, ◌++◌, flat_map, length, filter, map, Option, Some, None, is_some, refl, sym, ap, ◌∙◌}
use Rattle.std.specs.{List.list_all, List.list_any, List.find, List.position_or_len, List.slice_get, Option.option_copied, Borrow.Bor}
use Rattle.std.proofs.lemmas.Bool.{and_parts, and_from, cond_both, eqb-true, false≢true, not-true, not_from_false, or_left, or_parts, true_from_ne_false}
use Rattle.std.proofs.{lemmas.List.nil_from_length, lemmas.List.Elements.All-filter, lemmas.List.Folds.find_at, lemmas.List.Folds.list_all-append, lemmas.List.Folds.list_any-append, lemmas.Option.get_or_from_slice_get, lemmas.Option.slice_get-map, lemmas.Option.slice_get_within}
use Rattle.std.proofs.lemmas.List.Sums.{AllPass-from_list_all, count_by-le-length, length-filter, list_all-from_AllPass, passes_at_first}
use Rattle.osbase.proofs.Places.{passes-at}

pub all-weaker : {X : Type 0} (p q : X → Bool) → ((x : X) → p x ≡ true → q x ≡ true) → (xs : List X) → list_all p xs ≡ true → list_all q xs ≡ true
all-weaker p q imply [] a = refl
all-weaker p q imply (x ∷ xs) a = let parts = and_parts (p x) (list_all p xs) a in and_from _ _ (imply x parts.0) (all-weaker p q imply xs parts.1)

pub all-both : {X : Type 0} (p q : X → Bool) (xs : List X) → list_all p xs ≡ true → list_all q xs ≡ true → list_all (λ x. p x && q x) xs ≡ true
all-both p q [] a b = refl
all-both p q (x ∷ xs) a b =
    let first = and_parts (p x) (list_all p xs) a in
    let second = and_parts (q x) (list_all q xs) b in
    and_from _ _ (and_from _ _ first.0 second.0) (all-both p q xs first.1 second.1)

-- two functions that agree where a test holds
pub map-where : {X Y : Type 0} (f g : X → Y) (p : X → Bool) → ((x : X) → p x ≡ true → f x ≡ g x) → (xs : List X) → list_all p xs ≡ true → map f xs ≡ map g xs
map-where f g p same [] a = refl
map-where f g p same (x ∷ xs) a = let parts = and_parts (p x) (list_all p xs) a in rw (same x parts.0, map-where f g p same xs parts.1) refl

-- two tests that agree where a third holds
pub any-same : {X : Type 0} (p q where_ : X → Bool) → ((x : X) → where_ x ≡ true → p x ≡ q x) → (xs : List X) → list_all where_ xs ≡ true → list_any p xs ≡ list_any q xs
any-same p q where_ same [] a = refl
any-same p q where_ same (x ∷ xs) a = let parts = and_parts (where_ x) (list_all where_ xs) a in rw (same x parts.0, any-same p q where_ same xs parts.1) refl

pub any-find : {X : Type 0} (p : X → Bool) (xs : List X) → list_any p xs ≡ is_some (find p xs)
any-find p [] = refl
any-find p (x ∷ xs) = cond_both (p x) (Some x) (find p xs) (λ o. (p x || list_any p xs) ≡ is_some o) (λ here. or_left (p x) _ here) (λ other. rw other (any-find p xs))

pub is_some-copied : {X : Type 0} (o : Option (Bor X)) → is_some (option_copied o) ≡ is_some o
is_some-copied None = refl
is_some-copied (Some x) = refl

-- what is found passes the test, and each test that all pass
pub find-holds : {X : Type 0} (p : X → Bool) (ys : List X) (x : X) → find p ys ≡ Some x → p x ≡ true
find-holds p ys x e =
    let at = sym (find_at p ys) ∙ e in
    ap p (sym (get_or_from_slice_get ys (position_or_len p ys) x x at)) ∙ passes_at_first p ys x (slice_get_within ys (position_or_len p ys) x at)

pub find-passes : {X : Type 0} (p q : X → Bool) (ys : List X) (x : X) → list_all q ys ≡ true → find p ys ≡ Some x → q x ≡ true
find-passes p q ys x a e = passes-at q ys (position_or_len p ys) x a (sym (find_at p ys) ∙ e)

-- If no element passes a test, all fail it, also the element at a place and the one that is found.
pub all-not : {X : Type 0} (p : X → Bool) (xs : List X) → list_any p xs ≡ false → list_all (λ x. not (p x)) xs ≡ true
all-not p [] e = refl
all-not p (x ∷ xs) e = let parts = or_parts (p x) (list_any p xs) e in and_from _ _ (not_from_false _ parts.0) (all-not p xs parts.1)

pub fails-at : {X : Type 0} (p : X → Bool) (xs : List X) (i : ℕ) (x : X) → list_any p xs ≡ false → slice_get xs i ≡ Some x → p x ≡ false
fails-at p xs i x none e = not-true (p x) (passes-at (λ y. not (p y)) xs i x (all-not p xs none) e)

pub find-fails : {X : Type 0} (p q : X → Bool) (xs : List X) (x : X) → list_any q xs ≡ false → find p xs ≡ Some x → q x ≡ false
find-fails p q xs x none e = not-true (q x) (find-passes p (λ y. not (q y)) xs x (all-not q xs none) e)

-- If a found element passes a test, some element passes it.
pub any-found : {X : Type 0} (p q : X → Bool) (xs : List X) (x : X) → find p xs ≡ Some x → q x ≡ true → list_any q xs ≡ true
any-found p q xs x e h = true_from_ne_false _ (λ none. false≢true (sym (find-fails p q xs x none e) ∙ h))

-- If all pass one test and none a second, all pass a third that follows from this.
pub all-without : {X : Type 0} (p q r : X → Bool) → ((x : X) → p x ≡ true → q x ≡ false → r x ≡ true) → (xs : List X) → list_all p xs ≡ true → list_any q xs ≡ false → list_all r xs ≡ true
all-without p q r imply xs a none =
    all-weaker (λ x. p x && not (q x)) r (λ x h. let parts = and_parts (p x) _ h in imply x parts.0 (not-true _ parts.1)) xs (all-both p (λ x. not (q x)) xs a (all-not q xs none))

-- A filter keeps at most as many elements as the list has.
pub length-filter-le : {X : Type 0} (p : X → Bool) (xs : List X) → length (filter p xs) ≤ length xs
length-filter-le p xs = rw (length-filter p xs) (count_by-le-length p xs)

-- If all elements pass a test, those that a filter keeps pass it.
pub all-filter : {X : Type 0} (p q : X → Bool) (xs : List X) → list_all p xs ≡ true → list_all p (filter q xs) ≡ true
all-filter p q xs a = list_all-from_AllPass p (filter q xs) (All-filter q (λ x. p x ≡ true) xs (AllPass-from_list_all p xs a))

-- A list of length 0 is empty.
pub none-from : {X : Type 0} (xs : List X) → nat_eq (length xs) 0 ≡ true → xs ≡ []
none-from xs e = nil_from_length xs (eqb-true (length xs) 0 e)

pub all-append : {X : Type 0} (p : X → Bool) (xs ys : List X) → list_all p xs ≡ true → list_all p ys ≡ true → list_all p (xs ++ ys) ≡ true
all-append p xs ys a b = list_all-append p xs ys ∙ and_from _ _ a b

-- All elements of joined lists pass a test exactly if those of each list do.
parts-of : {X Y : Type 0} (p : Y → Bool) (f : X → List Y) (xs : List X) → list_all p (flat_map f xs) ≡ list_all (λ x. list_all p (f x)) xs
parts-of p f [] = refl
parts-of p f (x ∷ xs) = list_all-append p (f x) (flat_map f xs) ∙ ap (λ (b : Bool). list_all p (f x) && b) (parts-of p f xs)

pub all-flat : {X Y : Type 0} (p : Y → Bool) (f : X → List Y) (xs : List X) → list_all (λ x. list_all p (f x)) xs ≡ true → list_all p (flat_map f xs) ≡ true
all-flat p f xs a = parts-of p f xs ∙ a

pub each-flat : {X Y : Type 0} (p : Y → Bool) (f : X → List Y) (xs : List X) → list_all p (flat_map f xs) ≡ true → list_all (λ x. list_all p (f x)) xs ≡ true
each-flat p f xs a = sym (parts-of p f xs) ∙ a

pub any-flat : {X Y : Type 0} (p : Y → Bool) (f : X → List Y) (xs : List X) → list_any p (flat_map f xs) ≡ list_any (λ x. list_any p (f x)) xs
any-flat p f [] = refl
any-flat p f (x ∷ xs) = list_any-append p (f x) (flat_map f xs) ∙ ap (λ (b : Bool). list_any p (f x) || b) (any-flat p f xs)

pub any-mapped : {X Y : Type 0} (p : Y → Bool) (f : X → Y) (xs : List X) → list_any p (map f xs) ≡ list_any (λ x. p (f x)) xs
any-mapped p f [] = refl
any-mapped p f (x ∷ xs) = ap (λ (b : Bool). p (f x) || b) (any-mapped p f xs)

-- an element of a mapped list
pub ruleset get_mapped = (slice_get-map)
