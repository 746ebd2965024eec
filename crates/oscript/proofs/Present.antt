-- A test of the elements that are present in a list with gaps.
use Rattle.std.proofs.Common.{◌≡◌, Bool, true, false, ◌&&◌, ◌||◌, List, [], ◌∷◌, Option, Some, None, refl, ap}
use Rattle.std.specs.{List.list_all, List.list_any, List.filter_map, Option.option_map_or}

pub any_present : {X : Type 0} (p : X → Bool) (xs : List (Option X)) → list_any (λ o. option_map_or p o false) xs ≡ list_any p (filter_map (λ o. o) xs)
any_present p [] = refl
any_present p (None ∷ xs) = any_present p xs
any_present p (Some x ∷ xs) = ap (λ b. p x || b) (any_present p xs)

pub all_present : {X : Type 0} (p : X → Bool) (xs : List (Option X)) → list_all (λ o. option_map_or p o true) xs ≡ list_all p (filter_map (λ o. o) xs)
all_present p [] = refl
all_present p (None ∷ xs) = all_present p xs
all_present p (Some x ∷ xs) = ap (λ b. p x && b) (all_present p xs)
