-- The reports of the cores, one after another, while each core gives up what it has.
use native.Mathlib.Omega.{arith}
use Rattle.std.proofs.Common.{◌≡◌, ◌+◌, ◌<◌, ℕ, List, [], ◌∷◌, ◌++◌, drop, get_or, length, map, take, ap, sym, ◌∙◌}
use Rattle.std.specs.List.{slice_set}
use Rattle.std.proofs.lemmas.List.{drop-drop, drop-set-lt, get_or-drop, map-append, take_more}

module _ {A B : Type 0} (f : A → B) (all now : List A) (n : ℕ) (x : A) (as-many : length now ≡ length all) (within : n < length now) (so : drop n now ≡ drop n all) (at : x ≡ get_or now n x) where
  same : get_or all n x ≡ x
  same = grind (arith, so, at, get_or-drop n all 0 x, get_or-drop n now 0 x)

  -- One more core is reported.
  pub one-more : map f (take (n + 1) all) ≡ map f (take n all) ++ f x ∷ []
  one-more = ap (map f) (take_more all n x (omega (arith, within, as-many))) ∙ map-append f (take n all) (get_or all n x ∷ []) ∙ ap (λ (y : A). map f (take n all) ++ f y ∷ []) same

  -- The cores after this one stay, whatever is left of this one.
  pub others : (y : A) → drop (n + 1) (slice_set now n y) ≡ drop (n + 1) all
  others y = drop-set-lt (n + 1) now n y (omega arith) ∙ sym (drop-drop 1 n now) ∙ ap (drop 1) so ∙ drop-drop 1 n all
