-- Reading each element of a list, as a loop does: what was read goes before what is still to read.
use Rattle.std.proofs.Common.{◌≡◌, ℕ, ◌+◌, ◌<◌, List, [], ◌∷◌, ◌++◌, length, get_or, drop, Option, Some, option_map, map, refl, sym, ap, ◌∙◌, append_assoc, append-nil, arith}
use Rattle.std.proofs.lemmas.List.{drop_more}
use Rattle.osjson.specs.{declared.refusals.Refusal.Refusal, declared.refusals.Refusal.TheVariants.OutOfMemory, declared.refusals.Refusal.TheVariants.Unfit, Reading.Refuses, Reading.each}

abbrev pub with_front : {Y : Type 0} → List Y → Option (List Y) → Option (List Y)
with_front front read = option_map (λ ys. front ++ ys) read

pub with_front-nil : {Y : Type 0} (read : Option (List Y)) → with_front [] read ≡ read
with_front-nil read = grind arith

-- what is left of a list from an element on begins with that element
pub drop-here : {X : Type 0} (xs : List X) (i : ℕ) (x : X) → i < length xs → x ≡ get_or xs i x → drop i xs ≡ x ∷ drop (i + 1) xs
drop-here xs i x lt is = drop_more xs i x lt ∙ ap (λ w. w ∷ drop (i + 1) xs) (sym is)

module _ {X Y : Type 0} (f : X → Option Y) (front : List Y) {x : X} {rest whole : List X} {total : Option (List Y)} (is : whole ≡ x ∷ rest) where
  pub each-more : (y : Y) → f x ≡ Some y → with_front front (each f whole) ≡ total → with_front (front ++ y ∷ []) (each f rest) ≡ total
  each-more y e so_far = grind (arith, append_assoc)

  -- if the reading of an element is refused, so is the reading of the whole list
  pub each-stop : (refusal : Refusal) → Refuses refusal (f x) → with_front front (each f whole) ≡ total → Refuses refusal total
  each-stop OutOfMemory refused so_far = tt
  each-stop Unfit refused so_far = grind arith

pub each-end : {X Y : Type 0} (f : X → Option Y) {whole : List X} {front : List Y} {total : Option (List Y)} → whole ≡ [] → with_front front (each f whole) ≡ total → total ≡ Some front
each-end f is so_far = grind (arith, append-nil)

-- reading a mapped list: each element is mapped, and then read
pub each-map : {V X Y : Type 0} (f : X → Option Y) (g : V → X) (vs : List V) → each f (map g vs) ≡ each (λ v. f (g v)) vs
each-map f g [] = refl
each-map f g (v ∷ vs) = rw (each-map f g vs) refl
