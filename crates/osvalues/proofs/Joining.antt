-- Texts that are joined: joined pieces are equal if their texts are.
use Rattle.std.proofs.Common.{◌≡◌, ℕ, List, [], ◌∷◌, ◌++◌, map, refl, sym, ap, ◌∙◌}
use Rattle.std.{specs.List.join_by, proofs.lemmas.List.Folds.flat_map-map}

join-map : {X : Type 0} (f : X → List ℕ) (separator : List ℕ) (xs : List X) → join_by f separator xs ≡ join_by (λ text. text) separator (map f xs)
join-map f separator [] = refl
join-map f separator (x ∷ xs) = ap (λ text. f x ++ text) (sym (flat_map-map (λ text. separator ++ text) f xs))

pub join-pieces : {X Y : Type 0} (f : X → List ℕ) (g : Y → List ℕ) (separator : List ℕ) (xs : List X) (ys : List Y) → map f xs ≡ map g ys → join_by f separator xs ≡ join_by g separator ys
join-pieces f g separator xs ys e = join-map f separator xs ∙ ap (join_by (λ text. text) separator) e ∙ sym (join-map g separator ys)
