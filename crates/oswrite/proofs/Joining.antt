-- Texts that are joined by a byte, and cut at it again.
use Rattle.std.proofs.Common.{◌≡◌, ℕ, true, not, ◌==◌, List, [], ◌∷◌, ◌++◌, length, map, refl, ap, ◌∙◌}
use Rattle.std.specs.List.{list_all, slice_split, join_by, join_with_byte, flat_map}
use Rattle.std.proofs.lemmas.{Bool.not-true, List.append-nil}
use Rattle.ossyntax.proofs.Joining.{has_none, split-joined, some-more}
use Rattle.osjson.specs.Reading.{parts_of}

-- joining by a text of one byte is joining by that byte
join-bytes : {X : Type 0} (f : X → List ℕ) (byte : ℕ) (x : X) (xs : List X) → join_by f (byte ∷ []) (x ∷ xs) ≡ join_with_byte byte (map f (x ∷ xs))
join-bytes f byte x [] = append-nil (f x)
join-bytes f byte x (y ∷ ys) = ap (λ text. f x ++ byte ∷ text) (join-bytes f byte y ys)

-- a joined text is cut into its pieces, if none of them is empty or has the byte
pub parts-pieces : {X : Type 0} (f : X → List ℕ) (byte : ℕ) (xs : List X) → (byte == byte) ≡ true → list_all (has_none byte) (map f xs) ≡ true → ((x : X) → not (length (f x) == 0) ≡ true) → parts_of byte (join_by f (byte ∷ []) xs) ≡ map f xs
parts-pieces f byte [] same none some = refl
parts-pieces f byte (x ∷ xs) same none some =
    rw (not-true _ (some-more (f x) (flat_map (λ y. byte ∷ f y) xs) (some x))) (ap (slice_split (λ b. b == byte)) (join-bytes f byte x xs) ∙ split-joined byte (f x) (map f xs) same none)
