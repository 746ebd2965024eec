-- Words that are joined by spaces, and cut again.
use Rattle.std.proofs.Common.{◌≡◌, ℕ, Bool, true, false, not, ◌==◌, List, [], ◌∷◌, ◌++◌, length, refl, ap, ◌∙◌, arith}
use Rattle.std.specs.List.{list_all, slice_split, join_with_byte}
use Rattle.std.proofs.lemmas.Bool.{and_parts}
use Rattle.std.proofs.{lemmas.List.Folds.list_all-append, lemmas.Grind.common_steps}

-- no byte of the text is this one
abbrev pub has_none : ℕ → List ℕ → Bool
has_none byte text = list_all (λ b. not (b == byte)) text

pub split-lone : (byte : ℕ) (text : List ℕ) → has_none byte text ≡ true → slice_split (λ b. b == byte) text ≡ text ∷ []
split-lone byte [] none = refl
split-lone byte (x ∷ xs) none = grind (arith, split-lone byte xs)

pub split-cut : (byte : ℕ) (text rest : List ℕ) → (byte == byte) ≡ true → has_none byte text ≡ true → slice_split (λ b. b == byte) (text ++ byte ∷ rest) ≡ text ∷ slice_split (λ b. b == byte) rest
split-cut byte [] rest same none = rw same refl
split-cut byte (x ∷ xs) rest same none = grind (arith, split-cut byte xs rest same)

-- a joined text is cut into the pieces that were joined
pub split-joined : (byte : ℕ) (w : List ℕ) (ws : List (List ℕ)) → (byte == byte) ≡ true → list_all (has_none byte) (w ∷ ws) ≡ true → slice_split (λ b. b == byte) (join_with_byte byte (w ∷ ws)) ≡ w ∷ ws
split-joined byte w [] same none = split-lone byte w (and_parts (has_none byte w) true none).0
split-joined byte w (v ∷ ws) same none =
    let parts = and_parts (has_none byte w) (list_all (has_none byte) (v ∷ ws)) none in
    split-cut byte w (join_with_byte byte (v ∷ ws)) same parts.0 ∙ ap (λ words. w ∷ words) (split-joined byte v ws same parts.1)

-- a byte that is neither in the words nor the space is not in the whole
pub joined-none : (byte : ℕ) (w : List ℕ) (ws : List (List ℕ)) → (32 == byte) ≡ false → list_all (has_none byte) (w ∷ ws) ≡ true → has_none byte (join_with_byte 32 (w ∷ ws)) ≡ true
joined-none byte w [] other none = grind arith
joined-none byte w (v ∷ ws) other none = grind (arith, list_all-append {X = ℕ}, joined-none byte v ws other)

-- if the first word is not empty, neither is the whole
pub some-more : (text more : List ℕ) → not (length text == 0) ≡ true → not (length (text ++ more) == 0) ≡ true
some-more [] more some = cc
some-more (x ∷ text) more some = grind arith

pub joined-some : (w : List ℕ) (ws : List (List ℕ)) → not (length w == 0) ≡ true → not (length (join_with_byte 32 (w ∷ ws)) == 0) ≡ true
joined-some w ws some = grind (arith, some-more)

-- if one byte passes a test and another fails it, they differ
pub not-byte : (p : ℕ → Bool) (byte x : ℕ) → p byte ≡ false → p x ≡ true → not (x == byte) ≡ true
not-byte p byte x there here = grind (arith, common_steps)

pub all-none : (p : ℕ → Bool) (byte : ℕ) (xs : List ℕ) → p byte ≡ false → list_all p xs ≡ true → has_none byte xs ≡ true
all-none p byte [] there all = refl
all-none p byte (x ∷ xs) there all = grind (arith, common_steps, all-none p byte xs there)
