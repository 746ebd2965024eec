-- Lines and their words.
use Rattle.std.proofs.Common.{◌≡◌, ℕ, ◌==◌, true, ◌+◌, ◌<◌, length, map, take, get_or, List, [], ◌∷◌, ◌++◌, refl, sym, ap, ◌∙◌, arith}
use Rattle.std.specs.List.{join_with_byte, list_all, slice_split}
use Rattle.std.proofs.{lemmas.List.Folds.list_all-append, lemmas.List.Splits.join_with_byte-slice_split}
use Rattle.std.proofs.lemmas.List.{append-nil, append_assoc, map-append, take_more}
use Rattle.ossyntax.specs.ParsedOp.{words_of}
use Rattle.ossyntax.proofs.{Joining.has_none, KindTexts.IsApart}
use Rattle.oslog.specs.Items.{after_spaces}

pub after_spaces-append : (xs ys : List (List ℕ)) → after_spaces (xs ++ ys) ≡ after_spaces xs ++ after_spaces ys
after_spaces-append [] ys = refl
after_spaces-append (x ∷ xs) ys = rw (after_spaces-append xs ys, append_assoc)

pub after_spaces-joined : (w : List ℕ) (ws : List (List ℕ)) → w ++ after_spaces ws ≡ join_with_byte 32 (w ∷ ws)
after_spaces-joined w [] = append-nil w
after_spaces-joined w (v ∷ ws) = ap (λ text. w ++ (32 ∷ text)) (after_spaces-joined v ws)

-- A text is its first word and the others, each after a space.
pub text-of-words : (text first : List ℕ) (words : List (List ℕ)) → words_of text ≡ first ∷ words → first ++ after_spaces words ≡ text
text-of-words text first words e = after_spaces-joined first words ∙ ap (join_with_byte 32) (sym e) ∙ join_with_byte-slice_split 32 text

-- the text, with one more word added
pub word-more : {X : Type 0} (f : X → List ℕ) (xs : List X) (i : ℕ) (d : X) (initial text : List ℕ) → i < length xs → text ≡ initial ++ after_spaces (map f (take i xs)) → text ++ 32 ∷ f (get_or xs i d) ≡ initial ++ after_spaces (map f (take (i + 1) xs))
word-more f xs i d initial text within is =
    rw (is, take_more xs i d within, map-append f (take i xs), after_spaces-append (map f (take i xs)), append-nil, append_assoc)

-- ---- bytes that no word has

pub end-apart : IsApart 10
end-apart = record { digit = refl; part = refl; minus = refl; invalid = refl; letter = refl }

-- if a text is cut at a byte, no part has that byte
pub split-none : (byte : ℕ) (text : List ℕ) → list_all (has_none byte) (slice_split (λ b. b == byte) text) ≡ true
split-none byte [] = refl
split-none byte (x ∷ xs) = grind (arith, split-none byte xs)

-- if the joined text lacks a byte, each word lacks it
pub joined-parts : (between byte : ℕ) (ws : List (List ℕ)) → has_none byte (join_with_byte between ws) ≡ true → list_all (has_none byte) ws ≡ true
joined-parts between byte [] none = refl
joined-parts between byte (w ∷ []) none = grind arith
joined-parts between byte (w ∷ v ∷ ws) none = grind (arith, list_all-append {X = ℕ}, joined-parts between byte (v ∷ ws))
