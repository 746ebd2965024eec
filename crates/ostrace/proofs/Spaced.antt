-- Words that are joined by spaces are split into exactly these words.
use Rattle.std.proofs.Common.{◌≡◌, ℕ, ◌==◌, true, not, List, [], ◌∷◌, ◌++◌, length, refl, ap, ◌∙◌}
use Rattle.std.specs.List.{join_with_byte, list_all, slice_split}
use Rattle.std.proofs.{lemmas.Bool.not-true, lemmas.List.append-nil}
use Rattle.ossyntax.proofs.Joining.{has_none, some-more, split-joined}
use Rattle.osjson.specs.Reading.{parts_of}
use Rattle.ostrace_text.specs.Trace.{after_spaces, spaced}

after_spaces-joined : (w : List ℕ) (ws : List (List ℕ)) → w ++ after_spaces ws ≡ join_with_byte 32 (w ∷ ws)
after_spaces-joined w [] = append-nil w
after_spaces-joined w (v ∷ ws) = ap (λ (text : List ℕ). w ++ (32 ∷ text)) (after_spaces-joined v ws)

pub parts-spaced : (w : List ℕ) (ws : List (List ℕ)) → not (length w == 0) ≡ true
    → list_all (has_none 32) (w ∷ ws) ≡ true → parts_of 32 (spaced (w ∷ ws)) ≡ w ∷ ws
parts-spaced w ws some none =
    rw (not-true _ (some-more w (after_spaces ws) some)) (ap (slice_split (λ b. b == 32)) (after_spaces-joined w ws) ∙ split-joined 32 w ws refl none)
