-- A step of a walk over a text by its words.
use Rattle.std.proofs.Common.{◌≡◌, ℕ, ◌==◌, ◌+◌, nat_lt, cond, Bool, true, false, List, length, length-drop, take, drop, Option, Some, None, option_map, refl, arith}
use Rattle.std.specs.List.{position_or_len}
use Rattle.std.proofs.{lemmas.Bool.ltb-true, lemmas.Bool.ltb-false, lemmas.List.Splits.slice_split_first, lemmas.List.Splits.slice_split_none, lemmas.List.Sums.fails_before_first}
use Rattle.osinput.specs.Walk.{IsStep, cut_at_space}

-- The first word of a text is what precedes its first space.
pub cut-steps : {T : Type 0} (shape : List ℕ → Option T) (text : List ℕ) (parts : Option (List ℕ × List ℕ)) → parts ≡ cut_at_space text
    → IsStep shape text (option_map (λ (p : List ℕ × List ℕ). (shape p.0, p.1)) parts)
cut-steps {T} shape text parts is = rw is (by (nat_lt (position_or_len (λ b. b == 32) text) (length text)) refl)
  where
    by : (b : Bool) → nat_lt (position_or_len (λ b. b == 32) text) (length text) ≡ b → IsStep shape text (option_map (λ (p : List ℕ × List ℕ). (shape p.0, p.1)) (option_map (λ (end : ℕ). (take end text, drop (end + 1) text)) (cond b (Some (position_or_len (λ b. b == 32) text)) None)))
    by true below =
        let within = ltb-true (position_or_len (λ b. b == 32) text) (length text) below in
        record {
          word = take (position_or_len (λ b. b == 32) text) text;
          words = slice_split_first (λ b. b == 32) text 0 within;
          means = refl;
          shorter = omega (arith, within, length-drop (position_or_len (λ b. b == 32) text + 1) text);
        }
    by false above =
        let whole = ltb-false (position_or_len (λ b. b == 32) text) (length text) above in
        slice_split_none (λ b. b == 32) text (λ k d lt. fails_before_first (λ b. b == 32) text k d (omega (arith, whole, lt)))
