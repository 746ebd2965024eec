-- The words of a text.
use Rattle.std.proofs.Common.{◌≡◌, ◌≢◌, ℕ, ◌<◌, ◌==◌, false, List, [], length, get_or, All, ap, arith}
use Rattle.std.proofs.{lemmas.Grind.common_steps, lemmas.Grind.get_or_default_zero, lemmas.List.Splits.length-slice_split}
use Rattle.ossyntax.specs.ParsedOp.{words_of}

-- a text has at least one word
pub some-word : (text : List ℕ) → words_of text ≡ [] → ⊥
some-word text e = let n = length-slice_split (λ b. b == 32) text in let z : length (words_of text) ≡ 0 = ap length e in omega arith

pub no-byte : (c : ℕ) (bs : List ℕ) → ((i : ℕ) → i < length bs → get_or bs i 0 ≢ c) → All (λ b. (b == c) ≡ false) bs
no-byte c bs lack = λ k d lt. grind (arith, common_steps, get_or_default_zero bs k d lt, lack k lt)
