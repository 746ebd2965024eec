-- Where the first part of a text ends.
use Rattle.std.proofs.Common.{◌≡◌, ℕ, ◌+◌, ◌<◌, ◌==◌, false, List, [], ◌∷◌, take, drop, get_or, Some, None, length, arith}
use Rattle.std.specs.{List.position_or_len, List.slice_split, Str.IsCharBoundary, Str.IsUtf8}
use Rattle.std.proofs.lemmas.{Bool.eqb-true, Bool.false_from_ne_true, List.Elements.All-from_get_or, List.Splits.slice_split_first, List.Splits.slice_split_none, List.Sums.position_or_len_is, Str.IsCharBoundary-after_ascii}
use Rattle.memchr.specs.Find.{IsFirstByte, Nowhere, Passes, is_byte}

module _ (separator : ℕ) (text : List ℕ) where
  lacks : (n k : ℕ) → Nowhere (Passes (is_byte separator) text) 0 n → k < n → (get_or text k 0 == separator) ≡ false
  lacks n k none lt = false_from_ne_true _ (none k (omega arith) lt)

  -- the first part ends at the first separator, and what follows it is divided further
  pub ends-at : (at : ℕ) → IsFirstByte (is_byte separator) text (Some at) → slice_split (λ b. b == separator) text ≡ take at text ∷ slice_split (λ b. b == separator) (drop (at + 1) text)
  ends-at at found =
      let first : position_or_len (λ b. b == separator) text ≡ at = position_or_len_is (λ b. b == separator) text at 0 (omega (arith, found.0.high)) (λ k lt. lacks at k found.0.before lt) (λ _. found.1) in
      rw first at (slice_split_first (λ b. b == separator) text 0 (rw first found.0.high))

  -- without a separator there is one part
  pub ends-nowhere : IsFirstByte (is_byte separator) text None → slice_split (λ b. b == separator) text ≡ text ∷ []
  ends-nowhere none = slice_split_none (λ b. b == separator) text (All-from_get_or (λ b. (b == separator) ≡ false) text 0 (λ k lt. lacks (length text) k none lt))

  -- the separator is ASCII, so a text may be cut after it
  pub cut-behind : (at : ℕ) → separator < 128 → IsUtf8 text → IsFirstByte (is_byte separator) text (Some at) → IsCharBoundary text (at + 1)
  cut-behind at small utf8 found = IsCharBoundary-after_ascii text at utf8 found.0.high (omega (arith, eqb-true (get_or text at 0) separator found.1, small))
