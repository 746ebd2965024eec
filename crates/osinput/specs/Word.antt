-- Core numbers in decimal.
use Rattle.std.specs.Prelude.{ℕ, ◌+◌, ◌*◌, ◌-◌, ◌==◌, if◌then◌else◌, Option, Some, None, option_and_then, option_map, List, [], ◌∷◌}
use Rattle.std.specs.Char.{is_ascii_digit}

-- The value of a byte, if it is a decimal digit.
abbrev pub digit_of : ℕ → Option ℕ
digit_of c = if is_ascii_digit c then Some (c - 48) else None

-- The number of two decimal digits. None if one of the bytes is no digit.
abbrev pub two_digits : ℕ → ℕ → Option ℕ
two_digits tens ones = option_and_then (λ t. option_map (λ n. 10 * t + n) (digit_of ones)) (digit_of tens)

-- The number of one or two decimal digits, without a leading zero. None for any other text, since no configured core
-- has a number of three digits. [own]
abbrev pub core_number : List ℕ → Option ℕ
core_number [] = None
core_number (ones ∷ []) = digit_of ones
core_number (tens ∷ ones ∷ []) = if tens == 48 then None else two_digits tens ones
core_number (a ∷ b ∷ c ∷ cs) = None
