-- Numbers, variables and names, each a word of an operation. [own]
use Rattle.std.specs.Prelude.{ℕ, ◌-◌, ◌==◌, ◌&&◌, ℤ, pos, negsuc, nat_le, Bool, true, false, not, Option, Some, None, option_map, unwrap_or, if◌then◌else◌, List, [], ◌∷◌, codes}
use Rattle.std.specs.{Char.is_ascii_digit, List.list_all, Str.bytes_eq, Str.Parse.digits_value}
use Rattle.osbase.specs.{Names.is_name, declared.references.CoreId.CoreId}

-- The word is not empty. If it has more than one character, the first is not `0`.
abbrev pub is_unpadded : List ℕ → Bool
is_unpadded [] = false
is_unpadded (d ∷ []) = true
is_unpadded (d ∷ e ∷ es) = not (d == 48)

-- The word is a decimal number without leading zeros.
abbrev pub is_decimal : List ℕ → Bool
is_decimal word = is_unpadded word && list_all is_ascii_digit word

-- The number, if it is in this range.
abbrev pub bounded : ℕ → ℕ → ℕ → Option ℕ
bounded low high n = if nat_le low n && nat_le n high then Some n else None

-- The number that the word stands for, if it is a decimal number in this range.
abbrev pub number_in : ℕ → ℕ → List ℕ → Option ℕ
number_in low high word = if is_decimal word then bounded low high (digits_value 10 word) else None

-- The mask that the word stands for, a bit for each event: a decimal number from 1 to 4294967295. For any other decimal
-- number, it is 0. None for any other word.
abbrev pub mask_of : List ℕ → Option ℕ
mask_of word = if is_decimal word then Some (unwrap_or (number_in 1 4294967295 word) 0) else None

-- The signed number of 64 bits that the word stands for, with `-` in front if it is below 0. None for any other word.
abbrev pub int_of : List ℕ → Option ℤ
int_of [] = None
int_of (c ∷ cs) = if c == 45 then option_map (λ n. negsuc (n - 1)) (number_in 1 9223372036854775808 cs) else option_map (λ n. pos n) (number_in 0 9223372036854775807 (c ∷ cs))

-- The number of the variable that the word names, `v0` to `v7`. None for any other word.
abbrev pub variable_of : List ℕ → Option ℕ
variable_of [] = None
variable_of (v ∷ []) = None
variable_of (v ∷ d ∷ []) = if v == 118 && (nat_le 48 d && nat_le d 55) then Some (d - 48) else None
variable_of (v ∷ d ∷ e ∷ es) = None

-- The name by which a word refers to an object; no name for `?`, the invalid identifier. None if the word is neither.
abbrev pub target_of : List ℕ → Option (Option (List ℕ))
target_of word = if bytes_eq word (codes "?") then Some None else (if is_name word then Some (Some word) else None)

-- The core with this number.
abbrev pub core_numbered : ℕ → CoreId
core_numbered n = record { number = n }

-- The core whose number the word is, 0 to 255; no core for `?`, the invalid identifier. None for any other word.
abbrev pub core_of : List ℕ → Option (Option CoreId)
core_of word = if bytes_eq word (codes "?") then Some None else option_map (λ n. Some (core_numbered n)) (number_in 0 255 word)
