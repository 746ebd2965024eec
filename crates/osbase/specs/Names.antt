-- The form of names. [own]
use Rattle.std.specs.Prelude.{ℕ, ◌==◌, ◌&&◌, ◌||◌, nat_le, Bool, false, List, [], ◌∷◌, length}
use Rattle.std.specs.{Char.is_ascii_alphabetic, Char.is_ascii_alphanumeric, List.list_all}

-- A character of a name after the first: an ASCII letter, an ASCII digit or an underscore.
abbrev pub is_name_part : ℕ → Bool
is_name_part c = is_ascii_alphanumeric c || (c == 95)

-- A name has 1 to 128 characters. The first is an ASCII letter, and each other is an ASCII letter, an ASCII digit or an
-- underscore.
abbrev pub is_name : List ℕ → Bool
is_name [] = false
is_name (c ∷ cs) = is_ascii_alphabetic c && nat_le (length cs) 127 && list_all is_name_part cs
