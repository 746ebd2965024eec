-- Numbers and their words.
use Rattle.std.proofs.Common.{rules, ◌≡◌, ◌≢◌, ℕ, ◌<◌, ◌≤◌, ◌^◌, true, List, [], ◌∷◌, length, get_or, pos, option_map, None, Err, refl, arith}
use Rattle.std.specs.{Char.is_ascii_digit, List.list_all, Str.Parse.digits_value, Str.Parse.ParsesUnsigned}
use Rattle.std.proofs.{lemmas.Bool.and_parts, lemmas.Str.Parse.IsNumeralModel, lemmas.Str.Parse.numerals_by_value, lemmas.Str.Parse.parse_plain, lemmas.Grind.common_steps}
use Rattle.ossyntax.specs.Word.{is_unpadded, is_decimal, bounded, number_in, int_of}

pub own : IsNumeralModel (λ ds. list_all is_ascii_digit ds ≡ true) (digits_value 10)
own = numerals_by_value _ (search rules)

pub decimal-digits : (word : List ℕ) → is_decimal word ≡ true → list_all is_ascii_digit word ≡ true
decimal-digits word e = (and_parts (is_unpadded word) _ e).1

pub decimal-some : (word : List ℕ) → is_decimal word ≡ true → 0 < length word
decimal-some word e = grind arith

pub lack-plus : (word : List ℕ) → list_all is_ascii_digit word ≡ true → get_or word 0 0 ≢ 43
lack-plus [] e = grind arith
lack-plus (d ∷ ds) e = grind arith

pub bounded-none : (low high n : ℕ) → (n ≤ high → ⊥) → bounded low high n ≡ None
bounded-none low high n lack = let lt : high < n = omega arith in grind (arith, common_steps)

-- a number past 64 bits is past every limit of 64 bits
pub too-large : {E : Type 0} (low high : ℕ) (word : List ℕ) (e : E) → high < 2 ^ 64 → is_decimal word ≡ true → ParsesUnsigned 64 10 word (Err e) → number_in low high word ≡ None
too-large low high word e lt is h =
    let lack = parse_plain own 64 word (Err e) h (lack-plus word (decimal-digits word is)) in
    rw is (bounded-none low high (digits_value 10 word) (λ le. lack (decimal-digits word is, decimal-some word is, omega arith)))

-- without a minus, a signed number is read as one without a sign
pub int_of-plain : (word : List ℕ) → ((ys : List ℕ) → word ≢ 45 ∷ ys) → int_of word ≡ option_map (λ n. pos n) (number_in 0 9223372036854775807 word)
int_of-plain [] lack = refl
int_of-plain (c ∷ cs) lack = grind (arith, common_steps, lack cs)
