-- A core's number in decimal is read as that number, and ends where its word has no more digits.
use Rattle.std.proofs.Common.{◌≡◌, ℕ, ◌+◌, ◌*◌, ◌/◌, ◌%◌, ◌<◌, nat_lt, true, false, not, Some, List, [], ◌∷◌, ◌++◌, inl, inr, length, length-append, refl, ap, ◌∙◌, arith}
use Rattle.std.specs.{Char.is_ascii_digit, Fmt.decimal, List.list_all, List.prefix_len}
use Rattle.std.proofs.lemmas.Bool.{and_parts, cases_lt, lt-ltb}
use Rattle.std.proofs.{lemmas.Bool.Decides.nat_tests, lemmas.Fmt.decimal_digit, lemmas.Fmt.decimal_step}
use Rattle.osinput.specs.{Word.core_number, Word.digit_of, Given.digits_in}

digit-back : (d : ℕ) → d < 10 → digit_of (48 + d) ≡ Some d
digit-back d low = grind (arith, nat_tests)

two-back : (t o : ℕ) → 0 < t → t < 10 → o < 10 → core_number ((48 + t) ∷ (48 + o) ∷ []) ≡ Some (10 * t + o)
two-back t o some tens ones = grind (arith, nat_tests)

pub number-back : (n : ℕ) → n < 100 → core_number (decimal n) ≡ Some n
number-back n low = elim (cases_lt n 10) as (λ _. core_number (decimal n) ≡ Some n) [
  | inl one ↦ rw (decimal_digit n one) (digit-back n one)
  | inr two ↦
      let tens : n / 10 < 10 = omega arith in
      let digits : decimal n ≡ (48 + n / 10) ∷ (48 + n % 10) ∷ []
      = decimal_step n two (omega arith) ∙ ap (λ (t : List ℕ). t ++ (48 + n % 10) ∷ []) (decimal_digit (n / 10) tens) in
      let whole : 10 * (n / 10) + n % 10 ≡ n = omega arith in
      ap core_number digits ∙ two-back (n / 10) (n % 10) (omega arith) tens (omega arith) ∙ ap Some whole
]

digits-passed : (ds : List ℕ) (c : ℕ) (rest : List ℕ) → list_all is_ascii_digit ds ≡ true → is_ascii_digit c ≡ false
    → prefix_len (λ b. not (not (is_ascii_digit b))) (ds ++ c ∷ rest) ≡ length ds
digits-passed [] c rest all other = rw other refl
digits-passed (d ∷ ds) c rest all other =
    let parts = and_parts (is_ascii_digit d) (list_all is_ascii_digit ds) all in
    rw parts.0 (ap (λ n. 1 + n) (digits-passed ds c rest parts.1 other) ∙ omega arith)

pub digits-end : (ds : List ℕ) (c : ℕ) (rest : List ℕ) → list_all is_ascii_digit ds ≡ true → is_ascii_digit c ≡ false
    → digits_in (ds ++ c ∷ rest) ≡ length ds
digits-end ds c rest all other =
    let passed = digits-passed ds c rest all other in
    let within : nat_lt (length ds) (length (ds ++ c ∷ rest)) ≡ true = lt-ltb _ _ (omega (arith, length-append ds (c ∷ rest))) in
    rw (passed, within) refl
