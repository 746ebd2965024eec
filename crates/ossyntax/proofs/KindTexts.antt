-- The text of an argument, with a case for each kind of argument.
use Rattle.std.proofs.Common.{rules, inl, inr, ◌≡◌, ℕ, suc, ◌-◌, ◌+◌, ◌⊎◌, ◌≤◌, ◌<◌, ◌^◌, ◌==◌, ℤ, pos, negsuc, Bool, true, false, cond, nat_le, Option, Some, None, option_map, List, [], ◌∷◌, length, get_or, codes, refl, ap, ◌∙◌, arith}
use Rattle.std.specs.{Char.is_ascii_digit, Fmt.decimal, List.list_all, Str.bytes_eq}
use Rattle.std.proofs.lemmas.Fmt.{decimal_digit, decimal_nonempty, first_decimal, digits_decimal, digits_value-decimal}
use Rattle.std.proofs.{lemmas.Slice.Eq.bytes_eq-Decides, lemmas.Grind.common_steps}
use Rattle.oscript.specs.{declared.rows.Kind.Kind, declared.rows.Arg.Arg, Rows.is_int}
use Rattle.osbase.specs.{declared.objects.ObjectKind.ObjectKind, Names.is_name, Names.is_name_part, declared.references.CoreId.CoreId}
use Rattle.oscript.specs.declared.rows.Arg.TheVariants.{Core, Object, Mask, Int, Variable}
use Rattle.ossyntax.specs.Word.{is_unpadded, is_decimal, mask_of, number_in, int_of, variable_of, target_of}
use Rattle.ossyntax.specs.ParsedOp.{arg_of, arg_text}
use Rattle.ossyntax.proofs.{Numerals.own, Numerals.int_of-plain, Numerals.decimal-digits, Joining.has_none, Joining.not-byte, Joining.all-none}

-- ---- tests and options

pub cond-some : {A : Type 0} (b : Bool) (x : Option A) (y : A) → cond b x None ≡ Some y → (b ≡ true) × (x ≡ Some y)
cond-some b x y e = grind arith

pub mapped : {A B : Type 0} (f : A → B) (o : Option A) (b : B) → option_map f o ≡ Some b → (a : A) × (o ≡ Some a) × (f a ≡ b)
mapped f o b e = grind arith

pub either : {A : Type 0} (b : Bool) (x y : Option A) (z : A) → cond b x y ≡ Some z → ((b ≡ true) × (x ≡ Some z)) ⊎ ((b ≡ false) × (y ≡ Some z))
either b x y z e = grind arith

-- A signed number is read from a number behind a minus, or from a number without a minus.
module _ (P : List ℕ → ℤ → Type 0) (below : (word : List ℕ) (n : ℕ) → number_in 1 9223372036854775808 word ≡ Some n → P (45 ∷ word) (negsuc (n - 1))) (other : (word : List ℕ) (n : ℕ) → number_in 0 9223372036854775807 word ≡ Some n → P word (pos n)) where
  pub int-cases : (word : List ℕ) (z : ℤ) → int_of word ≡ Some z → P word z
  int-cases [] z e = cc
  int-cases (c ∷ cs) z e =
      elim (either (c == 45) (option_map (λ n. negsuc (n - 1)) (number_in 1 9223372036854775808 cs)) (option_map (λ n. pos n) (number_in 0 9223372036854775807 (c ∷ cs))) z e) as (λ _. P (c ∷ cs) z) [
        | inl p ↦
            let m = mapped (λ n. negsuc (n - 1)) (number_in 1 9223372036854775808 cs) z p.1 in
            let is : c ≡ 45 = search (rules, p.0) in
            rw (is, ← m.2) (below cs m.0 m.1)
        | inr p ↦ let m = mapped (λ n. pos n) (number_in 0 9223372036854775807 (c ∷ cs)) z p.1 in rw (← m.2) (other (c ∷ cs) m.0 m.1)
      ]

-- ---- which bytes a word has

-- A byte that no argument has.
pub record IsApart (byte : ℕ) : Type 0 where
  pub digit : is_ascii_digit byte ≡ false
  pub part : is_name_part byte ≡ false
  pub minus : (45 == byte) ≡ false
  pub invalid : (63 == byte) ≡ false
  pub letter : (118 == byte) ≡ false

name-parts : (word : List ℕ) → is_name word ≡ true → list_all is_name_part word ≡ true
name-parts word e = grind arith

module _ (byte : ℕ) (apart : IsApart byte) where
  digits-none : (word : List ℕ) → is_decimal word ≡ true → has_none byte word ≡ true
  digits-none word e = all-none is_ascii_digit byte word apart.digit (decimal-digits word e)

  target-none : (word : List ℕ) (t : Option (List ℕ)) → target_of word ≡ Some t → has_none byte word ≡ true
  target-none word t e = grind (arith, all-none is_name_part byte word apart.part, name-parts word, (bytes_eq-Decides word (codes "?")).0, apart)

  int-none : (word : List ℕ) (z : ℤ) → int_of word ≡ Some z → has_none byte word ≡ true
  int-none = int-cases (λ word z. has_none byte word ≡ true) (λ word n e. grind (arith, digits-none word, apart)) (λ word n e. grind (arith, digits-none word))

  variable-none : (word : List ℕ) (x : ℕ) → variable_of word ≡ Some x → has_none byte word ≡ true
  variable-none word x e = grind (arith, common_steps, not-byte is_ascii_digit byte, apart)

  kind-none : (k : Kind) (word : List ℕ) (a : Arg (List ℕ)) → arg_of k word ≡ Some a → has_none byte word ≡ true
  kind-none (Kind.Object k) word a e = let m = mapped (Object k) (target_of word) a e in target-none word m.0 m.1
  kind-none Kind.Mask word a e = grind (arith, digits-none word)
  kind-none (Kind.Number low high) word a e = grind (arith, digits-none word)
  kind-none Kind.Int word a e = let m = mapped Int (int_of word) a e in int-none word m.0 m.1
  kind-none Kind.Variable word a e = let m = mapped Variable (variable_of word) a e in variable-none word m.0 m.1
  kind-none Kind.Core word a e = grind (arith, digits-none word, (bytes_eq-Decides word (codes "?")).0, apart)

-- a word that is read as an argument does not have a byte that no argument has
pub arg_of-none : (byte : ℕ) (k : Kind) (word : List ℕ) (a : Arg (List ℕ)) → IsApart byte → arg_of k word ≡ Some a → has_none byte word ≡ true
arg_of-none byte k word a apart e = kind-none byte apart k word a e

-- ---- which arguments read back

-- the numbers of a kind fit in 32 bits
abbrev pub is_kind : Kind → Bool
is_kind (Kind.Number low high) = nat_le high 4294967295
is_kind k = true

-- the text of the argument is read as that argument
abbrev pub ReadsBack : Kind → Arg (List ℕ) → Type 0
ReadsBack k a = arg_of k (arg_text a) ≡ Some a

pub invalid-back : (k : ObjectKind) → ReadsBack (Kind.Object k) (Object k None)
invalid-back k = refl

pub name-back : (k : ObjectKind) (name : List ℕ) → is_name name ≡ true → ReadsBack (Kind.Object k) (Object k (Some name))
name-back k name named = grind (arith, (bytes_eq-Decides name (codes "?")).0)

unpadded-decimal : (n : ℕ) (word : List ℕ) → 0 < length word → (0 < n → 48 < get_or word 0 0) → (n ≡ 0 → length word ≡ 1) → is_unpadded word ≡ true
unpadded-decimal n [] some first lone = absurd (omega arith)
unpadded-decimal n (d ∷ []) some first lone = refl
unpadded-decimal n (d ∷ e ∷ es) some first lone = grind (arith, common_steps)

pub number-back : (low high n : ℕ) → low ≤ n → n ≤ high → n < 2 ^ 64 → number_in low high (decimal n) ≡ Some n
number-back low high n least most short =
    let unpadded = unpadded-decimal n (decimal n) (decimal_nonempty n short) (λ some. first_decimal n some short) (λ none. ap (λ m. length (decimal m)) none ∙ ap length (decimal_digit 0 (omega arith))) in
    rw (unpadded, digits_decimal own n short, digits_value-decimal own n short) (grind (arith, common_steps))

mask-read : (word : List ℕ) (mask : ℕ) → number_in 1 4294967295 word ≡ Some mask → mask_of word ≡ Some mask
mask-read word mask e = grind arith

pub mask-back : (mask : ℕ) → 1 ≤ mask → mask ≤ 4294967295 → ReadsBack Kind.Mask (Mask mask)
mask-back mask least most = ap (option_map Mask) (mask-read (decimal mask) mask (number-back 1 4294967295 mask least most (omega arith)))

variable-digit : (x : ℕ) → x ≤ 7 → variable_of (118 ∷ (48 + x) ∷ []) ≡ Some x
variable-digit x most = grind (arith, common_steps)

pub variable-back : (x : ℕ) → x ≤ 7 → ReadsBack Kind.Variable (Variable x)
variable-back x most = ap (λ ds. option_map Variable (variable_of (118 ∷ ds))) (decimal_digit x (omega arith)) ∙ ap (option_map Variable) (variable-digit x most)

-- a number's word is not `?`
decimal-known : (word : List ℕ) → list_all is_ascii_digit word ≡ true → bytes_eq word (codes "?") ≡ false
decimal-known word digits = grind (arith, (bytes_eq-Decides word (codes "?")).0)

pub core-back : (core : CoreId) → core.number ≤ 255 → ReadsBack Kind.Core (Core (Some core))
core-back core most = rw (decimal-known (decimal core.number) (digits_decimal own core.number (omega arith)), number-back 0 255 core.number (omega arith) most (omega arith))

minus-no-digit : (digits ys : List ℕ) → list_all is_ascii_digit digits ≡ true → digits ≡ 45 ∷ ys → ⊥
minus-no-digit digits ys all is = grind arith

pub int-back : (z : ℤ) → is_int z ≡ true → ReadsBack Kind.Int (Int z)
int-back (pos n) fits =
    let most : n ≤ 9223372036854775807 = search (rules, fits) in
    let plain = int_of-plain (decimal n) (λ ys. minus-no-digit (decimal n) ys (digits_decimal own n (omega arith))) in
    rw (plain, number-back 0 9223372036854775807 n (omega arith) most (omega arith))
int-back (negsuc n) fits =
    let most : n ≤ 9223372036854775807 = search (rules, fits) in
    let less : suc n - 1 ≡ n = omega arith in
    rw (number-back 1 9223372036854775808 (suc n) (omega arith) (omega arith) (omega arith), less)
