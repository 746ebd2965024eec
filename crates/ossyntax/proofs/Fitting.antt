-- What is read as an argument of a kind is an argument of that kind.
use Rattle.std.proofs.Common.{◌≡◌, ℕ, ◌≤◌, ◌&&◌, ℤ, nat_le, true, Option, Some, List, [], ◌∷◌, arith}
use Rattle.std.specs.{Option.option_map_or, Str.Parse.digits_value}
use Rattle.std.proofs.lemmas.{Bool.and_from, Bool.and_parts, Bool.leb-true, Grind.common_steps}
use Rattle.osbase.specs.{declared.objects.ObjectKind.ObjectKind, declared.objects.Place.Place, declared.references.CoreId.CoreId}
use Rattle.osbase.proofs.Same.{same_kind-self}
use Rattle.oscript.specs.{declared.rows.Kind.Kind, declared.rows.Verb.Verb, declared.rows.Arg.Arg}
use Rattle.oscript.specs.declared.rows.Arg.TheVariants.{Core, Object, Int}
use Rattle.oscript.specs.Rows.{are_of, is_int, is_of, kinds_of}
use Rattle.ossyntax.specs.ParsedOp.{arg_of, args_of, form_of_verb, form_of_words, verb_of}
use Rattle.ossyntax.specs.Operation.{resolve_arg, resolve_args}
use Rattle.ossyntax.specs.Word.{core_of, int_of, is_decimal, number_in, target_of, variable_of}
use Rattle.ossyntax.proofs.{KindTexts.int-cases, KindTexts.mapped, RoundTrip.both, RoundTrip.chained}

-- ---- numbers and variables

number-between : (low high : ℕ) (word : List ℕ) (n : ℕ) → number_in low high word ≡ Some n → (nat_le low n && nat_le n high) ≡ true
number-between low high word n e = grind arith

-- A word that is read as a number is decimal, and the number is within its limits.
pub number-read : (low high : ℕ) (word : List ℕ) (n : ℕ) → number_in low high word ≡ Some n → (is_decimal word ≡ true) × (digits_value 10 word ≡ n) × (low ≤ n) × (n ≤ high)
number-read low high word n e =
    let fits = and_parts (nat_le low n) (nat_le n high) (number-between low high word n e) in
    (grind arith, grind arith, leb-true low n fits.0, leb-true n high fits.1)

pub int-within : (word : List ℕ) (z : ℤ) → int_of word ≡ Some z → is_int z ≡ true
int-within = int-cases (λ word z. is_int z ≡ true) (λ word n e. grind (arith, common_steps, number-between 1 9223372036854775808 word n e)) (λ word n e. grind (arith, number-between 0 9223372036854775807 word n e))

variable-within : (word : List ℕ) (x : ℕ) → variable_of word ≡ Some x → nat_le x 7 ≡ true
variable-within word x e = grind (arith, common_steps)

core-within : (word : List ℕ) (target : Option CoreId) → core_of word ≡ Some target → option_map_or (λ (core : CoreId). nat_le core.number 255) target true ≡ true
core-within word target e = grind arith

-- ---- arguments

module _ (place : ObjectKind → List ℕ → Option Place) where
  object-fit : (k : ObjectKind) (t : Option (List ℕ)) (b : Arg Place) → resolve_arg place (Object k t) ≡ Some b → is_of (Kind.Object k) b ≡ true
  object-fit k t b e = grind (arith, same_kind-self)

  arg-fit : (k : Kind) (w : List ℕ) (a : Arg (List ℕ)) (b : Arg Place) → arg_of k w ≡ Some a → resolve_arg place a ≡ Some b → is_of k b ≡ true
  arg-fit (Kind.Object k) w a b e r = let m = mapped (Object k) (target_of w) a e in object-fit k m.0 b (rw (← m.2) at r)
  arg-fit Kind.Mask w a b e r = grind arith
  arg-fit (Kind.Number low high) w a b e r = grind arith
  arg-fit Kind.Int w a b e r = let m = mapped Int (int_of w) a e in grind (arith, int-within w m.0 m.1, m.2)
  arg-fit Kind.Variable w a b e r = grind (arith, variable-within w)
  arg-fit Kind.Core w a b e r = let m = mapped Core (core_of w) a e in grind (arith, core-within w m.0 m.1, m.2)

  pub args-fit : (ks : List Kind) (ws : List (List ℕ)) (shown : List (Arg (List ℕ))) (args : List (Arg Place)) → args_of ks ws ≡ Some shown → resolve_args place shown ≡ Some args → are_of ks args ≡ true
  args-fit [] ws shown args e r = grind arith
  args-fit (k ∷ ks) [] shown args e r = cc
  args-fit (k ∷ ks) (w ∷ ws) shown args e r =
      let m = both (arg_of k w) (args_of ks ws) shown e in
      let n = both (resolve_arg place m.0) (resolve_args place m.1) args (rw (← m.4) at r) in
      rw (← n.4) (and_from _ _ (arg-fit k w m.0 n.0 m.2 n.2) (args-fit ks ws m.1 n.1 m.3 n.3))

-- The arguments of a text's form are its words, read as arguments of its kinds.
pub formed-args : (words : List (List ℕ)) (form : Verb × List (Arg (List ℕ))) → form_of_words words ≡ Some form → (ws : List (List ℕ)) × (args_of (kinds_of form.0) ws ≡ Some form.1)
formed-args [] form e = cc
formed-args (word ∷ words) form e =
    let c = chained (form_of_verb words) (verb_of word) form e in
    let m = mapped (λ args. (c.0, args)) (args_of (kinds_of c.0) words) form c.2 in
    (words, rw (← m.2) m.1)
