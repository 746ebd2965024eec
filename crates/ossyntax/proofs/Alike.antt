-- Except for its numbers, the operation that a text names is the one that it means.
use Rattle.std.proofs.Common.{◌≡◌, ℕ, true, false, Option, Some, None, is_some, unwrap_or, List, [], ◌∷◌, map, refl, sym, ap, subst, ◌∙◌, arith}
use Rattle.std.specs.Option.{option_map_or}
use Rattle.std.proofs.lemmas.Bool.{or_parts}
use Rattle.osbase.specs.{declared.objects.ObjectKind.ObjectKind, declared.objects.Place.Place}
use Rattle.oscript.specs.{declared.Op.Op, declared.Op.TheVariants.Work, declared.rows.Arg.Arg, declared.rows.Arg.TheVariants.Mask, declared.rows.Kind.Kind, declared.rows.Verb.Verb}
use Rattle.oscript.specs.Rows as rows
use Rattle.oscript.specs.Rows.{kinds_of, refers_to_own_only, objects_of, op_of}
use Rattle.ossyntax.specs.Word.{number_in}
use Rattle.ossyntax.specs.ParsedOp.{and_then_rest, verb_of, words_of}
use Rattle.ossyntax.specs.Operation.{arg_of_word, args_of_words, is_formed, is_known, of_first, op_of_text, references_of_text, unranged, op_with_verb, references_with_verb}
use Rattle.ossyntax.proofs.{KindTexts.mapped, Known.formed-known, Known.known_named, Meant.meant-args, Meant.text-means, RoundTrip.both}

-- The operations differ in their numbers only: everything else that is judged is the same.
pub record AreAlike (a b : Op) : Type 0 where
  pub own : refers_to_own_only a ≡ refers_to_own_only b
  pub objects : objects_of a ≡ objects_of b
  pub masks : rows.has_masks a ≡ rows.has_masks b

none-of : {A : Type 0} (o : Option A) → is_some o ≡ false → o ≡ None
none-of o e = grind arith

both-some : (o : Option (Arg Place)) (r : Option (List (Arg Place))) (a : Arg Place) (rest : List (Arg Place)) → o ≡ Some a → r ≡ Some rest → and_then_rest o r ≡ Some (a ∷ rest)
both-some o r a rest first later = grind arith

-- Arguments of a kind that may differ only if the kind is a number.
abbrev IsKept : Kind → Arg Place → Arg Place → Type 0
IsKept (Kind.Number low high) a b = Unit {0}
IsKept k a b = a ≡ b

abbrev AreKept : List Kind → List (Arg Place) → List (Arg Place) → Type 0
AreKept (k ∷ ks) (a ∷ args) (b ∷ read) = IsKept k a b × AreKept ks args read
AreKept ks args read = args ≡ read

-- So operations of such arguments are alike. The first clause is only there to make a case of each verb.
alike : (verb : Verb) (args read : List (Arg Place)) → AreKept (kinds_of verb) args read → AreAlike (op_of (verb, args)) (op_of (verb, read))
alike Verb.Work args read kept = record { own = refl; objects = refl; masks = refl }
alike verb args read kept = record { own = grind arith; objects = grind arith; masks = grind arith }

module _ (place : ObjectKind → List ℕ → Option Place) where
  -- ---- arguments

  arg-read : (k : Kind) (w : List ℕ) (a : Arg Place) → arg_of_word place k w ≡ Some a → (b : Arg Place) × (arg_of_word place (unranged k) w ≡ Some b) × IsKept k a b
  arg-read (Kind.Number low high) w a e = (Mask (unwrap_or (number_in 1 4294967295 w) 0), grind arith, tt)
  arg-read k w a e = (a, e, refl)

  args-read : (ks : List Kind) (ws : List (List ℕ)) (args : List (Arg Place)) → args_of_words place ks ws ≡ Some args → (read : List (Arg Place)) × (args_of_words place (map unranged ks) ws ≡ Some read) × AreKept ks args read
  args-read [] ws args e = (args, e, refl)
  args-read (k ∷ ks) [] args e = cc
  args-read (k ∷ ks) (w ∷ ws) args e =
      let m = both (arg_of_word place k w) (args_of_words place ks ws) args e in
      let first = arg-read k w m.0 m.2 in
      let rest = args-read ks ws m.1 m.3 in (
        first.0 ∷ rest.0,
        both-some _ _ first.0 rest.0 first.1 rest.1,
        subst (λ (all : List (Arg Place)). AreKept (k ∷ ks) all (first.0 ∷ rest.0)) m.4 (first.2, rest.2),
      )

  -- ---- verbs

  verb-alike : (words : List (List ℕ)) (verb : Verb) (op : Op) → op_with_verb place words verb ≡ Some op → (other : Op) × (references_with_verb place words verb ≡ Some other) × AreAlike op other
  verb-alike words verb op e =
      let m = mapped (λ args. op_of (verb, args)) (args_of_words place (kinds_of verb) words) op e in
      let r = args-read (kinds_of verb) words m.0 m.1 in
      (op_of (verb, r.0), rw (meant-args place (map unranged (kinds_of verb)) words, r.1), subst (λ (o : Op). AreAlike o (op_of (verb, r.0))) m.2 (alike verb m.0 r.0 r.2))

  -- ---- texts

  by-words : (words : List (List ℕ)) (op : Op) → of_first (op_with_verb place) None words ≡ Some op → (other : Op) × (of_first (references_with_verb place) None words ≡ Some other) × AreAlike op other
  by-words [] op e = cc
  by-words (word ∷ words) op e = by (verb_of word) e
    where
      by : (o : Option Verb) → option_map_or (op_with_verb place words) o None ≡ Some op → (other : Op) × (option_map_or (references_with_verb place words) o None ≡ Some other) × AreAlike op other
      by None e = cc
      by (Some verb) e = verb-alike words verb op e

  -- A text that means an operation names an operation that is alike.
  pub named-alike : (text : List ℕ) (op : Op) → op_of_text place text ≡ Some op → (other : Op) × (references_of_text place text ≡ Some other) × AreAlike op other
  named-alike text op e = by-words (words_of text) op (sym (text-means place text) ∙ e)

  -- A text in form and in range that means no operation names none.
  named-none : (text : List ℕ) → is_formed text ≡ true → op_of_text place text ≡ None → references_of_text place text ≡ None
  named-none text formed e =
      let unknown : is_known place text ≡ false = formed-known place text formed ∙ ap is_some e in
      none-of (references_of_text place text) (or_parts (is_some (references_of_text place text)) _ (known_named place text ∙ unknown)).0

  -- A function that is the same for operations that are alike is the same for what such a text names and what it means.
  pub named-same : {X : Type 0} (f : Op → X) → ((a b : Op) → AreAlike a b → f a ≡ f b) → (text : List ℕ) → is_formed text ≡ true → f (unwrap_or (op_of_text place text) Work) ≡ f (unwrap_or (references_of_text place text) Work)
  named-same f keeps text formed = by (op_of_text place text) refl
    where
      by : (o : Option Op) → op_of_text place text ≡ o → f (unwrap_or o Work) ≡ f (unwrap_or (references_of_text place text) Work)
      by None e = ap (λ o. f (unwrap_or o Work)) (sym (named-none text formed e))
      by (Some op) e = let a = named-alike text op e in keeps op a.0 a.2 ∙ ap (λ o. f (unwrap_or o Work)) (sym a.1)
