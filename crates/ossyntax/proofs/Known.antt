-- Whether the names of a text in form have places.
use Rattle.std.proofs.Common.{◌≡◌, ℕ, ◌||◌, not, Bool, true, Option, Some, None, is_some, map, option_map, option_and_then, unwrap_or, List, [], ◌∷◌, refl, ap, ◌∙◌, arith}
use Rattle.std.specs.{Option.option_map_or}
use Rattle.osbase.specs.{declared.objects.ObjectKind.ObjectKind, declared.objects.Place.Place}
use Rattle.oscript.specs.{declared.Op.Op, Rows.kinds_of, Rows.op_of, declared.rows.Kind.Kind, declared.rows.Verb.Verb, declared.rows.Arg.Arg, declared.rows.Arg.TheVariants.Mask}
use Rattle.ossyntax.specs.Word.{number_in}
use Rattle.ossyntax.specs.ParsedOp.{arg_of, args_of, form_of, form_of_verb, form_of_words, verb_of, words_of}
use Rattle.ossyntax.specs.Operation.{is_formed, is_known, are_names_known, of_first, op_of_text, references_of_text, place_of_any, read_args, resolve_arg, resolve_args, resolved, unranged, references_with_verb}
use Rattle.ossyntax.proofs.{KindTexts.mapped, RoundTrip.both, RoundTrip.chained}
use Rattle.ossyntax.proofs.Meant.{any-args, any-two, is-mapped, meant-args}

-- ---- arguments of a verb

-- Each name has its place, or the words are no arguments of the verb, whatever the names refer to.
module _ (place : ObjectKind → List ℕ → Option Place) (words : List (List ℕ)) where
  either-way : (f : List (Arg Place) → Op) (o : Option (List (Arg (List ℕ)))) (any : Bool) → any ≡ is_some o → (is_some (option_map f (option_and_then (resolve_args place) o)) || not any) ≡ option_map_or (λ args. is_some (resolve_args place args)) o true
  either-way f o any e = grind arith

  any-read : (verb : Verb) → is_some (references_with_verb place_of_any words verb) ≡ is_some (read_args words verb)
  any-read verb = rw (is-mapped, meant-args place_of_any (map unranged (kinds_of verb)) words, any-args (map unranged (kinds_of verb)) words)

  by-verb : (o : Option Verb) → (is_some (option_map_or (references_with_verb place words) o None) || not (is_some (option_map_or (references_with_verb place_of_any words) o None))) ≡ option_map_or (are_names_known place words) o true
  by-verb None = refl
  by-verb (Some verb) = either-way (λ args. op_of (verb, args)) (read_args words verb) (is_some (references_with_verb place_of_any words verb)) (any-read verb)

words-named : (place : ObjectKind → List ℕ → Option Place) (words : List (List ℕ)) → (is_some (of_first (references_with_verb place) None words) || not (is_some (of_first (references_with_verb place_of_any) None words))) ≡ of_first (are_names_known place) true words
words-named place [] = refl
words-named place (word ∷ words) = by-verb place words (verb_of word)

-- A text's names are known if it names an operation with their places, or names none even if all names have places.
pub known_named : (place : ObjectKind → List ℕ → Option Place) (text : List ℕ) → (is_some (references_of_text place text) || not (is_some (references_of_text place_of_any text))) ≡ is_known place text
known_named place text = words-named place (words_of text)

-- ---- a text in form and in range is one in form, with the same names

module _ (place : ObjectKind → List ℕ → Option Place) where
  -- read without regard to ranges, the word is an argument whose name has a place exactly if the given argument's name
  -- has one
  abbrev IsLoose : Kind → List ℕ → Arg (List ℕ) → Type 0
  IsLoose k w a = (b : Arg (List ℕ)) × (arg_of (unranged k) w ≡ Some b) × (is_some (resolve_arg place b) ≡ is_some (resolve_arg place a))

  arg-loose : (k : Kind) (w : List ℕ) (a : Arg (List ℕ)) → arg_of k w ≡ Some a → IsLoose k w a
  arg-loose (Kind.Number low high) w a e = (Mask (unwrap_or (number_in 1 4294967295 w) 0), grind arith, grind arith)
  arg-loose k w a e = (a, e, refl)

  args-loose : (ks : List Kind) (ws : List (List ℕ)) (shown : List (Arg (List ℕ))) → args_of ks ws ≡ Some shown
      → (loose : List (Arg (List ℕ))) × (args_of (map unranged ks) ws ≡ Some loose) × (is_some (resolve_args place loose) ≡ is_some (resolve_args place shown))
  args-loose [] ws shown e = (shown, e, refl)
  args-loose (k ∷ ks) [] shown e = cc
  args-loose (k ∷ ks) (w ∷ ws) shown e =
      let m = both (arg_of k w) (args_of ks ws) shown e in
      let first = arg-loose k w m.0 m.2 in
      let rest = args-loose ks ws m.1 m.3 in (
        first.0 ∷ rest.0,
        rw (first.1, rest.1) refl,
        any-two (resolve_arg place first.0) (resolve_arg place m.0) (resolve_args place rest.0) (resolve_args place m.1) first.2 rest.2
            ∙ ap (λ (args : List (Arg (List ℕ))). is_some (resolve_args place args)) m.4,
      )

  words-known : (words : List (List ℕ)) (form : Verb × List (Arg (List ℕ))) → form_of_words words ≡ Some form → of_first (are_names_known place) true words ≡ is_some (resolve_args place form.1)
  words-known [] form e = cc
  words-known (word ∷ words) form e =
      let c = chained (form_of_verb words) (verb_of word) form e in
      let m = mapped (λ args. (c.0, args)) (args_of (kinds_of c.0) words) form c.2 in
      let loose = args-loose (kinds_of c.0) words m.0 m.1 in
      rw (c.1, loose.1) (loose.2 ∙ ap (λ (f : Verb × List (Arg (List ℕ))). is_some (resolve_args place f.1)) m.2)

  -- The names of a text in form and in range are known where they have places.
  pub form-known : (text : List ℕ) (form : Verb × List (Arg (List ℕ))) → form_of text ≡ Some form → is_known place text ≡ is_some (resolve_args place form.1)
  form-known text form e = words-known (words_of text) form e

  -- Such a text means an operation exactly if its names are known.
  pub formed-known : (text : List ℕ) → is_formed text ≡ true → is_known place text ≡ is_some (op_of_text place text)
  formed-known text formed = by (form_of text) refl formed
    where
      by : (o : Option (Verb × List (Arg (List ℕ)))) → form_of text ≡ o → is_some o ≡ true → is_known place text ≡ is_some (option_map op_of (option_and_then (resolved place) o))
      by None e some = cc
      by (Some form) e some = rw (is-mapped, is-mapped) (form-known text form e)
