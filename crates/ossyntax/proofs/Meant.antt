-- Arguments with the places of their names, word by word.
use Rattle.std.proofs.Common.{◌≡◌, ℕ, Option, Some, None, is_some, option_map, option_and_then, List, [], ◌∷◌, refl, sym, ap, ◌∙◌, arith}
use Rattle.std.specs.Option.{option_map_or}
use Rattle.osbase.specs.{declared.objects.ObjectKind.ObjectKind, declared.objects.Place.Place}
use Rattle.osbase.proofs.Same.{same_kind-self}
use Rattle.oscript.specs.Rows.{kinds_of, op_of, ref_at}
use Rattle.oscript.specs.{declared.rows.Kind.Kind, declared.rows.Verb.Verb, declared.rows.Arg.Arg}
use Rattle.oscript.specs.declared.rows.Arg.TheVariants.{Object}
use Rattle.ossyntax.specs.ParsedOp.{words_of, arg_of, args_of, and_then_rest, verb_of, form_of_verb, form_of_words}
use Rattle.ossyntax.specs.Operation.{resolve_arg, resolve_args, resolved, arg_of_word, args_of_words, place_of_any, last_of, op_with_verb, op_of_text, is_formed, of_first}
use Rattle.ossyntax.proofs.{LastWord.last-word, Wording.some-word}

pub mapped_twice : {A B C : Type 0} (g : B → C) (f : A → B) (o : Option A) → option_map g (option_map f o) ≡ option_map (λ a. g (f a)) o
mapped_twice g f o = grind arith

module _ (place : ObjectKind → List ℕ → Option Place) where
  pair : (o : Option (Arg (List ℕ))) (r : Option (List (Arg (List ℕ)))) → option_and_then (resolve_args place) (and_then_rest o r) ≡ and_then_rest (option_and_then (resolve_arg place) o) (option_and_then (resolve_args place) r)
  pair o r = grind arith

  -- Looking up the names of all arguments together is looking them up one by one.
  pub meant-args : (ks : List Kind) (ws : List (List ℕ)) → option_and_then (resolve_args place) (args_of ks ws) ≡ args_of_words place ks ws
  meant-args [] ws = grind arith
  meant-args (k ∷ ks) [] = refl
  meant-args (k ∷ ks) (w ∷ ws) = pair (arg_of k w) (args_of ks ws) ∙ ap (and_then_rest (arg_of_word place k w)) (meant-args ks ws)

  lone : (o : Option (Arg (List ℕ))) → option_and_then (resolve_args place) (option_map (λ a. a ∷ []) o) ≡ option_map last_of (option_and_then (resolve_arg place) o)
  lone o = grind arith

  -- What is left of a text for a last argument is one word, since no argument has a space.
  pub last_of_text : (k : Kind) (text : List ℕ) → option_map last_of (arg_of_word place k text) ≡ args_of_words place (k ∷ []) (words_of text)
  last_of_text k text =
      sym (lone (arg_of k text)) ∙ ap (option_and_then (resolve_args place)) (sym (last-word k text)) ∙ meant-args (k ∷ []) (words_of text)

  target-ref : {R : Type 0} (ref_of : Place → R) (k : ObjectKind) (o : Option (Option Place)) → option_map (option_map ref_of) o ≡ option_map (λ args. ref_at k ref_of args 0) (option_map last_of (option_map (Object k) o))
  target-ref ref_of k o = grind (arith, same_kind-self)

  -- The object of the last argument, as a reference.
  pub last_ref : {R : Type 0} (ref_of : Place → R) (k : ObjectKind) (text : List ℕ) (o : Option (Option Place)) → option_map (Object k) o ≡ arg_of_word place (Kind.Object k) text → option_map (option_map ref_of) o ≡ option_map (λ args. ref_at k ref_of args 0) (args_of_words place (Kind.Object k ∷ []) (words_of text))
  last_ref ref_of k text o e =
      target-ref ref_of k o ∙ ap (option_map (λ args. ref_at k ref_of args 0)) (ap (option_map last_of) e ∙ last_of_text (Kind.Object k) text)

  none-of : (words : List (List ℕ)) → (words ≡ [] → ⊥) → args_of_words place [] words ≡ None
  none-of words some = grind arith

  -- If text is left, there is an argument too many.
  pub none_left : (text : List ℕ) → args_of_words place [] (words_of text) ≡ None
  none_left text = none-of (words_of text) (some-word text)

  with-args : (verb : Verb) (o : Option (List (Arg (List ℕ)))) → option_map op_of (option_and_then (resolved place) (option_map (λ args. (verb, args)) o)) ≡ option_map (λ args. op_of (verb, args)) (option_and_then (resolve_args place) o)
  with-args verb o = grind arith

  by-verb : (words : List (List ℕ)) (o : Option Verb) → option_map op_of (option_and_then (resolved place) (option_and_then (form_of_verb words) o)) ≡ option_map_or (op_with_verb place words) o None
  by-verb words None = refl
  by-verb words (Some verb) = with-args verb (args_of (kinds_of verb) words) ∙ ap (option_map (λ args. op_of (verb, args))) (meant-args (kinds_of verb) words)

  by-words : (words : List (List ℕ)) → option_map op_of (option_and_then (resolved place) (form_of_words words)) ≡ of_first (op_with_verb place) None words
  by-words [] = refl
  by-words (word ∷ words) = by-verb words (verb_of word)

  -- The operation that a text means, by its first word and those behind it.
  pub text-means : (text : List ℕ) → op_of_text place text ≡ of_first (op_with_verb place) None (words_of text)
  text-means text = by-words (words_of text)

-- ---- where every name has a place, a text in form and in range means an operation

any-arg : (k : Kind) (w : List ℕ) → is_some (arg_of_word place_of_any k w) ≡ is_some (arg_of k w)
any-arg k w = grind arith

pub any-two : {A B : Type 0} (o : Option A) (p : Option B) (r : Option (List A)) (q : Option (List B)) → is_some o ≡ is_some p → is_some r ≡ is_some q → is_some (and_then_rest o r) ≡ is_some (and_then_rest p q)
any-two o p r q e f = grind arith

pub any-args : (ks : List Kind) (ws : List (List ℕ)) → is_some (args_of_words place_of_any ks ws) ≡ is_some (args_of ks ws)
any-args [] ws = grind arith
any-args (k ∷ ks) [] = refl
any-args (k ∷ ks) (w ∷ ws) =
    any-two (arg_of_word place_of_any k w) (arg_of k w) (args_of_words place_of_any ks ws) (args_of ks ws) (any-arg k w) (any-args ks ws)

pub is-mapped : {A B : Type 0} (f : A → B) (o : Option A) → is_some (option_map f o) ≡ is_some o
is-mapped f o = grind arith

any-verb : (words : List (List ℕ)) (o : Option Verb) → is_some (option_map_or (op_with_verb place_of_any words) o None) ≡ is_some (option_and_then (form_of_verb words) o)
any-verb words None = refl
any-verb words (Some verb) = simp is-mapped (any-args (kinds_of verb) words)

any-words : (words : List (List ℕ)) → is_some (of_first (op_with_verb place_of_any) None words) ≡ is_some (form_of_words words)
any-words [] = refl
any-words (word ∷ words) = any-verb words (verb_of word)

pub any_of_text : (text : List ℕ) → is_some (op_of_text place_of_any text) ≡ is_formed text
any_of_text text = rw (text-means place_of_any text) (any-words (words_of text))
