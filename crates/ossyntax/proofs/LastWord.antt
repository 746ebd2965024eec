-- What is left of a text for a last argument is one word, since no argument has a space.
use Rattle.std.proofs.Common.{inl, inr, ◌≡◌, ℕ, ◌<◌, ◌==◌, false, Option, Some, None, option_map, List, [], ◌∷◌, length, refl, sym, ◌∙◌, arith}
use Rattle.std.specs.List.{onto_first}
use Rattle.std.proofs.{lemmas.Bool.cases_Bool, lemmas.Bool.true≢false, lemmas.List.Splits.length-slice_split}
use Rattle.oscript.specs.{declared.rows.Kind.Kind, declared.rows.Arg.Arg}
use Rattle.ossyntax.specs.ParsedOp.{words_of, arg_of, and_then_rest, args_of}
use Rattle.ossyntax.proofs.{Joining.has_none, Joining.split-lone, KindTexts.arg_of-none, RoundTrip.space-apart}

onto-many : (x : ℕ) (ws : List (List ℕ)) → 1 < length ws → 1 < length (onto_first x ws)
onto-many x ws many = grind arith

-- a text with a space has more than one word
words-many : (text : List ℕ) → has_none 32 text ≡ false → 1 < length (words_of text)
words-many [] spaced = cc
words-many (x ∷ xs) spaced = grind (arith, length-slice_split (λ b. b == 32) xs, onto-many x (words_of xs), words-many xs)

pub rest-none : {A : Type 0} (o : Option A) → and_then_rest o None ≡ None
rest-none o = grind arith

pub lone-rest : {A : Type 0} (o : Option A) → and_then_rest o (Some []) ≡ option_map (λ a. a ∷ []) o
lone-rest o = grind arith

args-many : (k : Kind) (words : List (List ℕ)) → 1 < length words → args_of (k ∷ []) words ≡ None
args-many k (w ∷ v ∷ ws) many = rest-none (arg_of k w)
args-many k words many = absurd (omega arith)

spaced-none : (k : Kind) (text : List ℕ) (o : Option (Arg (List ℕ))) → arg_of k text ≡ o → has_none 32 text ≡ false → o ≡ None
spaced-none k text None e spaced = refl
spaced-none k text (Some a) e spaced = absurd (true≢false (sym (arg_of-none 32 k text a space-apart e) ∙ spaced))

pub last-word : (k : Kind) (text : List ℕ) → args_of (k ∷ []) (words_of text) ≡ option_map (λ a. a ∷ []) (arg_of k text)
last-word k text =
    elim (cases_Bool (has_none 32 text)) as (λ _. args_of (k ∷ []) (words_of text) ≡ option_map (λ a. a ∷ []) (arg_of k text)) [
      | inl none ↦ rw (split-lone 32 text none) (lone-rest (arg_of k text))
      | inr spaced ↦ rw (args-many k (words_of text) (words-many text spaced), spaced-none k text (arg_of k text) refl spaced)
    ]
