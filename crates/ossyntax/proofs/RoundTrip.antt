-- An operation's form, its text and the form that the text has: by its row, and by the kinds of its arguments.
use Rattle.std.proofs.Common.{◌≡◌, ℕ, ◌==◌, not, true, false, Option, Some, option_map, option_and_then, List, [], ◌∷◌, length, map, refl, ap, ◌∙◌, arith}
use Rattle.std.specs.List.{list_all}
use Rattle.std.proofs.lemmas.Bool.{and_parts, and_from}
use Rattle.osbase.specs.Names.{is_name_part}
use Rattle.oscript.specs.{declared.rows.Kind.Kind, declared.rows.Verb.Verb, declared.rows.Arg.Arg, Rows.word_of, Rows.kinds_of}
use Rattle.ossyntax.specs.ParsedOp.{arg_of, and_then_rest, args_of, form_of_verb, form_of_words, form_of, arg_text, form_text}
use Rattle.ossyntax.proofs.Joining.{has_none, split-joined, joined-none, joined-some, all-none}
use Rattle.ossyntax.proofs.KindTexts.{arg_of-none, ReadsBack, IsApart}
use Rattle.ossyntax.proofs.Rows.{is-row}

-- ---- arguments

pub both : {A : Type 0} (o : Option A) (r : Option (List A)) (all : List A) → and_then_rest o r ≡ Some all → (a : A) × (rest : List A) × (o ≡ Some a) × (r ≡ Some rest) × (a ∷ rest ≡ all)
both o r all e = grind arith

args_of-none : (byte : ℕ) (ks : List Kind) (words : List (List ℕ)) (args : List (Arg (List ℕ))) → IsApart byte → args_of ks words ≡ Some args → list_all (has_none byte) words ≡ true
args_of-none byte [] ws args apart e = grind arith
args_of-none byte (k ∷ ks) [] args apart e = cc
args_of-none byte (k ∷ ks) (w ∷ ws) args apart e =
    let m = both (arg_of k w) (args_of ks ws) args e in
    and_from _ _ (arg_of-none byte k w m.0 apart m.2) (args_of-none byte ks ws m.1 apart m.3)

-- ---- options

pub chained : {A B : Type 0} (f : A → Option B) (o : Option A) (b : B) → option_and_then f o ≡ Some b → (a : A) × (o ≡ Some a) × (f a ≡ Some b)
chained f o b e = grind arith

-- ---- from a form and back

-- each argument reads back as its kind
abbrev pub AreArgs : List Kind → List (Arg (List ℕ)) → Type 0
AreArgs [] [] = Unit {0}
AreArgs (k ∷ ks) (a ∷ args) = ReadsBack k a × AreArgs ks args
AreArgs ks args = ⊥

args-back : (ks : List Kind) (args : List (Arg (List ℕ))) → AreArgs ks args → args_of ks (map arg_text args) ≡ Some args
args-back [] [] are = refl
args-back (k ∷ ks) (a ∷ args) are = rw (are.0, args-back ks args are.1)
args-back ks args are = absurd are

-- a byte that no argument has is not in the words of such a form
words-none : (byte : ℕ) → IsApart byte → (v : Verb) (args : List (Arg (List ℕ))) → AreArgs (kinds_of v) args → list_all (has_none byte) (word_of v ∷ map arg_text args) ≡ true
words-none byte apart v args are =
    and_from _ _ (all-none is_name_part byte (word_of v) apart.part (and_parts (not (length (word_of v) == 0)) _ (is-row v).1).1)
    (args_of-none byte (kinds_of v) (map arg_text args) args apart (args-back (kinds_of v) args are))

pub space-apart : IsApart 32
space-apart = record { digit = refl; part = refl; minus = refl; invalid = refl; letter = refl }

-- The text of a form is read as that form.
pub form_text-back : (v : Verb) (args : List (Arg (List ℕ))) → AreArgs (kinds_of v) args → form_of (form_text (v, args)) ≡ Some (v, args)
form_text-back v args are =
    ap form_of_words (split-joined 32 (word_of v) (map arg_text args) refl (words-none 32 space-apart v args are))
    ∙ ap (option_and_then (form_of_verb (map arg_text args))) (is-row v).0
    ∙ ap (option_map (λ as_. (v, as_))) (args-back (kinds_of v) args are)

-- A byte that no argument has, other than the space, is not in the text; and the text is not empty.
pub form_text-none : (byte : ℕ) → IsApart byte → (32 == byte) ≡ false → (v : Verb) (args : List (Arg (List ℕ))) → AreArgs (kinds_of v) args → has_none byte (form_text (v, args)) ≡ true
form_text-none byte apart other v args are = joined-none byte (word_of v) (map arg_text args) other (words-none byte apart v args are)

pub form_text-some : (v : Verb) (args : List (Arg (List ℕ))) → not (length (form_text (v, args)) == 0) ≡ true
form_text-some v args = joined-some (word_of v) (map arg_text args) (and_parts (not (length (word_of v) == 0)) _ (is-row v).1).0
