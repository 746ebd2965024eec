-- What an operation's text says: its verb and its arguments, whose names are not looked up yet. [own]
use Rattle.std.specs.Prelude.{ℕ, ◌==◌, Bool, false, if◌then◌else◌, Option, Some, None, option_map, option_and_then, List, [], ◌∷◌, drop, map, find, codes}
use Rattle.std.specs.{Borrow.Bor, List.slice_split, List.join_with_byte, Option.option_or, Str.bytes_eq, Fmt.decimal, Fmt.signed_decimal}
use Rattle.oscript.specs.{declared.rows.Verb.Verb, declared.rows.Kind.Kind, declared.rows.TheConstants.VERBS, declared.rows.Arg.Arg, Rows.word_of, Rows.kinds_of}
use Rattle.oscript.specs.declared.rows.Arg.TheVariants.{Core, Object, Mask, Number, Int, Variable}
use Rattle.ossyntax.specs.Word.{core_of, mask_of, number_in, int_of, variable_of, target_of}

-- ---- reading

-- The words of a text, divided by one space. The empty text has one word, the empty one.
abbrev pub words_of : List ℕ → List (List ℕ)
words_of text = slice_split (λ b. b == 32) text

-- The words of the rest of a text; no words if there is no rest.
abbrev pub rest_words : Option (Bor (List ℕ)) → List (List ℕ)
rest_words None = []
rest_words (Some rest) = words_of rest.now

-- The word as an argument of the kind, if it is one.
abbrev pub arg_of : Kind → List ℕ → Option (Arg (List ℕ))
arg_of (Kind.Object k) word = option_map (Object k) (target_of word)
arg_of Kind.Mask word = option_map Mask (mask_of word)
arg_of (Kind.Number low high) word = option_map Number (number_in low high word)
arg_of Kind.Int word = option_map Int (int_of word)
arg_of Kind.Variable word = option_map Variable (variable_of word)
arg_of Kind.Core word = option_map Core (core_of word)

-- The list of a first element and the rest, if there are both.
abbrev pub and_then_rest : {A : Type 0} → Option A → Option (List A) → Option (List A)
and_then_rest None rest = None
and_then_rest (Some a) rest = option_map (λ as_. a ∷ as_) rest

-- The words as arguments, each of its kind, if each word is one and there are as many words as kinds.
abbrev pub args_of : List Kind → List (List ℕ) → Option (List (Arg (List ℕ)))
args_of [] [] = Some []
args_of [] (w ∷ ws) = None
args_of (k ∷ ks) [] = None
args_of (k ∷ ks) (w ∷ ws) = and_then_rest (arg_of k w) (args_of ks ws)

-- The first of the words is this one.
abbrev pub is_first : List ℕ → List (List ℕ) → Bool
is_first word [] = false
is_first word (first ∷ words) = bytes_eq word first

-- The words behind the first one, if the first one is this word.
abbrev pub words_behind : List ℕ → List (List ℕ) → Option (List (List ℕ))
words_behind word words = if is_first word words then Some (drop 1 words) else None

-- The first of these verbs whose word is the first of the words, and the words behind it. None if there is no such
-- verb.
abbrev pub first_read : List (List ℕ) → List Verb → Option (Verb × List (List ℕ))
first_read words [] = None
first_read words (verb ∷ verbs) = option_or (option_map (λ behind. (verb, behind)) (words_behind (word_of verb) words)) (first_read words verbs)

-- The verb that was found, and the words of the text behind the verb's word.
abbrev pub verb_and_words : Verb × Option (Bor (List ℕ)) → Verb × List (List ℕ)
verb_and_words found = (found.0, rest_words found.1)

-- The verb whose word this is, if there is one.
abbrev pub verb_of : List ℕ → Option Verb
verb_of word = find (λ verb. bytes_eq (word_of verb) word) VERBS

-- The form of a verb with these words: the verb, and the words as its arguments. None if the words are not arguments of
-- the verb.
abbrev pub form_of_verb : List (List ℕ) → Verb → Option (Verb × List (Arg (List ℕ)))
form_of_verb words verb = option_map (λ args. (verb, args)) (args_of (kinds_of verb) words)

-- The form of these words, if there is one: the first is a verb's word, and the others are its arguments.
abbrev pub form_of_words : List (List ℕ) → Option (Verb × List (Arg (List ℕ)))
form_of_words [] = None
form_of_words (word ∷ words) = option_and_then (form_of_verb words) (verb_of word)

-- What an operation's text says, if it is well-formed and in range. It is well-formed if it has the word of a verb and
-- as many arguments as the verb has, each of its kind. There a `Number` may be any decimal number. The text is in range
-- if each `Number` is also within its bounds. For both, a mask may be any decimal number; a mask out of its own range
-- becomes 0.
abbrev pub form_of : List ℕ → Option (Verb × List (Arg (List ℕ)))
form_of text = form_of_words (words_of text)

-- ---- writing

-- The word of an argument: `?` if it refers to no object or no core.
abbrev pub arg_text : Arg (List ℕ) → List ℕ
arg_text (Object k None) = codes "?"
arg_text (Object k (Some name)) = name
arg_text (Mask mask) = decimal mask
arg_text (Number n) = decimal n
arg_text (Int z) = signed_decimal z
arg_text (Variable x) = 118 ∷ decimal x
arg_text (Core None) = codes "?"
arg_text (Core (Some core)) = decimal core.number

-- The words of a form, divided by one space.
abbrev pub form_text : Verb × List (Arg (List ℕ)) → List ℕ
form_text form = join_with_byte 32 (word_of form.0 ∷ map arg_text form.1)
