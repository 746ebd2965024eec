-- Operations and their texts, given what names stand for. [own]
use Rattle.std.specs.Prelude.{ℕ, ◌++◌, if◌then◌else◌, Bool, true, Option, Some, None, is_some, option_map, option_and_then, List, [], ◌∷◌, map}
use Rattle.std.specs.{Borrow.Bor, Option.option_map_or}
use Rattle.osbase.specs.{Names.is_name, declared.objects.ObjectKind.ObjectKind, declared.objects.Place.Place}
use Rattle.oscript.specs.{declared.Op.Op, declared.rows.Verb.Verb, declared.rows.Arg.Arg, declared.rows.Kind.Kind, Rows.op_of, Rows.parsed_op_of, Rows.kinds_of}
use Rattle.oscript.specs.declared.rows.Arg.TheVariants.{Core, Object, Mask, Number, Int, Variable}
use Rattle.oscript.specs.Rows as rows
use Rattle.ossyntax.specs.ParsedOp.{and_then_rest, arg_of, args_of, form_of, form_text, arg_text, rest_words, verb_of, words_of}

-- ---- from names to places

-- The argument with its name replaced by the name's place. An argument without a name stays. None if the name has no
-- place.
abbrev pub resolve_arg : (ObjectKind → List ℕ → Option Place) → Arg (List ℕ) → Option (Arg Place)
resolve_arg place (Object kind None) = Some (Object kind None)
resolve_arg place (Object kind (Some name)) = option_map (λ found. Object kind (Some found)) (place kind name)
resolve_arg place (Mask mask) = Some (Mask mask)
resolve_arg place (Number n) = Some (Number n)
resolve_arg place (Int z) = Some (Int z)
resolve_arg place (Variable x) = Some (Variable x)
resolve_arg place (Core target) = Some (Core target)

-- The arguments with each name replaced by its place. None if a name has no place.
abbrev pub resolve_args : (ObjectKind → List ℕ → Option Place) → List (Arg (List ℕ)) → Option (List (Arg Place))
resolve_args place [] = Some []
resolve_args place (a ∷ args) = and_then_rest (resolve_arg place a) (resolve_args place args)

-- The form with each name replaced by its place, if each name has one.
abbrev pub resolved : (ObjectKind → List ℕ → Option Place) → Verb × List (Arg (List ℕ)) → Option (Verb × List (Arg Place))
resolved place form = option_map (λ args. (form.0, args)) (resolve_args place form.1)

-- The operation that a text means, if the text is well-formed and in range and its names have places.
abbrev pub op_of_text : (ObjectKind → List ℕ → Option Place) → List ℕ → Option Op
op_of_text place text = option_map op_of (option_and_then (resolved place) (form_of text))

-- The word as an argument of the kind, with the place of its name. None if the word is no argument of the kind, or if
-- the name has no place.
abbrev pub arg_of_word : (ObjectKind → List ℕ → Option Place) → Kind → List ℕ → Option (Arg Place)
arg_of_word place kind word = option_and_then (resolve_arg place) (arg_of kind word)

-- The words as arguments, each of its kind and with the place of its name, if each word is such an argument and there
-- are as many words as kinds.
abbrev pub args_of_words : (ObjectKind → List ℕ → Option Place) → List Kind → List (List ℕ) → Option (List (Arg Place))
args_of_words place [] [] = Some []
args_of_words place [] (w ∷ ws) = None
args_of_words place (k ∷ ks) [] = None
args_of_words place (k ∷ ks) (w ∷ ws) = and_then_rest (arg_of_word place k w) (args_of_words place ks ws)

-- The argument that was read first, and then the rest of the text as arguments of the kinds. None if no argument was
-- read, or if the rest is not arguments of the kinds.
abbrev pub args_after : (ObjectKind → List ℕ → Option Place) → Option (Arg Place × Option (Bor (List ℕ))) → List Kind → Option (List (Arg Place))
args_after place None kinds = None
args_after place (Some next) kinds = option_map (λ as_. next.0 ∷ as_) (args_of_words place kinds (rest_words next.1))

-- The list of one argument, the last of a text.
abbrev pub last_of : Arg Place → List (Arg Place)
last_of a = a ∷ []

-- The list of these two arguments.
abbrev pub two_of : Arg Place × Arg Place → List (Arg Place)
two_of two = two.0 ∷ two.1 ∷ []

-- The list of these three arguments.
abbrev pub three_of : Arg Place × Arg Place × Arg Place → List (Arg Place)
three_of three = three.0 ∷ three.1 ∷ three.2 ∷ []

-- The operation of a verb with these words as its arguments. None if the words are not arguments of the verb, or if a
-- name in them has no place.
abbrev pub op_with_verb : (ObjectKind → List ℕ → Option Place) → List (List ℕ) → Verb → Option Op
op_with_verb place words verb = option_map (λ args. op_of (verb, args)) (args_of_words place (kinds_of verb) words)

-- The place of any well-formed name: the same for all, so that an operation can be checked whatever its names refer to.
-- None for any other text.
abbrev pub place_of_any : ObjectKind → List ℕ → Option Place
place_of_any kind name = if is_name name then Some (record { core = record { number = 0 }; index = 0 }) else None

-- The text is well-formed and in range.
abbrev pub is_formed : List ℕ → Bool
is_formed text = is_some (form_of text)

-- ---- what is checked besides the ranges of numbers. It is all checked on one reading of the words, which takes any
-- decimal number, so that no number hides a fault of a name or of a mask.

-- The kind; in place of `Number`, it is `Mask`, which takes any decimal number. A number's range is tested separately.
-- [own]
abbrev pub unranged : Kind → Kind
unranged (Kind.Number low high) = Kind.Mask
unranged kind = kind

-- The words as arguments of the verb, if they are such arguments. A `Number` may be any decimal number.
abbrev pub read_args : List (List ℕ) → Verb → Option (List (Arg (List ℕ)))
read_args words verb = args_of (map unranged (kinds_of verb)) words

-- What `ask` answers for the verb of the first word and the words behind it; `none` if the first word is no verb's.
abbrev pub of_first : {X : Type 0} → (List (List ℕ) → Verb → X) → X → List (List ℕ) → X
of_first ask none [] = none
of_first ask none (word ∷ words) = option_map_or (ask words) (verb_of word) none

-- If the words are arguments of the verb, each name in them has its place. Other words have no names.
abbrev pub are_names_known : (ObjectKind → List ℕ → Option Place) → List (List ℕ) → Verb → Bool
are_names_known place words verb = option_map_or (λ args. is_some (resolve_args place args)) (read_args words verb) true

-- Each name of a well-formed text has its place. Any other text has no names.
abbrev pub is_known : (ObjectKind → List ℕ → Option Place) → List ℕ → Bool
is_known place text = of_first (are_names_known place) true (words_of text)

-- The operation of a verb with these words as its arguments, but with 0 for each `Number`. None if the words are not
-- such arguments, or if a name in them has no place.
abbrev pub references_with_verb : (ObjectKind → List ℕ → Option Place) → List (List ℕ) → Verb → Option Op
references_with_verb place words verb = option_map (λ args. op_of (verb, args)) (option_and_then (resolve_args place) (read_args words verb))

-- The operation of a well-formed text whose names have places, but with 0 for each `Number`. If the text is in range,
-- too, only these zeros differ from the operation that it means.
abbrev pub references_of_text : (ObjectKind → List ℕ → Option Place) → List ℕ → Option Op
references_of_text place text = of_first (references_with_verb place) None (words_of text)

-- Each mask of a well-formed text is in its range, whatever the names of the text refer to. Any other text has no
-- masks.
abbrev pub has_masks : List ℕ → Bool
has_masks text = option_map_or rows.has_masks (references_of_text place_of_any text) true

-- ---- from places to names

-- The argument with its object's name in place of the object's place.
abbrev pub named : (ObjectKind → Place → List ℕ) → Arg Place → Arg (List ℕ)
named name (Object kind target) = Object kind (option_map (name kind) target)
named name (Mask mask) = Mask mask
named name (Number n) = Number n
named name (Int z) = Int z
named name (Variable x) = Variable x
named name (Core target) = Core target

-- A form, which is a verb with its arguments, with each object's name in place of the object's place.
abbrev pub named_form : (ObjectKind → Place → List ℕ) → Verb × List (Arg Place) → Verb × List (Arg (List ℕ))
named_form name form = (form.0, map (named name) form.1)

-- The text of an operation: its words, divided by one space.
abbrev pub op_text : (ObjectKind → Place → List ℕ) → Op → List ℕ
op_text name op = form_text (named_form name (parsed_op_of op))

-- The text of arguments: each after a space.
abbrev pub args_text : (ObjectKind → Place → List ℕ) → List (Arg Place) → List ℕ
args_text name [] = []
args_text name (a ∷ args) = 32 ∷ arg_text (named name a) ++ args_text name args
