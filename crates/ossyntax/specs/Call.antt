-- Calls across cores as words. [own]
use Rattle.std.specs.Prelude.{ℕ, List, ◌∷◌, map}
use Rattle.osbase.specs.{declared.objects.ObjectKind.ObjectKind, declared.objects.Place.Place, declared.messages.RemoteCall.RemoteCall}
use Rattle.oscript.specs.{Calls.op_of_call, Rows.parsed_op_of, Rows.word_of, declared.rows.Arg.Arg, declared.rows.Verb.Verb}
use Rattle.ossyntax.specs.{ParsedOp.arg_text, Operation.named}

-- The words of a form: the verb's word, and the words of the arguments.
abbrev pub form_words : (ObjectKind → Place → List ℕ) → Verb × List (Arg Place) → List (List ℕ)
form_words name form = word_of form.0 ∷ map (λ a. arg_text (named name a)) form.1

-- The words of a call: those of the operation that a script has for the call.
abbrev pub call_words : (ObjectKind → Place → List ℕ) → RemoteCall → List (List ℕ)
call_words name call = form_words name (parsed_op_of (op_of_call call))
