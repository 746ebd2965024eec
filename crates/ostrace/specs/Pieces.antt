-- The words of which lines are made, and which marks have the long lines. All of it is this project's own.
use Rattle.std.specs.Prelude.{ℕ, Bool, true, false, List, ◌++◌, codes}
use Rattle.std.specs.{Fmt.decimal, Fmt.signed_decimal, List.flat_map}
use Rattle.osbase.specs.declared.marks.Mark.{Mark}
use Rattle.ostrace.specs.declared.words.Word.{Word}
use Rattle.ostrace.specs.declared.words.Word.TheVariants.{Text, Whole, Signed, Variable}

-- The bytes of a word.
abbrev pub word_text : Word → List ℕ
word_text (Text t) = t.now
word_text (Whole n) = decimal n
word_text (Signed n) = signed_decimal n
word_text (Variable n) = codes "v" ++ decimal n

-- Words, each after a space.
abbrev pub text_after_spaces : List Word → List ℕ
text_after_spaces words = flat_map (λ w. codes " " ++ word_text w) words

-- The mark says what an operation answered: a status, a value, or a variable that was set.
abbrev pub is_of_result : Mark → Bool
is_of_result (Mark.ServiceReturned runner service status) = true
is_of_result (Mark.ValueReturned runner service value) = true
is_of_result (Mark.VariableSet runner variable value) = true
is_of_result mark = false

-- The mark has a long line: it says what an operation answered, that a core was started or halted, or is of a call to
-- another core.
abbrev pub is_long : Mark → Bool
is_long (Mark.StartCoreReturned core status) = true
is_long (Mark.CallQueued core call) = true
is_long (Mark.CallServed core status call) = true
is_long (Mark.CallAnswered core alarm variable value) = true
is_long (Mark.Halted core status) = true
is_long mark = is_of_result mark
