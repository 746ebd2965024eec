-- The line of an item, and the item of a line. [own]
use Rattle.std.specs.Prelude.{ℕ, ◌++◌, Option, None, option_map, option_and_then, if◌then◌else◌, List, [], ◌∷◌, map}
use Rattle.std.specs.{Option.option_or, Str.bytes_eq}
use Rattle.osbase.specs.declared.items.Item.{Item}
use Rattle.ossyntax.specs.ParsedOp.{words_of}
use Rattle.osplan.specs.declared.plans.Plan.{Plan}
use Rattle.oslog.specs.{Forms.form_of, Forms.item_of, Forms.no_parts, Rows.keyword_text, Rows.row_of, declared.forms.Parts.Parts, declared.rows.Line.Line, declared.rows.TheConstants.LINES}
use Rattle.oslog.specs.Words.{read_words, tail_words, with_tail, word_text}

-- ---- writing

-- The words of a line after the first. `form` is the line's form and the line's parts.
abbrev pub later_words : Plan → Line × Parts → List (List ℕ)
later_words plan form = map (word_text plan form.1) (row_of form.0).1 ++ tail_words plan form.1 (row_of form.0).2

-- The text of these words, each after a space.
abbrev pub after_spaces : List (List ℕ) → List ℕ
after_spaces [] = []
after_spaces (word ∷ words) = (32 ∷ word) ++ after_spaces words

-- The line of an item, without its end: its words, divided by one space. [own]
abbrev pub line_of : Plan → Item → List ℕ
line_of plan item = keyword_text (row_of (form_of item).0).0 ++ after_spaces (later_words plan (form_of item))

-- ---- reading

-- The item of a line of this form, by the words after the line's first. None if these words do not fit the form.
abbrev pub item_behind : Plan → List (List ℕ) → Line → Option Item
item_behind plan words line =
    option_map (item_of line) (option_and_then (λ (p : Parts × List (List ℕ)). with_tail plan (row_of line).2 p.1 p.0) (read_words plan (row_of line).1 words no_parts))

-- The item of these words, if they are a line of this form.
abbrev pub item_as : Plan → List (List ℕ) → Line → Option Item
item_as plan [] line = None
item_as plan (first ∷ words) line = if bytes_eq first (keyword_text (row_of line).0) then item_behind plan words line else None

-- The item of the first of these forms for which `read` gives an item. None if there is no such form.
abbrev pub first_item : (Line → Option Item) → List Line → Option Item
first_item read [] = None
first_item read (line ∷ lines) = option_or (read line) (first_item read lines)

-- The item of a line, which is given without its line end, in the first form that fits. None if no form fits.
abbrev pub item_of_text : Plan → List ℕ → Option Item
item_of_text plan text = first_item (item_as plan (words_of text)) LINES
