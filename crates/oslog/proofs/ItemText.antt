-- The text of a line, pushed part by part.
use Rattle.std.proofs.Common.{◌≡◌, ℕ, List, ◌++◌, map, Result, Ok, Err, OnOk}
use Rattle.std.proofs.lemmas.List.{append_assoc}
use Rattle.osbase.specs.declared.items.Item.{Item}
use Rattle.osplan.specs.declared.plans.Plan.{Plan}
use Rattle.oslog.specs.{Forms.form_of, Items.after_spaces, Items.line_of, Rows.keyword_text, Rows.row_of, Words.tail_words, Words.word_text, declared.forms.Parts.Parts, declared.rows.Keyword.Keyword as Word, declared.rows.Kind.Kind, declared.rows.Line.Line, declared.rows.Tail.Tail}
use Rattle.oslog.proofs.Joining.{after_spaces-append}

pub line-pushed : {A E : Type 0} (plan : Plan) (item : Item) (form : Line × Parts) (row : Word × List Kind × Tail) (old first words new : List ℕ) (tail : List (List ℕ)) (r : Result A E) → form ≡ form_of item → row ≡ row_of form.0
    → first ≡ old ++ keyword_text row.0 → words ≡ first ++ after_spaces (map (word_text plan form.1) row.1) → tail_words plan form.1 row.2 ≡ tail → OnOk r (new ≡ words ++ after_spaces tail) → OnOk r (new ≡ old ++ line_of plan item)
line-pushed plan item form row old first words new tail (Ok x) form_is row_is first_is words_are tail_is is = rw (is, words_are, first_is, ← tail_is, row_is, form_is) (simp (after_spaces-append, append_assoc))
line-pushed plan item form row old first words new tail (Err e) form_is row_is first_is words_are tail_is pushed = pushed
