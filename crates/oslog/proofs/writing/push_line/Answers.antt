use Rattle.std.proofs.Common.{◌++◌, string_bytes, ap, ◌∙◌}
use Rattle.oslog.specs.{Rows.row_view, Words.core_words, Words.tail_words}
use Rattle.oslog.proofs.ItemText.{line-pushed}
use Rattle.oslog.proofs.writing.push_line.Goals as goal

pub returns-in-Cores : goal.returns-in-Cores
returns-in-Cores c =
    let plan = c.args.plan.now in
    let parts = c.form_of-line.result.1 in
    line-pushed plan c.args.item.now c.form_of-line.result (row_view c.row_of-row.result) (string_bytes c.args.text.now) (string_bytes c.push_str.new.self) (string_bytes c.push_words.new.text) (string_bytes c.push_cores.new.text) (core_words parts.cores) c.push_cores.result
    c.form_of-line.ensures c.row_of-row.ensures (c.in_ok-push_str.ensures.bytes ∙ ap (λ word. string_bytes c.args.text.now ++ word) c.text.ensures) c.in_ok-push_words.ensures (ap (tail_words plan parts) c.in-Cores.is) c.push_cores.ensures
