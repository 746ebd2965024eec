use Rattle.std.proofs.Common.{◌≡◌, ◌++◌, string_bytes, ap, sym, ◌∙◌, arith}
use Rattle.oslog.specs.Items.{after_spaces}
use Rattle.oslog.proofs.{Cores.core-more, Cores.no-core-more, Cores.words_from, writing.push_cores.Goals.then-contains+in_ok-push_number, writing.push_cores.Goals.else-contains}
use Rattle.oslog.proofs.writing.push_cores.Goals as goal

pub loop-number-preserved : goal.loop-number-preserved
loop-number-preserved c =
    let cores = c.args.cores.now in
    let initial = string_bytes c.args.text.now in
    let text = string_bytes c.loop-number.text in
    elim c.if-contains.branch [
      | then-contains+in_ok-push_number w ↦ rw w.text-is (w.in_ok-push_number.ensures ∙ core-more cores c.loop-number.number initial text (sym c.contains.ensures.value ∙ w.if-contains.true) c.loop-number.invariant)
      | else-contains w ↦ rw w.text-is (no-core-more cores c.loop-number.number initial text (sym c.contains.ensures.value ∙ w.if-contains.false) c.loop-number.invariant)
    ]

pub returns : goal.returns
returns c =
    let all : c.loop-number.number ≡ 16 = omega arith in
    c.loop-number.invariant ∙ ap (λ n. string_bytes c.args.text.now ++ after_spaces (words_from c.args.cores.now 0 n)) all
