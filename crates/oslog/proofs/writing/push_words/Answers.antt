use Rattle.std.proofs.Common.{string_bytes, ◌∙◌, arith}
use Rattle.oslog.specs.Words.{word_text}
use Rattle.oslog.proofs.Joining.{word-more}
use Rattle.oslog.proofs.writing.push_words.Goals as goal

pub loop-kind-preserved : goal.loop-kind-preserved
loop-kind-preserved c =
    c.in_ok-push_word.ensures ∙ word-more (word_text c.args.plan.now c.args.parts.now) c.args.kinds.now c.loop-kind.kind-index _ (string_bytes c.args.text.now) (string_bytes c.loop-kind.text) (omega arith) c.loop-kind.invariant
