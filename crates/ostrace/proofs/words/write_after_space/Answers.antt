use Rattle.std.proofs.{Common.◌++◌, Common.append-nil, Common.codes, lemmas.List.take_more}
use Rattle.ostrace.specs.Pieces.{word_text}
use Rattle.ostrace.proofs.Gathering.{Gathers-broken, Gathers-next}
use Rattle.ostrace.proofs.words.write_after_space.Goals as goal

pub returns-in_err-write_word_after_space : goal.returns-in_err-write_word_after_space
returns-in_err-write_word_after_space g c =
    Gathers-broken (λ w. codes " " ++ word_text w) c.args.words.now c.loop-word.word-index (take_more c.args.words.now c.loop-word.word-index _ c.loop-word-test.true) _ c.loop-word.invariant c.from_residual.ensures.0 (rw append-nil at c.in_err-write_word_after_space.ensures)

pub loop-word-preserved : goal.loop-word-preserved
loop-word-preserved g c =
    Gathers-next (λ w. codes " " ++ word_text w) c.args.words.now c.loop-word.word-index (take_more c.args.words.now c.loop-word.word-index _ c.loop-word-test.true) _ c.loop-word.invariant (rw append-nil at c.in_ok-write_word_after_space.ensures)
