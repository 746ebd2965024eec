use Rattle.ostrace.proofs.Gathering.{Writes-gathered, Writes-not_gathered}
use Rattle.ostrace.proofs.words.write_ended_words.Goals as goal

pub returns-in_err-write_words : goal.returns-in_err-write_words
returns-in_err-write_words g c = Writes-not_gathered _ c.from_residual.ensures.0 (rw c.new-gathered.ensures at c.in_err-write_words.ensures)

pub returns : goal.returns
returns g c = Writes-gathered _ (rw c.new-gathered.ensures at c.in_ok-write_words.ensures) c.send.ensures.written
