use Rattle.std.proofs.Common.{◌≡◌, length}
use Rattle.osjson.specs.Reading.{each}
use Rattle.osjson.proofs.Each.{with_front}
use Rattle.osinput.specs.Walk.{words_in}
use Rattle.osinput.proofs.walks.read_all.Given as goal

abbrev pub invariant-loop-item : goal.invariant-loop-item
invariant-loop-item g l = with_front l.read.items (each (g.R.WordReader.shape l.reader) (words_in l.rest)) ≡ each (g.R.WordReader.shape l.reader) (words_in l.text)

abbrev pub decreases-loop-item : goal.decreases-loop-item
decreases-loop-item g l = length l.rest
