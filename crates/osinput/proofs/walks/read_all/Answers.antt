use Rattle.osjson.specs.Reading.{each}
use Rattle.osjson.proofs.Each.{with_front-nil}
use Rattle.osinput.specs.Walk.{words_in}
use Rattle.osinput.proofs.walks.read_all.Goals as goal

pub loop-item-init : goal.loop-item-init
loop-item-init g c = rw c.in_ok-read.ensures.items (with_front-nil (each (g.R.WordReader.shape c.args.reader.now) (words_in c.args.text.now)))
