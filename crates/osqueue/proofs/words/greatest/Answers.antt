use Rattle.osqueue.proofs.Bits.{above-top}
use Rattle.osqueue.proofs.words.greatest.Goals as goal

pub returns-clause-above : goal.returns-clause-above
returns-clause-above c q above = above-top c.args.word c.ilog2.result q c.ilog2.ensures.next_power_gt above
