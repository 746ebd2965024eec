use Rattle.osclock.proofs.Bounds.{counter-stands}
use Rattle.osclock.proofs.clocks.due_after.Goals as goal

pub returns : goal.returns
returns c = c.set_rel.ensures.counts c.args.counter.value (counter-stands c.args.counter c.requires.counter.value)
