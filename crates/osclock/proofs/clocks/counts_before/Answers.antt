use Rattle.osclock.proofs.Bounds.{value-within}
use Rattle.osclock.proofs.clocks.counts_before.Goals as goal

pub left-requires-clause-expiry : goal.left-requires-clause-expiry
left-requires-clause-expiry c = value-within c.args.counter.max c.args.alarm c.requires.bounded
