use Rattle.std.proofs.Common.{arith}
use Rattle.osjobs.proofs.Counting.{count-parts}
use Rattle.osjobs.proofs.live.count_jobs.Goals as goal

pub returns-else-count-most : goal.returns-else-count-most
returns-else-count-most c = omega (arith, c.requires.most, c.loop-place.invariant.counted, c.if-count-most.false, count-parts c.args.runner c.args.jobs.now c.loop-place.place)
