use Rattle.std.proofs.Common.{rules, arith}
use Rattle.osjobs.proofs.Counting.{count-few, counted-beyond, counted-more}
use Rattle.osjobs.proofs.live.push.Goals as goal

pub overflow_add-counts : goal.overflow_add-counts
overflow_add-counts g c =
    let known = c.requires.counted.each c.slot-place.result c.if-place-lt-RUNNERS.true in
    omega (arith, known, count-few c.slot-place.result c.args.jobs.now.items, c.requires.room, g.J.fits)

pub returns-then-place-lt-RUNNERS-clause-counted : goal.returns-then-place-lt-RUNNERS-clause-counted
returns-then-place-lt-RUNNERS-clause-counted g c =
    rw (c.push.ensures.items, c.slot-place.ensures) (counted-more c.args.jobs.now.items c.args.counts.now c.args.job c.requires.counted (search rules) (search rules))

pub returns-else-place-lt-RUNNERS-clause-counted : goal.returns-else-place-lt-RUNNERS-clause-counted
returns-else-place-lt-RUNNERS-clause-counted g c =
    rw c.push.ensures.items (counted-beyond c.args.jobs.now.items c.args.counts.now c.args.job c.requires.counted (search rules))
