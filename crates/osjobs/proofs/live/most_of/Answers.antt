use Rattle.std.proofs.Common.{ℕ, ap, ◌∙◌, arith}
use Rattle.osjobs.specs.Live.{place_count}
use Rattle.osjobs.proofs.Counting.{count-at-place, count-within}
use Rattle.osjobs.proofs.live.most_of.Goals as goal

pub returns-then-place-lt-RUNNERS : goal.returns-then-place-lt-RUNNERS
returns-then-place-lt-RUNNERS c =
    let here = c.requires.counted.each c.slot-place.result c.if-place-lt-RUNNERS.true ∙ ap (λ (n : ℕ). place_count n c.args.jobs.now) c.slot-place.ensures in
    omega (arith, count-at-place c.args.runner c.args.jobs.now, here)

pub returns-else-place-lt-RUNNERS : goal.returns-else-place-lt-RUNNERS
returns-else-place-lt-RUNNERS c = count-within c.args.runner c.args.jobs.now
