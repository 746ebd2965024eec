use Rattle.std.proofs.Common.{◌+◌, ◌-◌, ◌%◌, ap, add-one}
use Rattle.oscount.proofs.Expiries.{reached-by}
use Rattle.oscount.proofs.counters.counts_to.Goals as goal

pub returns-clause-reached : goal.returns-clause-reached
returns-clause-reached c count counter =
    reached-by c.args.counter count c.args.start _ counter c.requires.turn (ap (λ n. (c.args.start + c.args.counter.max - c.args.counter.value) % n + 1) (add-one c.args.counter.max))
