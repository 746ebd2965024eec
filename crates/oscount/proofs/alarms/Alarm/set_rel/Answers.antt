use Rattle.oscount.proofs.Expiries.{relative-by}
use Rattle.oscount.proofs.alarms.Alarm.set_rel.Goals as goal

pub returns-clause-counts : goal.returns-clause-counts
returns-clause-counts c count counter =
    relative-by c.args.counter count c.args.increment c.args.cycle c.wrapped.result counter c.requires.granted c.wrapped.ensures
