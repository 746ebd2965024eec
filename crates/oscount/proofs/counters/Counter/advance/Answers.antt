use Rattle.oscount.proofs.Expiries.{counted-by}
use Rattle.oscount.proofs.counters.Counter.advance.Goals as goal

pub returns-clause-counts : goal.returns-clause-counts
returns-clause-counts c count is = counted-by c.args.self.now count c.wrapped-self.result is c.wrapped-self.ensures
