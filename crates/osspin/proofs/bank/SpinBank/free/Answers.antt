use Rattle.std.proofs.Common.{arith, rules}
use Rattle.osspin.proofs.Locks.{free_steps}
use Rattle.osspin.proofs.bank.SpinBank.free.Goals as goal

pub compare_exchange-found-requires : goal.compare_exchange-found-requires
compare_exchange-found-requires c = record { asked = search rules; place = search rules; word = search rules; step = rw (← c.core.ensures, c.word_of-mine.ensures, c.word_of.ensures, c.from-index.ensures) (free_steps c.core.result c.args.lock c.requires.lock (omega arith)) }
