use Rattle.osspin.proofs.Each.{legal-each}
use Rattle.osspin.proofs.laws.each_spinlock_has_its_own_history.Goals as goal

pub returns : goal.returns
returns c log legal lock known = legal-each lock known log legal
