use Rattle.std.proofs.Common.{rules}
use Rattle.osstate.proofs.ReadLemmas.{read}
use Rattle.osadmit.specs.Admission.{takes_in}
use Rattle.oskernel.proofs.kernel.Kernel.may_take.Goals as goal

pub returns-then-items-lt-MOST_ITEMS-clause-reads : goal.returns-then-items-lt-MOST_ITEMS-clause-reads
returns-then-items-lt-MOST_ITEMS-clause-reads g c v h stands = read (λ s. takes_in g.row.OUT s c.args.item.now) (search rules) stands
