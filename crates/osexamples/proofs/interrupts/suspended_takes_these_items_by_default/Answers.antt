use Rattle.std.proofs.Common.{refl}
use Rattle.osexamples.proofs.interrupts.suspended_takes_these_items_by_default.Goals as goal

pub returns-clause-rounds : goal.returns-clause-rounds
returns-clause-rounds c = refl

pub returns-clause-items : goal.returns-clause-items
returns-clause-items c = refl
