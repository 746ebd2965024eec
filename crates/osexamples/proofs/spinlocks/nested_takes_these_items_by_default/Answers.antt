use Rattle.std.proofs.Common.{refl}
use Rattle.osexamples.proofs.spinlocks.nested_takes_these_items_by_default.Goals as goal

pub returns : goal.returns
returns c = record { rounds = refl; items = refl; stalls = refl }
