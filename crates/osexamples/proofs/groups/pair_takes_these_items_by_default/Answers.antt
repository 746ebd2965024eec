use Rattle.std.proofs.Common.{refl}
use Rattle.osexamples.proofs.groups.pair_takes_these_items_by_default.Goals as goal

pub returns : goal.returns
returns c = record { rounds = refl; items = refl; parts = refl }
