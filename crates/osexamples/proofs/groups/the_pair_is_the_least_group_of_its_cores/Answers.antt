use Rattle.std.proofs.Common.{refl}
use Rattle.osexamples.proofs.groups.the_pair_is_the_least_group_of_its_cores.Goals as goal

pub returns : goal.returns
returns c = record { group = refl; first = refl; second = refl }
