use Rattle.osgroup.proofs.Seeing.{sees-same}
use Rattle.osgroup.proofs.laws.a_core_of_a_group_sees_the_same.Goals as goal

pub returns : goal.returns
returns c plan group id inside = sees-same plan group id inside
