use Rattle.osgroup.proofs.Apart.{kept-apart}
use Rattle.osgroup.proofs.laws.a_group_and_the_other_cores_keep_apart.Goals as goal

pub returns : goal.returns
returns c plan group id limits is some = kept-apart plan group id limits is some
