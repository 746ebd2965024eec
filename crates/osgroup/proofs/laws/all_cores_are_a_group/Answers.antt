use Rattle.osgroup.proofs.Joined.{all-group}
use Rattle.osgroup.proofs.laws.all_cores_are_a_group.Goals as goal

pub returns : goal.returns
returns c plan cores all = all-group plan cores all
