use Rattle.osgroup.proofs.Joined.{separate-group}
use Rattle.osgroup.proofs.laws.a_separate_core_is_a_group.Goals as goal

pub returns : goal.returns
returns c plan id cores limits separate one = separate-group plan id cores limits separate one
