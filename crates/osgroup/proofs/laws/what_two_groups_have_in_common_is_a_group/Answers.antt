use Rattle.osgroup.proofs.Joined.{intersection-group}
use Rattle.osgroup.proofs.laws.what_two_groups_have_in_common_is_a_group.Goals as goal

pub returns : goal.returns
returns c plan one other cores first second are = intersection-group plan one other cores first second are
