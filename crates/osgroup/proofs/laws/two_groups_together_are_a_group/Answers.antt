use Rattle.osgroup.proofs.Joined.{union-group}
use Rattle.osgroup.proofs.laws.two_groups_together_are_a_group.Goals as goal

pub returns : goal.returns
returns c plan one other cores first second are = union-group plan one other cores first second are
