use Rattle.osrun.proofs.Finished.{separate-drained}
use Rattle.osrun.proofs.laws.separate_cores_have_drained_where_all_have_ended.Goals as goal

pub returns : goal.returns
returns c plan stimuli reports limits sound ended id separate = separate-drained plan stimuli reports limits sound ended id separate
