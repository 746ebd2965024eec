use Rattle.ostable.proofs.Formulas.{periodic}
use Rattle.ostable.proofs.laws.points_are_due_at_their_offsets.Goals as goal

pub returns : goal.returns
returns c t wait counts timed = periodic t timed wait counts
