use Rattle.ostable.proofs.Finals.{ends-alone-in}
use Rattle.ostable.proofs.laws.a_table_does_one_point_at_a_count.Goals as goal

pub returns : goal.returns
returns c core counter x are = ends-alone-in core counter x are
