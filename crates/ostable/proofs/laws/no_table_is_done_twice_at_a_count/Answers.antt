use Rattle.ostable.proofs.Posted.{posted-in}
use Rattle.ostable.proofs.laws.no_table_is_done_twice_at_a_count.Goals as goal

pub returns : goal.returns
returns c core counter x amount wait = posted-in core counter x amount wait
