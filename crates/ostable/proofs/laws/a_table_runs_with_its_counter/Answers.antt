use Rattle.ostable.proofs.Formulas.{runs-since}
use Rattle.ostable.proofs.laws.a_table_runs_with_its_counter.Goals as goal

pub returns : goal.returns
returns c counter s wait later h none = runs-since counter s wait later h none
