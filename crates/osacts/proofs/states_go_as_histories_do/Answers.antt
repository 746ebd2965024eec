use Rattle.osacts.proofs.Law.{agrees}
use Rattle.osacts.proofs.states_go_as_histories_do.Goals as goal

pub returns : goal.returns
returns c = (λ x v h within set permitted. agrees v within x h set permitted)
