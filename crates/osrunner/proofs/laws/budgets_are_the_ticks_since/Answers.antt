use Rattle.osrunner.proofs.Ticks.{used-since}
use Rattle.osrunner.proofs.laws.budgets_are_the_ticks_since.Goals as goal

pub returns : goal.returns
returns c = (λ r h. record { used = (λ script. used-since script r h) })
