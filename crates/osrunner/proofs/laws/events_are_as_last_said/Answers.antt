use Rattle.osrunner.proofs.Words.{last-said}
use Rattle.osrunner.proofs.laws.events_are_as_last_said.Goals as goal

pub returns : goal.returns
returns c = (λ t h. record { set = (λ masks script event below. last-said script t event h below masks) })
