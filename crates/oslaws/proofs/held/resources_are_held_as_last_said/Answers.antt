use Rattle.oslaws.proofs.Takings.{held-as-said}
use Rattle.oslaws.proofs.held.resources_are_held_as_last_said.Goals as goal

pub returns : goal.returns
returns c = (λ r h. record { held = (λ none script n. held-as-said script r h none n) })
