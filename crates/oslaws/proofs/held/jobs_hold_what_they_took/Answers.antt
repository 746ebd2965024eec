use Rattle.oslaws.proofs.Releases.{held-unreleased}
use Rattle.oslaws.proofs.held.jobs_hold_what_they_took.Goals as goal

pub returns : goal.returns
returns c = (λ r h. record { held = (λ script. held-unreleased script r h) })
