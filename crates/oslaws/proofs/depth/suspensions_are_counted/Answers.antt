use Rattle.oslaws.proofs.Suspensions.{at-most, counted}
use Rattle.oslaws.proofs.depth.suspensions_are_counted.Goals as goal

pub returns : goal.returns
returns c = (λ r h. record { count = (λ was script. counted script r h was); most = (λ script. at-most script r h) })
