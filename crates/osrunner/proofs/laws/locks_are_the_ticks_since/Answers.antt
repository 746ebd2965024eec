use Rattle.osrunner.proofs.LockTicks.{lock-used-since}
use Rattle.osrunner.proofs.laws.locks_are_the_ticks_since.Goals as goal

pub returns : goal.returns
returns c = (λ r h. record { used = (λ script index below. lock-used-since script r index h below) })
