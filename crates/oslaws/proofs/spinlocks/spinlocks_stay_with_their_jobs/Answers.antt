use Rattle.std.proofs.Common.{[]}
use Rattle.oslaws.proofs.Holders.{always-held, held-first, holders}
use Rattle.oslaws.proofs.spinlocks.spinlocks_stay_with_their_jobs.Goals as goal

pub returns : goal.returns
returns c = (λ v items h is. record { spins = holders h (always-held v items [] h is held-first) })
