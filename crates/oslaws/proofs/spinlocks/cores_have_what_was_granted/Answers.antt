use Rattle.std.proofs.Common.{[]}
use Rattle.oslaws.proofs.Granted.{Right, always, locks-unfreed, noted, printed, right-first, took}
use Rattle.oslaws.proofs.spinlocks.cores_have_what_was_granted.Goals as goal

pub returns : goal.returns
returns c = (λ v items h is. let right = always Right printed noted v (took v) items [] h is right-first in record { locks = locks-unfreed h right; each = right.each })
