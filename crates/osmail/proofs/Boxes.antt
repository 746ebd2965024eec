-- Where a mailbox has its place, and that it is empty at first.
use Rattle.std.proofs.Common.{◌≡◌, ◌<◌, ◌*◌, ℕ, [], arith}
use Rattle.std.proofs.lemmas.List.{get_or-replicate}
use Rattle.osbase.specs.{declared.references.CoreId.CoreId, declared.limits.TheConstants.CORES}
use Rattle.osmail.specs.Mail.{box_of, empty_mail, place_of}

-- each ordered pair has a place
pub place_below : (from to : CoreId) → from.number < CORES → to.number < CORES → place_of from to < CORES * CORES
place_below from to sender receiver = omega arith

-- nothing is in a mailbox of the empty mail
pub box_of-empty : (cap : ℕ) (from to : CoreId) → from.number < CORES → to.number < CORES → box_of (empty_mail cap) from to ≡ []
box_of-empty cap from to sender receiver = get_or-replicate (CORES * CORES) (place_of from to) [] [] (place_below from to sender receiver)
