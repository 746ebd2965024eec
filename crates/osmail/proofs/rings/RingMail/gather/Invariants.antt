use Rattle.std.proofs.Common.{map, vec_len}
use Rattle.osmail.specs.Rings.{AreDelivered, AreLinked, end_id, past_of}
use Rattle.osmail.proofs.rings.RingMail.gather.Given as goal

abbrev pub invariant-loop-last : goal.invariant-loop-last
invariant-loop-last g l = AreLinked (map end_id l.ends.items) × (AreDelivered (map past_of l.ends.items) → AreDelivered (map past_of l.fn.ends.items))

abbrev pub decreases-loop-last : goal.decreases-loop-last
decreases-loop-last g l = vec_len l.ends
