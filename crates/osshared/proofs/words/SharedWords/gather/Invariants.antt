use Rattle.std.proofs.Common.{◌≡◌, List, ◌++◌, vec_len}
use Rattle.osshared.specs.Seats.{Held, AllAt}
use Rattle.osshared.proofs.Gathers.{Gathered}
use Rattle.osshared.proofs.words.SharedWords.gather.Given as goal

abbrev pub invariant-loop-next : goal.invariant-loop-next
invariant-loop-next g l = (done : List (Held _ _ _)) × (l.fn.seats.items ≡ l.seats.items ++ done) × Gathered l.seat.me.0 done × AllAt l.fn.self l.seats.items
    × (l.seat.table_id ≡ l.fn.self.table) × (l.seat.me.0.plan ≡ l.fn.self.plan)

abbrev pub decreases-loop-next : goal.decreases-loop-next
decreases-loop-next g l = vec_len l.seats
