use Rattle.std.proofs.Common.{◌≡◌, map, take, drop}
use Rattle.osshared.specs.{Seats.fresh, Views.dealer}
use Rattle.osshared.proofs.words.SharedWords.new.Given as goal

abbrev pub invariant-loop-core : goal.invariant-loop-core
invariant-loop-core g l = (l.dealer.table_id ≡ l.table.shared.table_id) × (l.dealer.me.0 ≡ dealer l.plan (drop l.core-index l.plan.cores))
    × (l.seats.items ≡ map (λ c. fresh (record { table = l.table.shared.table_id; plan = l.plan }) c) (take l.core-index l.plan.cores))
