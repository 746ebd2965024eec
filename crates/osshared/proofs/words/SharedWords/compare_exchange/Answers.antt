use Rattle.osshared.proofs.Gathers.{answers, may_step, still_seated}
use Rattle.osshared.proofs.words.SharedWords.compare_exchange.Goals as goal

pub compare_exchange-requires : goal.compare_exchange-requires
compare_exchange-requires g c = may_step c.requires c.seat.view_is c.seat.invariant _ c.self.view_is _ _

pub invariant_of-seat : goal.invariant_of-seat
invariant_of-seat g c = still_seated c.requires c.seat.view_is c.seat.invariant c.compare_exchange.ensures.2

pub returns : goal.returns
returns g c = answers c.requires c.seat.view_is c.seat.invariant c.compare_exchange.ensures.2 _ c.compare_exchange.ensures.0
