use Rattle.std.proofs.Common.{◌≡◌}
use Rattle.osshared.specs.Histories.{Thinned}
use Rattle.osspin.specs.Spins.{IsRefusedCall}
use Rattle.ostests_shared.proofs.tests.spinlocks.work.Given as goal

abbrev pub invariant-loop : goal.invariant-loop
invariant-loop g l = (l.run.seat.place ≡ l.initial.run.seat.place) × (l.run.seat.core ≡ l.initial.run.seat.core) × Thinned IsRefusedCall l.run.seat.mine l.run.log.items
