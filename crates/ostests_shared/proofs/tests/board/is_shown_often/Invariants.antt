use Rattle.std.proofs.Common.{◌≡◌}
use Rattle.osshared.specs.Histories.{Thinned}
use Rattle.osboard.specs.Boards.{IsLook}
use Rattle.ostests_shared.proofs.tests.board.is_shown_often.Given as goal

abbrev pub invariant-loop : goal.invariant-loop
invariant-loop l = (l.seat.place ≡ l.initial.seat.place) × (l.seat.core ≡ l.initial.seat.core) × ((log : _) → Thinned IsLook l.initial.seat.mine log → Thinned IsLook l.seat.mine log)
