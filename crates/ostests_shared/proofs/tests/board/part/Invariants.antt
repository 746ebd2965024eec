use Rattle.std.proofs.Common.{◌≡◌, map}
use Rattle.ostests_shared.proofs.tests.board.part.Given as goal

abbrev pub invariant-loop-run : goal.invariant-loop-run
invariant-loop-run l = (l.seats.items ≡ map (λ run. run.seat) l.yielded) × (l.works.items ≡ map (λ run. run.work) l.yielded)
