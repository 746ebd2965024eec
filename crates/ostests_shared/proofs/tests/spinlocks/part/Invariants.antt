use Rattle.std.proofs.Common.{◌≡◌, map}
use Rattle.ostests_shared.proofs.tests.spinlocks.part.Given as goal

abbrev pub invariant-loop-run : goal.invariant-loop-run
invariant-loop-run l = (l.seats.items ≡ map (λ run. run.seat) l.yielded) × (l.logs.items ≡ map (λ run. run.log) l.yielded)
