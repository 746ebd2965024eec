use Rattle.std.proofs.Common.{◌≡◌, take}
use Rattle.osgroup.proofs.parts.copied_spinlocks.Given as goal

abbrev pub invariant-loop-spinlock : goal.invariant-loop-spinlock
invariant-loop-spinlock l = l.copies ≡ take l.spinlock-index l.plan.spinlocks
