use Rattle.std.proofs.Common.{◌≡◌, take, length}
use Rattle.osrun.specs.Sound.{lists_in}
use Rattle.osworld.proofs.orders.are_same.Given as goal

abbrev pub invariant-loop-i : goal.invariant-loop-i
invariant-loop-i l = (length l.left ≡ length l.right) × (lists_in (take l.i l.left) ≡ lists_in (take l.i l.right))
