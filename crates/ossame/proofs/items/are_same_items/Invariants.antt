use Rattle.std.proofs.Common.{◌≡◌, take, length}
use Rattle.ossame.proofs.items.are_same_items.Given as goal

abbrev pub invariant-loop-i : goal.invariant-loop-i
invariant-loop-i l = (length l.left ≡ length l.right) × (take l.i l.left ≡ take l.i l.right)
