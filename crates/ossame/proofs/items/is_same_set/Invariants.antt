use Rattle.std.proofs.Common.{◌≡◌, take}
use Rattle.ossame.proofs.items.is_same_set.Given as goal

abbrev pub invariant-loop-i : goal.invariant-loop-i
invariant-loop-i l = take l.i l.left.members ≡ take l.i l.right.members
