use Rattle.std.proofs.Common.{◌≡◌, None, replicate}
use Rattle.osmail.proofs.rings.no_rings.Given as goal

abbrev pub invariant-loop-place : goal.invariant-loop-place
invariant-loop-place g l = l.rings.items ≡ replicate l._place None
