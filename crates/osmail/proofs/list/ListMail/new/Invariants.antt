use Rattle.std.proofs.Common.{◌≡◌, [], replicate}
use Rattle.osmail.proofs.list.ListMail.new.Given as goal

abbrev pub invariant-loop-place : goal.invariant-loop-place
invariant-loop-place g l = l.boxes.items ≡ replicate l._place []
