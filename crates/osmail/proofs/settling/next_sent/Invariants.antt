use Rattle.std.proofs.Common.{◌≡◌, length}
use Rattle.osmail.specs.Ends.{sent_to}
use Rattle.osmail.proofs.settling.next_sent.Given as goal

abbrev pub invariant-loop-steps : goal.invariant-loop-steps
invariant-loop-steps l = sent_to l.steps l.fn.to ≡ sent_to l.initial.steps l.fn.to

abbrev pub decreases-loop-steps : goal.decreases-loop-steps
decreases-loop-steps l = length l.steps
