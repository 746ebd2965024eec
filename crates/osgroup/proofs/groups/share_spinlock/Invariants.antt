use Rattle.std.proofs.Common.{◌≡◌, ℕ, ◌<◌, false}
use Rattle.osgroup.proofs.Members.{both_name, lock_of}
use Rattle.osgroup.proofs.groups.share_spinlock.Given as goal

abbrev pub invariant-loop-number : goal.invariant-loop-number
invariant-loop-number l = (k : ℕ) → k < l.number → both_name l.a l.b (lock_of k) ≡ false
