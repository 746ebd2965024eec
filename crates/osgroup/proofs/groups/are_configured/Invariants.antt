use Rattle.std.proofs.Common.{◌≡◌, ℕ, ◌<◌, true}
use Rattle.osgroup.proofs.Members.{is_known, id_of}
use Rattle.osgroup.proofs.groups.are_configured.Given as goal

abbrev pub invariant-loop-number : goal.invariant-loop-number
invariant-loop-number l = (k : ℕ) → k < l.number → is_known l.plan l.cores (id_of k) ≡ true
