use Rattle.std.proofs.Common.{◌≡◌, ℕ, ◌<◌, length, get_or, false}
use Rattle.osgroup.specs.Least.{has_say_at}
use Rattle.osgroup.proofs.groups.row_of.Given as goal

abbrev pub invariant-loop-number : goal.invariant-loop-number
invariant-loop-number l = record {
  len : length l.members ≡ 16;
  flags : (k : ℕ) → k < l.number → get_or l.members k false ≡ has_say_at l.plan l.at (record { number = k });
}
