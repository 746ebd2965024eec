use Rattle.std.proofs.Common.{◌≡◌, ℕ, ◌<◌, length, get_or, false}
use Rattle.osgroup.specs.Least.{is_next}
use Rattle.osgroup.proofs.groups.after_round.Given as goal

abbrev pub invariant-loop-number : goal.invariant-loop-number
invariant-loop-number l = record {
  len : length l.members ≡ 16;
  flags : (k : ℕ) → k < l.number → get_or l.members k false ≡ is_next l.all l.rows l.cores (record { number = k });
}
