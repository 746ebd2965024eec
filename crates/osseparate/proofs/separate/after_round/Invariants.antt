use Rattle.std.proofs.Common.{◌≡◌, ℕ, ◌<◌, length, get_or, false}
use Rattle.osseparate.specs.Flags.{is_next}
use Rattle.osseparate.proofs.separate.after_round.Given as goal

abbrev pub invariant-loop-number : goal.invariant-loop-number
invariant-loop-number l = record {
  len : length l.members ≡ 16;
  flags : (k : ℕ) → k < l.number → get_or l.members k false ≡ is_next l.cores l.started (record { number = k });
}
