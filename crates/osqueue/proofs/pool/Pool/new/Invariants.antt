use Rattle.std.proofs.Common.{◌≡◌, ℕ, ◌<◌, length}
use Rattle.std.specs.List.{slice_index}
use Rattle.osqueue.proofs.pool.Pool.new.Given as goal

abbrev pub invariant-loop-place : goal.invariant-loop-place
invariant-loop-place g l = record { size : length l.blanks ≡ g.row.J; each : (k : ℕ) → k < l.place → slice_index l.blanks k ≡ k }
