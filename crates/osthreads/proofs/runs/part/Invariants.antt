use Rattle.std.proofs.Common.{◌≡◌, ◌≤◌, length, map, vec_len, vec_capacity}
use Rattle.osthreads.specs.{declared.ending.Ending.Ending, Threads.ends_kept}
use Rattle.osthreads.proofs.runs.part.Given as goal

abbrev pub invariant-loop-ending : goal.invariant-loop-ending
invariant-loop-ending l =
    (l.board.items ≡ map (λ (e : Ending). e.seats.board) l.yielded) × (l.spins.items ≡ map (λ (e : Ending). e.seats.spins) l.yielded) × (l.reports.items ≡ map (λ (e : Ending). e.report) l.yielded)
    × (vec_len l.fn.endings ≤ vec_capacity l.board) × (vec_len l.fn.endings ≤ vec_capacity l.spins) × (vec_len l.fn.endings ≤ vec_capacity l.reports)
    × (l.ends.items ≡ ends_kept l.yielded) × (vec_len l.ends ≤ length l.yielded) × (vec_len l.fn.endings ≤ vec_capacity l.ends)
