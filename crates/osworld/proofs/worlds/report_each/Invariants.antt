use Rattle.std.proofs.Common.{◌≡◌, ◌+◌, ◌-◌, ◌≤◌, drop, length, map, take, vec_len, vec_capacity}
use Rattle.osrun.specs.CoreRuns.{report_of}
use Rattle.osworld.proofs.worlds.report_each.Given as goal

abbrev pub invariant-loop-core_run : goal.invariant-loop-core_run
invariant-loop-core_run l =
    (l.reports.items ≡ map report_of (take l.core_run-index l.initial.core_runs))
    × (drop l.core_run-index l.core_runs ≡ drop l.core_run-index l.initial.core_runs)
    × (vec_len l.reports + (length l.initial.core_runs - l.core_run-index) ≤ vec_capacity l.reports)
