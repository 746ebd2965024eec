use Rattle.std.proofs.Common.{◌≡◌}
use Rattle.std.specs.List.{All}
use Rattle.osworld.specs.Playing.{lists_of}
use Rattle.osrun.specs.CoreRuns.{IsCoreRun}
use Rattle.osworld.proofs.Started.{lists_below}
use Rattle.osworld.proofs.worlds.World.new.Given as goal

abbrev pub invariant-loop-number : goal.invariant-loop-number
invariant-loop-number l = All (IsCoreRun l.config l.stimuli) l.core_runs.items × (lists_of l.core_runs.items ≡ lists_below l.config l.number)
