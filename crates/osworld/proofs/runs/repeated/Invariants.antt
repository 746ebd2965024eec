use Rattle.std.proofs.Common.{◌≡◌}
use Rattle.osworld.specs.Runs.{rounds}
use Rattle.osworld.proofs.runs.repeated.Given as goal

abbrev pub invariant-loop : goal.invariant-loop
invariant-loop l = l.schedule ≡ rounds l.counter l.round
