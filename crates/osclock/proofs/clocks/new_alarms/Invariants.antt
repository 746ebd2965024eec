use Rattle.std.proofs.Common.{◌≡◌, replicate}
use Rattle.osclock.specs.Clocks.{unset}
use Rattle.osclock.proofs.clocks.new_alarms.Given as goal

abbrev pub invariant-loop-alarm : goal.invariant-loop-alarm
invariant-loop-alarm l = l.alarms.items ≡ replicate l._alarm unset
