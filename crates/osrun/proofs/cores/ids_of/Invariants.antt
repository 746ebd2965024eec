use Rattle.std.proofs.Common.{◌≡◌}
use Rattle.osrun.proofs.Configured.{ids_below}
use Rattle.osrun.proofs.cores.ids_of.Given as goal

abbrev pub invariant-loop-number : goal.invariant-loop-number
invariant-loop-number l = l.ids.items ≡ ids_below l.plan l.number
