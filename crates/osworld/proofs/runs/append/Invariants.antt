use Rattle.std.proofs.Common.{◌≡◌, ◌++◌, take}
use Rattle.osworld.proofs.runs.append.Given as goal

abbrev pub invariant-loop-turn : goal.invariant-loop-turn
invariant-loop-turn l = l.schedule ≡ l.fn.schedule ++ take l.turn-index l.round
