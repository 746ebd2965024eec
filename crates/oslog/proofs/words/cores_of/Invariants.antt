use Rattle.std.proofs.Common.{◌≡◌, ◌-◌, ◌≤◌}
use Rattle.osbase.specs.History.{no_cores}
use Rattle.ossyntax.specs.ParsedOp.{rest_words}
use Rattle.oslog.specs.Words.{cores_from}
use Rattle.oslog.proofs.words.cores_of.Given as goal

abbrev pub invariant-loop-left : goal.invariant-loop-left
invariant-loop-left l =
    (l.least ≤ 16) × (cores_from l.least l.cores (rest_words l.left) ≡ cores_from 0 no_cores (rest_words l.fn.text))

abbrev pub decreases-loop-left : goal.decreases-loop-left
decreases-loop-left l = 16 - l.least
