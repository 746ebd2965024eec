use Rattle.std.proofs.Common.{◌≡◌, length}
use Rattle.osplan.specs.Limits.{are_numbers_distinct}
use Rattle.osvalidate.specs.Check.{numbers_of}
use Rattle.osvalidate.proofs.checks.are_numbers_distinct.Given as goal

abbrev pub invariant-loop-cores : goal.invariant-loop-cores
invariant-loop-cores l = are_numbers_distinct (numbers_of l.cores) ≡ are_numbers_distinct (numbers_of l.initial.cores)

abbrev pub decreases-loop-cores : goal.decreases-loop-cores
decreases-loop-cores l = length l.cores
