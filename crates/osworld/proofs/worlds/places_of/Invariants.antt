use Rattle.std.proofs.Common.{◌≡◌, length}
use Rattle.osbase.specs.declared.limits.TheConstants.{CORES}
use Rattle.osworld.proofs.Places.{ArePlaces}
use Rattle.osworld.proofs.worlds.places_of.Given as goal

abbrev pub invariant-loop-number : goal.invariant-loop-number
invariant-loop-number l = (length l.places ≡ CORES) × ArePlaces l.number l.places l.core_runs
