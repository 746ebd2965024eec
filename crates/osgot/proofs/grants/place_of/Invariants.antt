use Rattle.std.proofs.Common.{◌≡◌, ◌++◌, take, drop}
use Rattle.osbase.specs.Spins.{without_spinlock}
use Rattle.osgot.proofs.grants.place_of.Given as goal

-- no spinlock before this place is the given one
abbrev pub invariant-loop-place : goal.invariant-loop-place
invariant-loop-place l = without_spinlock l.lock l.got ≡ take l.place l.got ++ without_spinlock l.lock (drop l.place l.got)
