use Rattle.std.proofs.Common.{◌≡◌, ◌++◌, take, drop}
use Rattle.osbase.specs.Spins.{owed_by}
use Rattle.osgot.proofs.grants.owe_by.Given as goal

abbrev pub invariant-loop-spinlock : goal.invariant-loop-spinlock
invariant-loop-spinlock l = l.got ≡ owed_by l.runner (take l.spinlock-index l.initial.got) ++ drop l.spinlock-index l.initial.got
