use Rattle.std.proofs.Common.{◌≡◌, ◌++◌, take, drop}
use Rattle.osbase.specs.Spins.{all_owed}
use Rattle.osgot.proofs.grants.owe_each.Given as goal

abbrev pub invariant-loop-spinlock : goal.invariant-loop-spinlock
invariant-loop-spinlock l = l.got ≡ all_owed (take l.spinlock-index l.initial.got) ++ drop l.spinlock-index l.initial.got
