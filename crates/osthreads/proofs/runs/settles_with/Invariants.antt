use Rattle.std.proofs.Common.{take}
use Rattle.std.specs.List.{AllByRecursion}
use Rattle.osthreads.specs.Threads.{IsSettled}
use Rattle.osthreads.proofs.runs.settles_with.Given as goal

abbrev pub invariant-loop-receiver : goal.invariant-loop-receiver
invariant-loop-receiver l = AllByRecursion (IsSettled l.sender) (take l.receiver-index l.receivers)
