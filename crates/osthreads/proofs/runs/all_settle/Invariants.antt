use Rattle.std.proofs.Common.{take}
use Rattle.std.specs.List.{AllByRecursion}
use Rattle.osthreads.specs.Threads.{IsSettled}
use Rattle.osthreads.proofs.runs.all_settle.Given as goal

abbrev pub invariant-loop-sender : goal.invariant-loop-sender
invariant-loop-sender l = AllByRecursion (λ a. AllByRecursion (IsSettled a) l.endings) (take l.sender-index l.endings)
