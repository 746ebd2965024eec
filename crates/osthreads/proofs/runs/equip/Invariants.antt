use Rattle.std.proofs.Common.{◌≡◌, ◌++◌, List}
use Rattle.osworker.specs.declared.seats.Seats.{Seats}
use Rattle.osthreads.specs.Threads.{equipped}
use Rattle.osthreads.proofs.runs.equip.Given as goal

abbrev pub invariant-loop-seats : goal.invariant-loop-seats
invariant-loop-seats l = (more : List Seats) → equipped (l.yielded ++ more) l.fn.ends.items ≡ l.outfits.items ++ equipped more l.left.items
