use Rattle.std.proofs.Common.{◌≡◌, ◌++◌, List}
use Rattle.osbase.specs.declared.references.CoreId.{CoreId}
use Rattle.osshared.specs.Seats.{Held}
use Rattle.osboard.specs.{declared.calls.BoardCall.BoardCall, declared.calls.BoardReply.BoardReply}
use Rattle.osworker.specs.Seats.{paired}
use Rattle.osthreads.proofs.runs.pair.Given as goal

abbrev pub invariant-loop-board : goal.invariant-loop-board
invariant-loop-board l = (more : List (Held CoreId BoardCall BoardReply)) → paired (l.yielded ++ more) l.fn.spins.items ≡ l.seats.items ++ paired more l.left.items
