-- A core's seats at what all cores share. [own]
use Rattle.std.specs.Prelude.{◌≡◌, List, [], ◌∷◌}
use Rattle.osbase.specs.declared.references.CoreId.{CoreId}
use Rattle.osshared.specs.Seats.{Held, Place, fresh}
use Rattle.osboard.specs.{declared.calls.BoardCall.BoardCall, declared.calls.BoardReply.BoardReply}
use Rattle.osspin.specs.{declared.calls.SpinCall.SpinCall, declared.calls.SpinReply.SpinReply}
use Rattle.osrun.specs.Requests.{Calls}
use Rattle.osworker.specs.declared.seats.Seats.{Seats}

-- What the cores share: this board, and these spinlocks.
pub record Shared : Type 0 where
  pub board : Place CoreId
  pub spins : Place Unit

abbrev pub shared : Place CoreId → Place Unit → Shared
shared board spins = record { board = board; spins = spins }

-- These are the seats of this core, at the shared board and at the shared spinlocks.
pub record AreAt (shared : Shared) (id : CoreId) (seats : Seats) : Type 0 where
  pub board : seats.board.place ≡ shared.board
  pub spins : seats.spins.place ≡ shared.spins
  pub board_core : seats.board.core ≡ id
  pub spins_core : seats.spins.core ≡ id

-- The calls that were made from a core's seats.
abbrev pub made_from : Seats → Calls
made_from seats = record { board = seats.board.mine; spins = seats.spins.mine }

-- Each core's seats, paired from the cores' seats at the board and their seats at the spinlocks, in order.
abbrev pub paired : List (Held CoreId BoardCall BoardReply) → List (Held Unit SpinCall SpinReply) → List Seats
paired [] spins = []
paired (b ∷ board) [] = []
paired (b ∷ board) (s ∷ spins) = record { board = b; spins = s } ∷ paired board spins

-- The seats of a core that has made no call.
abbrev pub first_seats : Shared → CoreId → Seats
first_seats shared id = record { board = fresh shared.board id; spins = fresh shared.spins id }
