-- What a worker calls the board and the spinlocks for. [own]
use Rattle.std.specs.Prelude.{◌≡◌, ◌⊎◌, true}
use Rattle.osbase.specs.{declared.statuses.Status.TheVariants.EOk, declared.references.CoreId.CoreId, declared.items.Item.Item}
use Rattle.osboard.specs.declared.calls.BoardCall.{BoardCall}
use Rattle.osboard.specs.declared.calls.BoardCall.TheVariants.{Start, Enter, MakeReady, Drain, Look, LookDrained, AskHalt, LookHalt}
use Rattle.oskernel.specs.declared.wants.SpinWish.{SpinWish}
use Rattle.oskernel.specs.declared.wants.SpinWish.TheVariants as Wish

-- The calls by which a core's own turn changes the board.
abbrev pub ChangesBoard : BoardCall → Type 0
ChangesBoard (Start k) = Unit {0}
ChangesBoard (Enter mode) = Unit {0}
ChangesBoard MakeReady = Unit {0}
ChangesBoard Drain = Unit {0}
ChangesBoard (AskHalt status) = Unit {0}
ChangesBoard call = ⊥

-- The calls of a look. They load one word of the board, and leave the board as it is.
abbrev pub LoadsBoard : BoardCall → Type 0
LoadsBoard call = (call ≡ Look) ⊎ ((call ≡ LookDrained) ⊎ (call ≡ LookHalt))

-- The item in which a core's call that changes the board results. For a start, this is so if core `k` was not started
-- before; for a request of a shutdown, if no other core requested one before. The other calls always result in this
-- item.
abbrev pub item_of_call : CoreId → BoardCall → Item
item_of_call core (Start k) = Item.Began k EOk
item_of_call core (AskHalt status) = Item.Halt core status
item_of_call core (Enter mode) = Item.Entered
item_of_call core MakeReady = Item.Readied
item_of_call core call = Item.Drained

-- The item that results from a spinlock call that succeeds.
abbrev pub item_of_wish : SpinWish → Item
item_of_wish (Wish.Get l) = Item.Granted l
item_of_wish (Wish.Try l) = Item.Tried l true
item_of_wish (Wish.Free l) = Item.Freed l
