-- What crosses a core's border, entry by entry.
use Rattle.std.specs.Prelude.{ℕ, ◌+◌, nat_lt, Bool, true, false, Option, None, List, [], replicate, slice_index, slice_set}
use Rattle.osbase.specs.{declared.limits.TheConstants.CORES, declared.limits.TheConstants.SPINLOCKS, declared.references.CoreId.CoreId, declared.references.SpinlockId.SpinlockId, declared.histories.GotSpinlock.GotSpinlock, declared.histories.OpenCall.OpenCall, declared.histories.Sent.Sent, declared.items.Item.Item, Spins.spins_after}
use Rattle.osbase.specs.declared.items.Item.TheVariants as Item
use Rattle.osbase.specs.History.{Entry, Noted, Queued, Took, open_after, outbox_after}

-- What crosses the core's border: the open call, the letters that wait to be posted, and the spinlocks that the core
-- got, the newest first. By core number, how many letters were queued for each core and received from it.
pub record BorderState : Type 0 where
  pub open_call : Option OpenCall
  pub outbox : List Sent
  pub queued : List ℕ
  pub received : List ℕ
  pub spins : List GotSpinlock

-- The item is a post, which takes the front of the outbox.
abbrev pub is_posted : Item → Bool
is_posted (Item.Posted core) = true
is_posted item = false

-- If the item is a letter that was received, the number of its sender is below CORES.
abbrev pub is_sender_known : Item → Bool
is_sender_known (Item.Received from number m) = nat_lt from.number CORES
is_sender_known item = true

-- The index of the spinlock is below SPINLOCKS.
abbrev pub is_lock_known : SpinlockId → Bool
is_lock_known l = nat_lt l.index SPINLOCKS

-- If the item is the answer to a request for a spinlock, the spinlock's index is below SPINLOCKS.
abbrev pub is_grant_known : Item → Bool
is_grant_known (Item.Granted l) = is_lock_known l
is_grant_known (Item.Tried l taken) = is_lock_known l
is_grant_known item = true

-- The counts with one letter more for this core.
abbrev pub one_more : CoreId → List ℕ → List ℕ
one_more core counts = slice_set counts core.number (slice_index counts core.number + 1)

-- How many letters were queued for each core, after an entry.
abbrev pub queued_after : Entry → List ℕ → List ℕ
queued_after (Noted (Queued core x)) counts = one_more core counts
queued_after e counts = counts

-- How many letters were received from each core, after an entry.
abbrev pub received_after : Entry → List ℕ → List ℕ
received_after (Took (Item.Received from number m)) counts = one_more from counts
received_after e counts = counts

-- What crosses the core's border, after an entry. What an entry does to the spinlocks depends on the call that was open
-- before the entry.
abbrev pub border_after : Entry → BorderState → BorderState
border_after e s = record {
  open_call = open_after e s.open_call;
  outbox = outbox_after e s.outbox;
  queued = queued_after e s.queued;
  received = received_after e s.received;
  spins = spins_after e s.open_call s.spins;
}

-- What crosses the core's border, before the first entry: no call is open, no letter was queued or received, and no
-- spinlock was got.
abbrev pub first_border : BorderState
first_border = record { open_call = None; outbox = []; queued = replicate CORES 0; received = replicate CORES 0; spins = [] }
