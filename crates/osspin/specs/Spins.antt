-- One spinlock, and all of them.
use Rattle.std.specs.Prelude.{◌≡◌, ◌==◌, Bool, true, false, if◌then◌else◌, Option, Some, None, List, [], ◌∷◌, replicate, slice_index_or, slice_set}
use Rattle.osbase.specs.{declared.references.CoreId.CoreId, declared.references.SpinlockId.SpinlockId, History.same_core, declared.limits.TheConstants.SPINLOCKS}
use Rattle.osshared.specs.{declared.histories.Entry.Entry, Histories.Object, Histories.entry}
use Rattle.osspin.specs.{declared.calls.SpinAction.SpinAction, declared.calls.SpinAction.TheVariants.Take, declared.calls.SpinAction.TheVariants.Free, declared.calls.SpinAction.TheVariants.Look, declared.calls.SpinCall.SpinCall, declared.calls.SpinReply.SpinReply, declared.calls.SpinReply.TheVariants.Answered, declared.calls.SpinReply.TheVariants.Seen}

-- No core holds the lock. Only then a core may take it: its holder may not take it either.
-- [AUTOSAR SWS OS 4.x, TryToGetSpinlock]
abbrev pub is_free : Option CoreId → Bool
is_free None = true
is_free (Some holder) = false

-- The core is the holder of the lock.
abbrev pub is_held_by : CoreId → Option CoreId → Bool
is_held_by core None = false
is_held_by core (Some holder) = same_core holder core

-- One lock: who holds it after a call. A core that takes a free lock holds it. If its holder frees it, no core
-- holds it. Every other call leaves the holder. [AUTOSAR SWS OS 4.x, TryToGetSpinlock and
-- ReleaseSpinlock; the code has a word]
abbrev pub lock_after : CoreId → SpinAction → Option CoreId → Option CoreId
lock_after core Take holder = if is_free holder then Some core else holder
lock_after core Free holder = if is_held_by core holder then None else holder
lock_after core Look holder = holder

-- One lock: what a call is answered.
abbrev pub lock_reply : CoreId → SpinAction → Option CoreId → SpinReply
lock_reply core Take holder = Answered (is_free holder)
lock_reply core Free holder = Answered (is_held_by core holder)
lock_reply core Look holder = Seen holder

-- One lock alone, free at first. [own]
abbrev pub one_lock : Object Unit (Option CoreId) SpinAction SpinReply
one_lock = record { first = λ about. None; after = lock_after; reply = lock_reply }

-- Who holds a lock, by the holders of all; none if there is no such lock.
abbrev pub holder_of : List (Option CoreId) → SpinlockId → Option CoreId
holder_of holders lock = slice_index_or holders lock.index None

-- No core holds any spinlock.
abbrev pub no_holders : List (Option CoreId)
no_holders = replicate SPINLOCKS None

-- Who holds each spinlock after a call of the core, by who held each before.
abbrev pub holders_after : CoreId → SpinCall → List (Option CoreId) → List (Option CoreId)
holders_after core call holders = slice_set holders call.lock.index (lock_after core call.action (holder_of holders call.lock))

-- What a call of the core is answered, by who holds each spinlock before the call.
abbrev pub spin_reply : CoreId → SpinCall → List (Option CoreId) → SpinReply
spin_reply core call holders = lock_reply core call.action (holder_of holders call.lock)

-- All spinlocks, each one lock that is free at first. [own; the code has a word for each]
abbrev pub spinlocks : Object Unit (List (Option CoreId)) SpinCall SpinReply
spinlocks = record { first = λ about. no_holders; after = holders_after; reply = spin_reply }

-- A call of the spinlocks, with its answer.
abbrev pub SpinEntry : Type 0
SpinEntry = Entry SpinCall SpinReply

abbrev pub spin_call : SpinlockId → SpinAction → SpinCall
spin_call lock action = record { lock = lock; action = action }

-- The calls of one spinlock, in order.
abbrev pub calls_on : SpinlockId → List SpinEntry → List (Entry SpinAction SpinReply)
calls_on lock [] = []
calls_on lock (e ∷ es) = if e.call.lock.index == lock.index then entry e.core e.call.action e.reply ∷ calls_on lock es else calls_on lock es

-- A core's try to take a spinlock, with its answer: whether the core took it.
abbrev pub try_take_call : CoreId → SpinlockId → Bool → SpinEntry
try_take_call core lock taken = entry core (spin_call lock Take) (Answered taken)

-- A core's release of a spinlock, with its answer: whether the core freed it.
abbrev pub free_call : CoreId → SpinlockId → Bool → SpinEntry
free_call core lock freed = entry core (spin_call lock Free) (Answered freed)

-- A core's look at a spinlock, with its answer: who holds it.
abbrev pub look_call : CoreId → SpinlockId → Option CoreId → SpinEntry
look_call core lock holder = entry core (spin_call lock Look) (Seen holder)

-- A call that was refused: a try for a spinlock that is taken, or a release of one that the core does not hold. It
-- changes nothing.
abbrev pub IsRefusedCall : SpinEntry → Type 0
IsRefusedCall e = e.reply ≡ Answered false
