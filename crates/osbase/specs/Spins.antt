-- The spinlocks that a core got, the runner whose job has each, and the releases that are owed.
use Rattle.std.specs.Prelude.{◌==◌, Bool, true, false, if◌then◌else◌, Option, Some, None, is_none, is_some, option_map, find, List, [], ◌∷◌, map}
use Rattle.std.specs.{List.list_any, Option.option_map_or}
use Rattle.osbase.specs.{declared.references.SpinlockId.SpinlockId, declared.references.Runner.Runner, declared.items.Item.Item, declared.marks.Mark.Mark, declared.histories.GotSpinlock.GotSpinlock, declared.histories.OpenCall.OpenCall}
use Rattle.osbase.specs.History.{Entry, Took, Printed, Noted, WentDown, History, open_call, same_runner}

-- Equality of spinlocks.
abbrev pub same_spinlock : SpinlockId → SpinlockId → Bool
same_spinlock a b = a.index == b.index

-- The spinlock is among those that the core got. [AUTOSAR SWS OS 4.x, GetSpinlock]
abbrev pub has_spinlock : SpinlockId → List GotSpinlock → Bool
has_spinlock l got = list_any (λ (g : GotSpinlock). same_spinlock g.lock l) got

-- The spinlocks after the answer to an open call, whose job gets this spinlock. If no call is open or the core has the
-- spinlock already, nothing changes.
abbrev pub with_spinlock : SpinlockId → Option OpenCall → List GotSpinlock → List GotSpinlock
with_spinlock l None got = got
with_spinlock l (Some call) got = if has_spinlock l got then got else record { lock = l; holder = Some call.runner } ∷ got

-- The spinlocks without this one, which was given back.
abbrev pub without_spinlock : SpinlockId → List GotSpinlock → List GotSpinlock
without_spinlock l [] = []
without_spinlock l (g ∷ got) = if same_spinlock g.lock l then got else g ∷ without_spinlock l got

-- The runner's oldest job has the spinlock.
abbrev pub is_got_by : Runner → GotSpinlock → Bool
is_got_by r g = option_map_or (same_runner r) g.holder false

-- The spinlock without a holder: its release is owed.
abbrev pub owed : GotSpinlock → GotSpinlock
owed g = record g { holder = None }

-- The spinlocks, once the release of each one that this runner's job has is owed.
abbrev pub owed_by : Runner → List GotSpinlock → List GotSpinlock
owed_by r got = map (λ (g : GotSpinlock). if is_got_by r g then owed g else g) got

-- The spinlocks, once the release of every one is owed.
abbrev pub all_owed : List GotSpinlock → List GotSpinlock
all_owed got = map owed got

-- The spinlocks that the core got and did not give back, after an entry, the newest first. The answer to an open call
-- gives its job one spinlock, but none twice. If a job ends, the release of each spinlock that it has is owed; if the
-- core goes down or is halted, the release of every spinlock. A runner means its oldest job: no later job runs while a
-- release is owed. [AUTOSAR SWS OS 4.x, GetSpinlock, TryToGetSpinlock and ReleaseSpinlock; that a release is owed: own]
-- The step looks at the call that is open before the entry.
abbrev pub spins_after : Entry → Option OpenCall → List GotSpinlock → List GotSpinlock
spins_after (Took (Item.Granted l)) open_call got = with_spinlock l open_call got
spins_after (Took (Item.Tried l true)) open_call got = with_spinlock l open_call got
spins_after (Took (Item.Freed l)) open_call got = without_spinlock l got
spins_after (Took (Item.Halt core status)) open_call got = all_owed got
spins_after (Printed (Mark.Terminated t)) open_call got = owed_by (Runner.Task t) got
spins_after (Printed (Mark.IsrLeft i)) open_call got = owed_by (Runner.Isr i) got
spins_after (Noted WentDown) open_call got = all_owed got
spins_after e open_call got = got

-- The spinlocks that the core got and did not give back, the newest first.
abbrev pub got_spinlocks : History → List GotSpinlock
got_spinlocks [] = []
got_spinlocks (e ∷ h) = spins_after e (open_call h) (got_spinlocks h)

-- The newest spinlock that a runner's job has. The job may release none of its others before this one. [AUTOSAR SWS OS
-- 4.x, ReleaseSpinlock]
abbrev pub newest_of : Runner → List GotSpinlock → Option SpinlockId
newest_of r got = option_map (λ (g : GotSpinlock). g.lock) (find (is_got_by r) got)

-- The release of the spinlock is owed.
abbrev pub is_owed : GotSpinlock → Bool
is_owed g = is_none g.holder

-- The newest of the spinlocks whose release is owed, if there is one: it is given back next. [own]
abbrev pub newest_owed : List GotSpinlock → Option SpinlockId
newest_owed got = option_map (λ (g : GotSpinlock). g.lock) (find is_owed got)

-- The release of at least one of these spinlocks is owed.
abbrev pub is_owing : List GotSpinlock → Bool
is_owing got = is_some (newest_owed got)
