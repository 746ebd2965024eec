-- Worked histories, the newest entry first.
use Rattle.std.specs.Prelude.{ℕ, true, false, List, [], ◌∷◌}
use Rattle.osbase.specs.{declared.statuses.Status.TheVariants.EOk, declared.statuses.Status.TheVariants.EOsId, declared.references.CoreId.CoreId, declared.references.IsrRef.IsrRef, declared.references.SpinlockId.SpinlockId, declared.references.TaskRef.TaskRef, declared.references.Runner.Runner, declared.items.Item.Item, declared.marks.Mark.Mark, declared.histories.Awaited.Awaited, declared.histories.HeldResource.HeldResource}
use Rattle.osbase.specs.declared.items.Stimulus.TheVariants as Stimulus
use Rattle.osbase.specs.History.{Entry, History, Took, Noted, Printed, Opened, ResourceOccupied, ResourceReleased, InterruptsSuspended, InterruptsResumed, WentDown, no_cores}
use Rattle.osplan.specs.View.{View, no_core}

-- The core of this number.
abbrev pub core : ℕ → CoreId
core n = record { number = n }

-- The task of core 0 of this index.
abbrev pub task : ℕ → TaskRef
task n = record { core = core 0; index = n }

-- Task A of core 0.
abbrev pub a : Runner
a = Runner.Task (task 0)

-- Task B of core 0.
abbrev pub b : Runner
b = Runner.Task (task 1)

-- The resource of core 0 of this index, with ceiling 9.
abbrev pub resource : ℕ → HeldResource
resource n = record { index = n; ceiling = 9 }

-- The spinlock of this index.
abbrev pub lock : ℕ → SpinlockId
lock n = record { index = n }

-- ---- resources

-- A takes resource 2 and ends. The next job of A takes 0, 1 and 3 and releases 3. Then B takes 0, and A releases 0 and
-- takes it again.
abbrev pub taking : History
taking =
    Noted (ResourceOccupied a (resource 0)) ∷ Noted (ResourceReleased a 0) ∷ Noted (ResourceOccupied b (resource 0))
    ∷ Noted (ResourceReleased a 3) ∷ Noted (ResourceOccupied a (resource 3)) ∷ Noted (ResourceOccupied a (resource 1))
    ∷ Noted (ResourceOccupied a (resource 0)) ∷ Printed (Mark.Terminated (task 0)) ∷ Noted (ResourceOccupied a (resource 2)) ∷ []

-- ---- events

-- B waits for the events of mask 4, is released, and waits for those of mask 2. A waits for those of mask 1, and is
-- released.
abbrev pub awaiting : History
awaiting =
    Printed (Mark.Released (task 0)) ∷ Printed (Mark.EventAwaited (task 1) 2) ∷ Printed (Mark.EventAwaited (task 0) 1)
    ∷ Printed (Mark.Released (task 1)) ∷ Printed (Mark.EventAwaited (task 1) 4) ∷ []

-- ---- interrupts

-- The ISR of core 0 of this index.
abbrev pub isr : ℕ → IsrRef
isr n = record { core = core 0; index = n }

-- ISR 0 is entered, then 1, then 2. ISR 2 leaves, and is entered again; then 1 leaves.
abbrev pub entering : History
entering =
    Printed (Mark.IsrLeft (isr 1)) ∷ Printed (Mark.IsrEntered (isr 2)) ∷ Printed (Mark.IsrLeft (isr 2)) ∷ Printed (Mark.IsrEntered (isr 2))
    ∷ Printed (Mark.IsrEntered (isr 1)) ∷ Printed (Mark.IsrEntered (isr 0)) ∷ []

-- ---- suspended interrupts

-- A suspends interrupts and ends. Its next job suspends them twice, and resumes them once.
abbrev pub suspending : History
suspending =
    Noted (InterruptsResumed a) ∷ Noted (InterruptsSuspended a) ∷ Noted (InterruptsSuspended a)
    ∷ Printed (Mark.Terminated (task 0)) ∷ Noted (InterruptsSuspended a) ∷ []

-- ---- spinlocks

-- The core gets 0, 1 and 2, has no success with 3, gives 1 back, and goes down.
abbrev pub granting : History
granting =
    Noted WentDown ∷ Took (Item.Freed (lock 1)) ∷ Took (Item.Tried (lock 3) false) ∷ Took (Item.Granted (lock 2))
    ∷ Took (Item.Tried (lock 1) true) ∷ Took (Item.Granted (lock 0)) ∷ []

-- A job of the runner calls GetSpinlock for the spinlock.
abbrev pub getting : Runner → SpinlockId → Entry
getting r l = Noted (Opened (record { runner = r; awaits = Awaited.Get l }))

-- A gets spinlock 0, B gets spinlock 1, and A ends.
abbrev pub sharing : History
sharing =
    Printed (Mark.Terminated (task 0)) ∷ Took (Item.Granted (lock 1)) ∷ getting b (lock 1) ∷ Took (Item.Granted (lock 0)) ∷ getting a (lock 0)
    ∷ []

-- ---- items

-- What the master sees in a configuration with cores 0 and 1. The master starts core 1.
abbrev pub view : View
view = record {
  core = core 0;
  own = record (no_core (core 0)) { start = core 1 ∷ [] };
  modes = [];
  around = record { is_master = true; cores = core 0 ∷ core 1 ∷ []; links = [] };
}

-- Items for this core when it has taken none. Only the second may be taken: core 1, which is configured, starts next.
abbrev pub first_items : List Item
first_items = Item.On ∷ Item.Began (core 1) EOk ∷ Item.Began (core 1) EOsId ∷ Item.Began (core 0) EOk ∷ Item.Entered ∷ []

-- Later the core is live, and its task A waits for spinlock 0: it takes no stimulus, and does not drain; it may be
-- halted.
abbrev pub waiting : History
waiting = getting a (lock 0) ∷ Took (Item.Pass2 no_cores) ∷ []

-- Items for the core while it waits so. Only the grant of spinlock 0 and the halt may be taken.
abbrev pub later_items : List Item
later_items =
    Item.Stim Stimulus.Tick ∷ Item.Granted (lock 0) ∷ Item.Granted (lock 1) ∷ Item.Tried (lock 0) true ∷ Item.Freed (lock 0)
    ∷ Item.Halt (core 1) EOk ∷ Item.Drained ∷ Item.Posted (core 1) ∷ []
