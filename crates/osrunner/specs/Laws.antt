-- What holds of the events and the budgets of every history.
use Rattle.std.specs.Prelude.{◌≡◌, ℕ, suc, ◌+◌, ◌==◌, ◌<◌, ◌^◌, nat_lt, Bool, true, false, ◌&&◌, IsTrue, if◌then◌else◌, Option, Some, None, unwrap_or, List, [], ◌∷◌, slice_index_or}
use Rattle.std.specs.{Int.bit_at, List.list_all, Option.option_map_or}
use Rattle.osbase.specs.{declared.references.TaskRef.TaskRef, declared.marks.Mark.Mark, declared.references.Runner.Runner, declared.limits.TheConstants.RESOURCES, Interrupts.running_job, Interrupts.runner_of_job}
use Rattle.osbase.specs.History.{History, Entry, Noted, Printed, ResourceOccupied, same_runner, same_task}
use Rattle.oscript.specs.{declared.Op.Op, Runners.row_of}

-- The event of this number is in the mask. [OSEK/VDX OS 2.2.3, section 13.5.1, EventMaskType]
abbrev pub is_in_mask : ℕ → ℕ → Bool
is_in_mask mask event = bit_at mask event == 1

-- What an entry says about an event of the task: that the event is set, that it is cleared, or nothing.
-- [OSEK/VDX OS 2.2.3, section 13.5.3.1 and 13.5.3.2; that an activation clears all: section 13.2.3.1]
abbrev pub said_by : TaskRef → ℕ → Entry → Option Bool
said_by t event (Printed (Mark.Activated u)) = if same_task u t then Some false else None
said_by t event (Printed (Mark.EventSet u mask)) = if same_task u t && is_in_mask mask event then Some true else None
said_by t event (Printed (Mark.EventCleared u mask)) = if same_task u t && is_in_mask mask event then Some false else None
said_by t event e = None

-- Whether an event of the task is set, as the newest entry about the event says. If no entry is about the event, it is
-- not set.
abbrev pub last_word : TaskRef → ℕ → History → Bool
last_word t event [] = false
last_word t event (e ∷ h) = unwrap_or (said_by t event e) (last_word t event h)

-- If an entry sets or clears events, its mask fits in 32 bits. [own: the code's masks have no other]
abbrev pub has_mask : Entry → Bool
has_mask (Printed (Mark.EventSet u mask)) = nat_lt mask (2 ^ 32)
has_mask (Printed (Mark.EventCleared u mask)) = nat_lt mask (2 ^ 32)
has_mask e = true

-- If the masks of all entries fit in 32 bits, an event of the task is set exactly if the newest entry about the event
-- says so (`last_word`). This holds for each script, and for each event whose number is below 32.
pub record IsLastWord (t : TaskRef) (h : History) : Type 0 where
  pub set : IsTrue (list_all has_mask h) → (script : List Op) (event : ℕ) → event < 32 → is_in_mask (row_of script (Runner.Task t) h).events.set event ≡ last_word t event h

-- ---- budgets

-- The entry is a tick.
abbrev pub is_tick : Entry → Bool
is_tick (Printed Mark.Tick) = true
is_tick e = false

-- After this history, a job of the runner is the running job.
abbrev pub is_running : Runner → History → Bool
is_running r h = option_map_or (λ (q : Runner). same_runner q r) (runner_of_job (running_job h)) false

-- At this entry, a job of the runner ends or begins to wait.
abbrev pub ends_or_waits : Runner → Entry → Bool
ends_or_waits r (Printed (Mark.Terminated t)) = same_runner (Runner.Task t) r
ends_or_waits r (Printed (Mark.IsrLeft i)) = same_runner (Runner.Isr i) r
ends_or_waits r (Printed (Mark.EventAwaited t mask)) = same_runner (Runner.Task t) r
ends_or_waits r e = false

-- How many ticks there were while a job of the runner was the running job.
abbrev pub ticks_of : Runner → History → ℕ
ticks_of r [] = 0
ticks_of r (e ∷ h) = if is_tick e && is_running r h then suc (ticks_of r h) else ticks_of r h

-- How many ticks of `ticks_of` came before the last entry at which a job of the runner ended or began to wait; 0
-- without such an entry.
abbrev pub earlier_ticks_of : Runner → History → ℕ
earlier_ticks_of r [] = 0
earlier_ticks_of r (e ∷ h) = if ends_or_waits r e then ticks_of r h else earlier_ticks_of r h

-- For each script, the used ticks of the runner are those since one of its jobs last ended or began to wait. Only ticks
-- at which a job of the runner was the running job count. [AUTOSAR SWS OS 4.x, SWS_Os_00028, SWS_Os_00473 and, of an
-- ISR, SWS_Os_00474; in ticks: own]
pub record UsesTicksSince (r : Runner) (h : History) : Type 0 where
  pub used : (script : List Op) → earlier_ticks_of r h + (row_of script r h).used ≡ ticks_of r h

-- ---- lock budgets

-- At this entry, a job of the runner takes the resource of this index.
abbrev pub takes_resource : Runner → ℕ → Entry → Bool
takes_resource r index (Noted (ResourceOccupied q x)) = same_runner q r && (x.index == index)
takes_resource r index e = false

-- How many ticks there were, while a job of the runner was the running job, since a job of the runner last took the
-- resource of this index. If none has taken it, they count from the beginning.
abbrev pub lock_ticks_of : Runner → ℕ → History → ℕ
lock_ticks_of r index [] = 0
lock_ticks_of r index (e ∷ h) = if takes_resource r index e then 0 else (if is_tick e && is_running r h then suc (lock_ticks_of r index h) else lock_ticks_of r index h)

-- For each script and each resource, the runner's lock ticks are those since one of its jobs last took the resource.
-- Only ticks at which a job of the runner was the running job count, whether a job holds the resource or not. [own]
pub record LocksTicksSince (r : Runner) (h : History) : Type 0 where
  pub used : (script : List Op) (index : ℕ) → index < RESOURCES → slice_index_or (row_of script r h).lock_used index 0 ≡ lock_ticks_of r index h
