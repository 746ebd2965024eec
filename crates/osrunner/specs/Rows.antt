-- The rows of a core's tasks and ISRs by their places, and how often each resource is held.
use Rattle.std.specs.Prelude.{◌≡◌, ℕ, suc, ◌+◌, ◌==◌, Bool, false, if◌then◌else◌, Option, Some, None, List, [], ◌∷◌, length, slice_index_or}
use Rattle.std.specs.List.{list_any, slice_set}
use Rattle.osbase.specs.{declared.references.Runner.Runner, declared.histories.HeldResource.HeldResource, declared.histories.TaskEvents.TaskEvents, declared.limits.TheConstants.RUNNERS, History.Entry, History.is_held, Sets.slot_of}
use Rattle.oscript.specs.{declared.Op.Op, declared.Frame.Frame, Runners.Row, Runners.first_row, Runners.row_step}

-- The row at a place. If there is no such place, it is the row before the first job.
abbrev pub row_at : ℕ → List Row → Row
row_at place all = slice_index_or all place first_row

-- The row of a task or ISR. If it has no place, it is the row before the first job.
abbrev pub row_in : Runner → List Row → Row
row_in r all = row_at (slot_of r) all

-- The resources that the runner's oldest job holds, the newest first.
abbrev pub held_in : Runner → List Row → List HeldResource
held_in r all = (row_in r all).held

-- The events of the runner's task.
abbrev pub events_in : Runner → List Row → TaskEvents
events_in r all = (row_in r all).events

-- Where the runner's oldest job is in its script, with the runner's variables.
abbrev pub frame_in : Runner → List Row → Frame
frame_in r all = (row_in r all).frame

-- How often the runner's oldest job has suspended interrupts and not resumed them.
abbrev pub depth_in : Runner → List Row → ℕ
depth_in r all = (row_in r all).depth

-- How many ticks of its execution budget the runner's oldest job has used.
abbrev pub used_in : Runner → List Row → ℕ
used_in r all = (row_in r all).used

-- For each resource, at how many ticks a job of the runner was the running job since a job of the runner last took the
-- resource.
abbrev pub lock_used_in : Runner → List Row → List ℕ
lock_used_in r all = (row_in r all).lock_used

-- All rows, with the row at this place changed by `f`.
abbrev pub with_row_at : ℕ → (Row → Row) → List Row → List Row
with_row_at place f all = slice_set all place (f (row_at place all))

-- All rows, with the runner's row changed by `f`.
abbrev pub with_row : Runner → (Row → Row) → List Row → List Row
with_row r f all = with_row_at (slot_of r) f all

-- The rows after an entry. If the entry has a runner `r`, it changes the row of `r`, whose script is `script`; else it
-- changes none.
abbrev pub rows_by : List Op → Entry → Option Runner → List Row → List Row
rows_by script e None all = all
rows_by script e (Some r) all = with_row r (row_step script e) all

-- A job of some runner holds the resource of this index. [OSEK/VDX OS 2.2.3, section 8.1]
abbrev pub is_occupied : ℕ → List Row → Bool
is_occupied index all = list_any (λ (row : Row). is_held index row.held) all

-- ---- what the code keeps in addition: a flag for each resource

-- How often the resource of this index is among these held resources.
abbrev pub held_count : ℕ → List HeldResource → ℕ
held_count index [] = 0
held_count index (x ∷ held) = if x.index == index then suc (held_count index held) else held_count index held

-- How often the resource of this index is held, over all rows.
abbrev pub total_count : ℕ → List Row → ℕ
total_count index [] = 0
total_count index (row ∷ all) = held_count index row.held + total_count index all

-- 1 for a flag that is set, else 0.
abbrev pub flag_count : Bool → ℕ
flag_count flag = if flag then 1 else 0

-- There are RUNNERS rows. Each resource is held once or not at all, as its flag says.
pub record IsFlagged (all : List Row) (occupied : List Bool) : Type 0 where
  pub runners : length all ≡ RUNNERS
  pub once : (index : ℕ) → total_count index all ≡ flag_count (slice_index_or occupied index false)
