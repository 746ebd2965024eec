-- What is read off a core's history with what the core sees of its configuration.
use Rattle.std.specs.Prelude.{ℕ, ◌-◌, nat_lt, Bool, if◌then◌else◌, Option, Some, None, List, [], filter, map, option_map, slice_get}
use Rattle.std.specs.{List.enumerate_from, Option.option_map_or, Option.option_or}
use Rattle.osbase.specs.{declared.references.AlarmRef.AlarmRef, declared.references.CoreId.CoreId, declared.references.CounterRef.CounterRef, declared.references.ResourceRef.ResourceRef, declared.references.TableRef.TableRef, declared.references.IsrRef.IsrRef, declared.references.TaskRef.TaskRef, declared.references.Runner.Runner, declared.messages.RemoteCall.RemoteCall, declared.histories.Job.Job, declared.histories.HeldResource.HeldResource, declared.histories.Phase.Phase, declared.histories.TaskEvents.TaskEvents, Objects.object_of_call, Sets.has_core, Sets.numbers_from, declared.limits.TheConstants.RUNNERS, declared.limits.TheConstants.TASKS}
use Rattle.osbase.specs.History.{History, same_core, current_job, giving_way, live_jobs, first_greatest, started_cores, phase_of}
use Rattle.osbase.specs.Interrupts.{entered_isrs, is_pending_among, isr_jobs, running_job}
use Rattle.oscript.specs.{declared.Op.Op, declared.Frame.Frame, Runners.Row, Runners.row_of}
use Rattle.osplan.specs.{declared.plans.Alarm.Alarm, declared.plans.Core.Core, declared.plans.Counter.Counter, declared.plans.Isr.Isr, declared.plans.Resource.Resource, declared.plans.Table.Table, declared.plans.Task.Task, Objects.is_own_object}
use Rattle.osplan.specs.View.{View, own_alarm, own_counter, own_isr, own_resource, own_table, own_task}
use Rattle.osclock.specs.Clocks.{alarm_ref, counter_ref}
use Rattle.ostable.specs.Tables.{table_ref}
use Rattle.osrunner.specs.Rows.{row_in}
use Rattle.osjobs.specs.Jobs.{has_suspended_interrupts_in}
use Rattle.osjobs.specs.Priorities.{is_able_in, level_by, priority_by, raised_of}

-- `core` is this core's own number.
abbrev pub is_this_core : View → CoreId → Bool
is_this_core v core = same_core core v.core

-- The call is on an object of this core, so this core serves it. [own]
abbrev pub is_served : View → RemoteCall → Bool
is_served v call = is_own_object v.own (object_of_call call)

-- The script of a task or an ISR of this core; an empty one for any other runner.
abbrev pub script_of : Core → Runner → List Op
script_of core (Runner.Task t) = option_map_or (λ (task : Task). task.script) (own_task core t) []
script_of core (Runner.Isr i) = option_map_or (λ (isr : Isr). isr.script) (own_isr core i) []

-- How many ticks a job of one of the core's tasks or ISRs may use. 0 means any number; any other runner has 0.
-- [AUTOSAR SWS OS 4.x, OsTaskExecutionBudget and OsIsrExecutionBudget; in ticks: own]
abbrev pub budget_of : Core → Runner → ℕ
budget_of core (Runner.Task t) = option_map_or (λ (task : Task). task.budget) (own_task core t) 0
budget_of core (Runner.Isr i) = option_map_or (λ (isr : Isr). isr.budget) (own_isr core i) 0

-- The reference of the core's task of this index.
abbrev pub task_ref : Core → ℕ → TaskRef
task_ref core index = record { core = core.id; index = index }

-- The reference of the core's ISR of this index.
abbrev pub isr_ref : Core → ℕ → IsrRef
isr_ref core index = record { core = core.id; index = index }

-- The core's task or ISR at this place. The first TASKS places are for tasks, those after them for ISRs.
abbrev pub runner_at : Core → ℕ → Runner
runner_at core place = if nat_lt place TASKS then Runner.Task (task_ref core place) else Runner.Isr (isr_ref core (place - TASKS))

-- The rows of all tasks and ISRs, in the order of their places. The code keeps these rows.
abbrev pub rows_of : Core → History → List Row
rows_of core h = map (λ (n : ℕ). row_of (script_of core (runner_at core n)) (runner_at core n) h) (numbers_from 0 RUNNERS)

-- The row of one of the core's tasks or ISRs. The next definitions read its fields.
abbrev pub row_at : View → Runner → History → Row
row_at v r h = row_in r (rows_of v.own h)

-- The resources that the oldest live job of a task or an ISR holds, the newest first.
abbrev pub resources_of : View → Runner → History → List HeldResource
resources_of v r h = (row_at v r h).held

-- The events of a task: which are set, and which the task waits for, if it waits.
abbrev pub events_at : View → Runner → History → TaskEvents
events_at v r h = (row_at v r h).events

-- Where the oldest live job of a task or an ISR is in its script, with its last status and its variables.
abbrev pub frame_at : View → Runner → History → Frame
frame_at v r h = (row_at v r h).frame

-- How often the oldest live job of a task or an ISR has suspended interrupts without resuming them.
abbrev pub depth_at : View → Runner → History → ℕ
depth_at v r h = (row_at v r h).depth

-- How many ticks of its execution budget the oldest live job of a task or an ISR has used.
abbrev pub used_at : View → Runner → History → ℕ
used_at v r h = (row_at v r h).used

-- The oldest live job of the task or ISR has interrupts suspended now. [OSEK/VDX OS 2.2.3, section 13.3.2.4]
abbrev pub has_suspended_interrupts : View → Runner → History → Bool
has_suspended_interrupts v r h = nat_lt 0 (depth_at v r h)

-- A job of the ISR is pending: it is live, and was not entered yet. [AUTOSAR SWS OS 4.x, section 7.6]
abbrev pub is_pending : IsrRef → History → Bool
is_pending i h = is_pending_among i (entered_isrs h) (isr_jobs h)

-- A resource that a script names, as a job would hold it: its index and its ceiling. None for the invalid identifier,
-- and for a resource that is not the core's own, which no script of an accepted configuration names.
abbrev pub resource_of : Core → Option ResourceRef → Option HeldResource
resource_of core None = None
resource_of core (Some r) = option_map (λ (x : Resource). record { index = r.index; ceiling = x.ceiling }) (own_resource core r)

-- The counter that a script names; none for the invalid identifier, and for a counter of another core.
abbrev pub counter_named : Core → Option CounterRef → Option Counter
counter_named core None = None
counter_named core (Some c) = own_counter core c

-- The alarm that a script names; none for the invalid identifier, and for an alarm of another core.
abbrev pub alarm_named : Core → Option AlarmRef → Option Alarm
alarm_named core None = None
alarm_named core (Some a) = own_alarm core a

-- The schedule table that a script names; none for the invalid identifier, and for a table of another core.
abbrev pub table_named : Core → Option TableRef → Option Table
table_named core None = None
table_named core (Some s) = own_table core s

-- The current priority of a job: the greatest of its task's priority and of the ceilings of what it holds. If its task
-- is in the running state, cannot be preempted and does not give way, the priorities of all tasks count too.
-- [OSEK/VDX OS 2.2.3, section 4.5, 4.6.2 and 8.5]
abbrev pub current_priority : View → History → Job → ℕ
current_priority v h j = priority_by v.own (live_jobs h) (rows_of v.own h) (raised_of v.own (giving_way h) (current_job h)) j

-- The job may run: it is the oldest live job of its task, and the task does not wait. [OSEK/VDX OS 2.2.3, section 4.2.1
-- and 4.3]
abbrev pub is_able : View → History → Job → Bool
is_able v h j = is_able_in (live_jobs h) (rows_of v.own h) j

-- The running job: that of the ISR that was entered last, or else the oldest live job of the task in the running state.
-- [OSEK/VDX OS 2.2.3, section 4.2 and 6]
abbrev pub running : View → History → Option Job
running v h = running_job h

-- The best job of a task: of the task jobs that may run and have the greatest current priority, the one of smallest
-- stamp.
-- [OSEK/VDX OS 2.2.3, section 4.4 and 4.5; the code keeps a ready queue.]
abbrev pub best_task : View → History → Option Job
best_task v h = first_greatest (current_priority v h) (filter (is_able v h) (live_jobs h))

-- The job to run. The running one runs on if it has suspended interrupts. Else it is the one of smallest stamp among
-- the jobs of ISRs of greatest level. If there is none, it is the best job of a task.
-- [OSEK/VDX OS 2.2.3, section 4.4, 4.5, 6 and 13.3.2.4; AUTOSAR SWS OS 4.x, section 7.6]
abbrev pub best_job : View → History → Option Job
best_job v h =
    if has_suspended_interrupts_in (rows_of v.own h) (running v h) then running v h
    else option_or (first_greatest (level_by v.own) (isr_jobs h)) (best_task v h)

-- Core `id` was started, as far as this core learned at the second gate. [own: isolation]
abbrev pub knows_started : History → CoreId → Bool
knows_started h id = has_core (started_cores h) id

-- The phase of this core.
abbrev pub phase_at : View → History → Phase
phase_at v h = phase_of v.around.is_master h

-- The next core of this core's start list, once `began` of the list's entries are done; none if all are.
-- [AUTOSAR SWS OS 4.x, StartCore; that there is a list is this project's own]
abbrev pub next_start : View → ℕ → Option CoreId
next_start v began = slice_get v.own.start began

-- These objects, each with the reference that `ref` makes of its index.
abbrev pub numbered : {R A : Type 0} → (ℕ → R) → List A → List (R × A)
numbered ref xs = map (λ p. (ref p.0, p.1)) (enumerate_from 0 xs)

-- The core's counters in index order, each with its reference.
abbrev pub numbered_counters : Core → List (CounterRef × Counter)
numbered_counters core = numbered (counter_ref core) core.counters

-- The core's alarms in index order, each with its reference.
abbrev pub numbered_alarms : Core → List (AlarmRef × Alarm)
numbered_alarms core = numbered (alarm_ref core) core.alarms

-- The core's tables in index order, each with its reference.
abbrev pub numbered_tables : Core → List (TableRef × Table)
numbered_tables core = numbered (table_ref core) core.tables
