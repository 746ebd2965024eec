-- What holds of the state of every kernel: that nothing runs out of its room. All of it is this project's own.
use Rattle.std.specs.Prelude.{◌≡◌, ℕ, ◌<◌, ◌≤◌, nat_le, nat_lt, Bool, true, false, if◌then◌else◌, IsTrue, IfSome, Option, Some, is_some, [], length, slice_index, sum_by}
use Rattle.std.specs.{List.All, List.list_all, Option.option_map_or}
use Rattle.osbase.specs.{declared.references.IsrRef.IsrRef, declared.references.Runner.Runner, declared.histories.Awaited.Awaited, declared.histories.Job.Job, declared.histories.Phase.Phase, declared.items.Agreement.Agreement, declared.items.Item.Item, declared.limits.TheConstants.ISRS, declared.limits.TheConstants.TASKS, History.job_count, Interrupts.isr_count, Phases.is_before_live, Phases.is_past_first_gate, declared.limits.TheConstants.RESOURCES}
use Rattle.oscript.specs.{declared.Op.Op, Rows.objects_of, Runners.Row, declared.Action.Action, declared.Action.TheVariants.Perform, declared.Action.TheVariants.End}
use Rattle.osplan.specs.{declared.plans.Core.Core, declared.plans.Resource.Resource, declared.plans.Task.Task, Limits.most_activations, Objects.core_actions, Objects.may_act, Objects.may_name, View.own_isr, View.own_task}
use Rattle.osqueue.specs.declared.ready.TheConstants.{PRIORITIES}
use Rattle.osrunner.specs.Rows.{row_at}
use Rattle.osjobs.specs.{Jobs.Each, Jobs.JobState, OwnTasks.own_tasks, Priorities.is_own_runner}
use Rattle.osclock.specs.Clocks.{AreClocks, ClockState}
use Rattle.ostable.specs.{Tables.AreTables, Tables.TableStates, Waiting.all_wait_by_counter}
use Rattle.osprogress.specs.{declared.progress.Progress.Progress, Border.BorderState, Border.is_lock_known}
use Rattle.osstate.specs.{Readings.script_of, State.KernelState}

-- The first gate has a result, and the cores' modes are not in conflict.
abbrev pub is_agreed : Option Agreement → Bool
is_agreed (Some (Agreement.Mode m)) = true
is_agreed (Some Agreement.NoMode) = true
is_agreed other = false

-- How many jobs of one of the core's tasks may be live at once; 0 for any other runner.
abbrev pub activation_limit : Core → Runner → ℕ
activation_limit core (Runner.Task t) = option_map_or (λ (task : Task). task.activations) (own_task core t) 0
activation_limit core (Runner.Isr i) = 0

-- The limit `most` for one of the core's ISRs, and 0 for any other runner.
abbrev pub isr_limit : ℕ → Core → Runner → ℕ
isr_limit most core (Runner.Task t) = 0
isr_limit most core (Runner.Isr i) = if is_some (own_isr core i) then most else 0

-- How many jobs of one of the core's ISRs may be live at once: one that was entered, and one that is pending. 0 for any
-- other runner.
abbrev pub interrupt_limit : Core → Runner → ℕ
interrupt_limit core r = isr_limit 2 core r

-- How many live jobs of one of the core's ISRs may have been entered: one. 0 for an ISR of another core.
abbrev pub entered_limit : Core → IsrRef → ℕ
entered_limit core i = isr_limit 1 core (Runner.Isr i)

-- Each object that the operation names is one of the core's own, or is on another core.
abbrev pub has_objects_of : Core → Op → Bool
has_objects_of core op = list_all (may_name core) (objects_of op)

-- If a job's next action is an operation, each object that it names is one of the core's own, or is on another core.
abbrev pub is_action_known : Core → Action → Bool
is_action_known core (Perform op) = has_objects_of core op
is_action_known core End = true

-- By this item the core passes the first gate.
abbrev pub is_first_gate : Item → Bool
is_first_gate (Item.Pass1 agreement) = true
is_first_gate item = false

-- If the call waits for a spinlock's answer, the index of the spinlock is below SPINLOCKS.
abbrev pub is_awaited_known : Awaited → Bool
is_awaited_known (Awaited.Get l) = is_lock_known l
is_awaited_known (Awaited.Try l) = is_lock_known l
is_awaited_known (Awaited.Release l) = is_lock_known l
is_awaited_known awaited = true

-- ---- in parts: what the configuration says, which no entry changes, and what the jobs, the progress, the border and the clocks say

-- The core has at most as many tasks and ISRs as there are places for. Each task has a priority below `priorities` and
-- below PRIORITIES. Its activation limit is 1 to 64, and 1 for an extended task. These limits sum to at most `room`.
pub record HasTasks (priorities room : ℕ) (core : Core) : Type 0 where
  pub tasks : length core.tasks ≤ TASKS
  pub isrs : length core.isrs ≤ ISRS
  pub bounded : IsTrue (list_all (λ (t : Task). nat_lt t.priority priorities) core.tasks)
  pub limits : sum_by (λ (t : Task). t.activations) core.tasks ≤ room
  pub some : IsTrue (list_all (λ (t : Task). nat_le 1 t.activations) core.tasks)
  pub narrow : IsTrue (list_all (λ (t : Task). nat_lt t.priority PRIORITIES) core.tasks)
  pub single : IsTrue (list_all (λ (t : Task). nat_le t.activations (most_activations t.extended)) core.tasks)

-- If a script, an alarm or a table of the core names an object of this core, that object exists. Alarms and tables do
-- nothing but activate tasks and set events. There are at most as many resources as there are places for, each with a
-- ceiling below `priorities`.
pub record HasObjects (priorities : ℕ) (core : Core) : Type 0 where
  pub scripts : (r : Runner) → IsTrue (list_all (has_objects_of core) (script_of core r))
  pub actions : IsTrue (list_all (may_act core) (core_actions core))
  pub resources : length core.resources ≤ RESOURCES
  pub ceilings : IsTrue (list_all (λ (r : Resource). nat_lt r.ceiling priorities) core.resources)

-- The job with this row has used at most `most` ticks of its execution budget, and of the lock budget of each resource.
pub record UsesAtMost (most : ℕ) (row : Row) : Type 0 where
  pub ticks : row.used ≤ most
  pub locks : All (λ (ticks : ℕ). ticks ≤ most) row.lock_used

-- No task has more live jobs than it may have, and none before the core schedules. Each live job began or was released
-- at an entry that the history has, so the stamp of the next entry is greater than theirs. No ISR has more live jobs
-- than it may have, and at most one of them was entered. No job has used more ticks of any budget than the history has
-- entries. The tasks are those of this core.
pub record HasJobs (core : Core) (phase : Phase) (entries : ℕ) (s : JobState) : Type 0 where
  pub within : (r : Runner) → job_count r s.jobs ≤ activation_limit core r
  pub stamps : Each (λ (j : Job). j.stamp < entries) s.jobs
  pub idle : IsTrue (is_before_live phase) → s.jobs ≡ []
  pub interrupts : (r : Runner) → job_count r s.isrs.live ≤ interrupt_limit core r
  pub entered : (i : IsrRef) → isr_count i s.isrs.entered ≤ entered_limit core i
  pub used : (place : ℕ) → UsesAtMost entries (row_at place s.rows)
  pub tasks : s.tasks ≡ own_tasks core

-- If the core is past the first gate, the modes were not in conflict there. The core has taken at most as many items,
-- and done at most as many entries of its start list, as its history has entries.
pub record IsUnderWay (p : Progress) : Type 0 where
  pub agreed : IsTrue (is_past_first_gate p.phase) → IsTrue (is_agreed p.agreement)
  pub began : p.began ≤ p.entries
  pub items : p.items ≤ p.entries

-- If a call is open, its caller is one of the core's own tasks or ISRs. If it awaits a spinlock, the spinlock's index
-- is below SPINLOCKS. For each core, no more letters were queued, or received from it, than the history has entries.
pub record HasBorder (core : Core) (entries : ℕ) (border : BorderState) : Type 0 where
  pub caller : IfSome border.open_call (λ call. IsTrue (is_own_runner core call.runner))
  pub awaited : IfSome border.open_call (λ call. IsTrue (is_awaited_known call.awaits))
  pub queued : (k : ℕ) → slice_index border.queued k ≤ entries
  pub received : (k : ℕ) → slice_index border.received k ≤ entries

-- The counters, alarms and tables are within their limits, and stand as some history leaves them. No table waits for
-- one of another counter.
pub record HasClocks (core : Core) (counters : ClockState) (schedules : TableStates) : Type 0 where
  pub clocks : AreClocks core counters
  pub tables : AreTables core schedules
  pub waiting : IsTrue (all_wait_by_counter core schedules)

-- What holds of every kernel's state. Its tasks' priorities and its resources' ceilings are below `priorities`. It has
-- places for `room` live jobs of tasks.
pub record IsSound (priorities room : ℕ) (s : KernelState) : Type 0 where
  pub tasks : HasTasks priorities room s.view.own
  pub objects : HasObjects priorities s.view.own
  pub jobs : HasJobs s.view.own s.progress.phase s.progress.entries s.tasks
  pub progress : IsUnderWay s.progress
  pub border : HasBorder s.view.own s.progress.entries s.border
  pub times : HasClocks s.view.own s.clocks s.tables
