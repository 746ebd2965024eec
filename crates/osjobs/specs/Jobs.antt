-- The live jobs of a core: what each entry of the history does to them, and which of them runs.
use Rattle.std.specs.Prelude.{ℕ, ◌<◌, nat_lt, Bool, true, false, if◌then◌else◌, Option, Some, None, List, [], ◌∷◌, filter, replicate}
use Rattle.std.specs.Option.{option_map_or, option_or}
use Rattle.osbase.specs.{declared.references.IsrRef.IsrRef, declared.references.TaskRef.TaskRef, declared.references.Runner.Runner, declared.histories.Job.Job, declared.marks.Mark.Mark, declared.limits.TheConstants.RUNNERS}
use Rattle.osbase.specs.History.{Entry, jobs_after, current_after, giving_way_after, oldest_of, first_greatest, same_runner}
use Rattle.osbase.specs.Interrupts.{entered_after, isr_jobs_after, oldest_entered, runner_of_job}
use Rattle.oscript.specs.{declared.Op.Op, Runners.Row, Runners.first_row, Runners.runner_of}
use Rattle.osplan.specs.declared.plans.Core.{Core}
use Rattle.osrunner.specs.Rows.{depth_in, rows_by}
use Rattle.osjobs.specs.OwnTasks.{OwnTasks, own_tasks}
use Rattle.osjobs.specs.Priorities.{is_able_in, level_by, priority_by, raised_of}

-- The live jobs of ISRs in the order of their stamps, and the ISRs whose oldest job was entered, the one entered last
-- in front.
pub record IsrState : Type 0 where
  pub live : List Job
  pub entered : List IsrRef

-- The core's tasks, which no entry changes; the live task jobs in the order of their stamps; the task in the running
-- state; the task or ISR that gives way; the row of each task and ISR, by its place (see `Row`); and the state of the
-- ISRs.
pub record JobState : Type 0 where
  pub tasks : OwnTasks
  pub jobs : List Job
  pub current : Option TaskRef
  pub giving_way : Option Runner
  pub rows : List Row
  pub isrs : IsrState

-- Each of these jobs has the property.
abbrev pub Each : (Job → Type 0) → List Job → Type 0
Each P [] = Unit {0}
Each P (j ∷ js) = P j × Each P js

-- Each job's stamp is smaller than those of the jobs behind it.
abbrev pub Ascending : List Job → Type 0
Ascending [] = Unit {0}
Ascending (j ∷ js) = Each (λ (k : Job). j.stamp < k.stamp) js × Ascending js

-- ---- who runs

-- The current job: the oldest job of the task in the running state. [OSEK/VDX OS 2.2.3, section 4.2]
abbrev pub current_among : JobState → Option Job
current_among s = oldest_of s.current s.jobs

-- The running job: the oldest job of the ISR that was entered last or, without one, the current job. [OSEK/VDX OS
-- 2.2.3, section 4.2 and 6]
abbrev pub running_among : JobState → Option Job
running_among s = option_or (oldest_entered s.isrs.entered s.isrs.live) (current_among s)

-- ---- what an entry does

-- The state of the ISRs after an entry: their live jobs, and which ISRs were entered. If an interrupt is accepted, its
-- job gets this stamp.
abbrev pub isrs_by : Entry → ℕ → IsrState → IsrState
isrs_by e stamp s = record { live = isr_jobs_after e stamp s.live; entered = entered_after e s.entered }

-- The state after an entry, part by part. If an activation or an accepted interrupt begins a job, the job gets this
-- stamp. If a task is released, its oldest job gets this stamp as its new one. The list of operations is the script of
-- the entry's runner; only the step for an operation that is done reads it. [own]
abbrev pub jobs_by : List Op → Entry → ℕ → JobState → JobState
jobs_by script e stamp s = record {
  tasks = s.tasks;
  jobs = jobs_after e stamp s.jobs;
  current = current_after e s.current;
  giving_way = giving_way_after e s.giving_way;
  rows = rows_by script e (runner_of (runner_of_job (running_among s)) e) s.rows;
  isrs = isrs_by e stamp s.isrs;
}

-- The state before the first job.
abbrev pub first_jobs : Core → JobState
first_jobs core = record { tasks = own_tasks core; jobs = []; current = None; giving_way = None; rows = replicate RUNNERS first_row; isrs = record { live = []; entered = [] } }

-- The mark begins no job, ends none and changes no row. With this mark, no task enters or leaves the running state, and
-- no ISR is entered.
abbrev pub is_plain : Mark → Bool
is_plain (Mark.Activated t) = false
is_plain (Mark.Terminated t) = false
is_plain (Mark.InterruptAccepted i) = false
is_plain (Mark.IsrEntered i) = false
is_plain (Mark.IsrLeft i) = false
is_plain (Mark.PreTaskHook t) = false
is_plain (Mark.PostTaskHook t) = false
is_plain (Mark.EventSet t mask) = false
is_plain (Mark.EventCleared t mask) = false
is_plain (Mark.EventAwaited t mask) = false
is_plain (Mark.Released t) = false
is_plain Mark.Tick = false
is_plain m = true

-- ---- what is asked

-- The runner is the task in the running state.
abbrev pub is_current : Option TaskRef → Runner → Bool
is_current None r = false
is_current (Some t) r = same_runner r (Runner.Task t)

-- The raised job: the current job, if its task is not preemptable and does not give way.
abbrev pub raised_among : Core → JobState → Option Job
raised_among core s = raised_of core s.giving_way (current_among s)

-- There is a job, and it has suspended interrupts. [OSEK/VDX OS 2.2.3, section 13.3.2.4]
abbrev pub has_suspended_interrupts_in : List Row → Option Job → Bool
has_suspended_interrupts_in rows job = option_map_or (λ (j : Job). nat_lt 0 (depth_in j.runner rows)) job false

-- Of the task jobs that may run, the oldest with the greatest current priority. [OSEK/VDX OS 2.2.3, section 4.4 and
-- 4.5]
abbrev pub best_task_among : Core → JobState → Option Job
best_task_among core s = first_greatest (priority_by core s.jobs s.rows (raised_among core s)) (filter (is_able_in s.jobs s.rows) s.jobs)

-- The job to run: the running one, if it has suspended interrupts; else the oldest ISR job of the greatest level; else
-- the best task job. [OSEK/VDX OS 2.2.3, section 4.4, 4.5, 6 and 13.3.2.4; AUTOSAR SWS OS 4.x, section 7.6]
abbrev pub best_among : Core → JobState → Option Job
best_among core s =
    if has_suspended_interrupts_in s.rows (running_among s) then running_among s
    else option_or (first_greatest (level_by core) s.isrs.live) (best_task_among core s)
