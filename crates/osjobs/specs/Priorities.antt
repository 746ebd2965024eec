-- A job's priority, and what it depends on: its task, the resources that it holds, and whether the job is raised.
use Rattle.std.specs.Prelude.{ℕ, ◌==◌, ◌&&◌, ◌||◌, Bool, true, false, not, if◌then◌else◌, Option, Some, None, is_some, List, [], ◌∷◌}
use Rattle.std.specs.Option.{option_map_or}
use Rattle.osbase.specs.{declared.references.Runner.Runner, declared.histories.Job.Job, declared.histories.HeldResource.HeldResource}
use Rattle.osbase.specs.History.{same_job, same_runner, greater, greatest_ceiling, is_waiting, oldest}
use Rattle.oscript.specs.Runners.{Row}
use Rattle.osplan.specs.{declared.plans.Core.Core, declared.plans.Isr.Isr, declared.plans.Task.Task, View.own_isr, View.own_task}
use Rattle.osrunner.specs.Rows.{events_in, held_in}

-- The runner is one of the core's own tasks or ISRs.
abbrev pub is_own_runner : Core → Runner → Bool
is_own_runner core (Runner.Task t) = is_some (own_task core t)
is_own_runner core (Runner.Isr i) = is_some (own_isr core i)

-- The static priority of one of the core's tasks; 0 for any other runner. [OSEK/VDX OS 2.2.3, section 4.5]
abbrev pub static_priority : Core → Runner → ℕ
static_priority core (Runner.Task t) = option_map_or (λ (task : Task). task.priority) (own_task core t) 0
static_priority core (Runner.Isr i) = 0

-- The runner is not one of the core's non-preemptable tasks. [OSEK/VDX OS 2.2.3, section 4.6]
abbrev pub is_preemptable : Core → Runner → Bool
is_preemptable core (Runner.Task t) = option_map_or (λ (task : Task). task.preemptable) (own_task core t) true
is_preemptable core (Runner.Isr i) = true

-- The runner is one of the core's extended tasks, which can wait for events. [OSEK/VDX OS 2.2.3, section 4.2.1]
abbrev pub is_extended : Core → Runner → Bool
is_extended core (Runner.Task t) = option_map_or (λ (task : Task). task.extended) (own_task core t) false
is_extended core (Runner.Isr i) = false

-- The level of one of the core's ISRs; 0 for any other runner. [AUTOSAR SWS OS 4.x, section 7.6; that levels are
-- numbers of their own: own]
abbrev pub level_of : Core → Runner → ℕ
level_of core (Runner.Task t) = 0
level_of core (Runner.Isr i) = option_map_or (λ (isr : Isr). isr.level) (own_isr core i) 0

-- The level of the job's ISR; 0 for a job of a task.
abbrev pub level_by : Core → Job → ℕ
level_by core j = level_of core j.runner

-- The greatest static priority of these tasks; 0 if there are none.
abbrev pub highest_of : List Task → ℕ
highest_of [] = 0
highest_of (task ∷ tasks) = greater task.priority (highest_of tasks)

-- The raised job: the current job, if its task is not preemptable and does not give way. [OSEK/VDX OS 2.2.3, section
-- 4.6.2; that it is a raised priority is this project's own]
abbrev pub raised_of : Core → Option Runner → Option Job → Option Job
raised_of core way None = None
raised_of core way (Some j) = if is_preemptable core j.runner || option_map_or (same_runner j.runner) way false then None else Some j

-- Of these live jobs, this job is the oldest of its task or ISR. A task's jobs run one after another, so a further one
-- has not begun. [OSEK/VDX OS 2.2.3, section 4.3, multiple requesting]
abbrev pub is_oldest : List Job → Job → Bool
is_oldest jobs j = option_map_or (same_job j) (oldest j.runner jobs) false

-- The live job may run: it is the oldest of its task, and the task does not wait. [OSEK/VDX OS 2.2.3, section 4.2.1 and
-- 4.3]
abbrev pub is_able_in : List Job → List Row → Job → Bool
is_able_in jobs rows j = is_oldest jobs j && not (is_waiting (events_in j.runner rows))

-- The resources that a live job holds. A further job of a task, which has not begun, holds none yet. [OSEK/VDX OS
-- 2.2.3, section 4.3 and 8.2]
abbrev pub held_by_job : List Job → List Row → Job → List HeldResource
held_by_job jobs rows j = if is_oldest jobs j then held_in j.runner rows else []

-- The resource of this index is the newest of these held resources.
abbrev pub is_newest : ℕ → List HeldResource → Bool
is_newest index [] = false
is_newest index (x ∷ held) = x.index == index

-- At least one resource is held.
abbrev pub holds_any : List HeldResource → Bool
holds_any [] = false
holds_any (x ∷ held) = true

-- The current priority of a job: the greatest of its task's priority and of the ceilings of the resources that it
-- holds. If the job is raised, the priorities of all tasks count too. [OSEK/VDX OS 2.2.3, section 4.5, 4.6.2 and 8.5]
abbrev pub priority_by : Core → List Job → List Row → Option Job → Job → ℕ
priority_by core jobs rows raised j =
    greater (greater (static_priority core j.runner) (greatest_ceiling (held_by_job jobs rows j)))
    (if option_map_or (same_job j) raised false then highest_of core.tasks else 0)
