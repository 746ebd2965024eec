-- What is kept of a core's tasks for its live jobs: the core, and each task's configured priority.
use Rattle.std.specs.Prelude.{ℕ, nat_lt, Bool, false, is_some, if◌then◌else◌, Option, None, List, map, slice_get, unwrap_or}
use Rattle.std.specs.List.{list_all}
use Rattle.osbase.specs.{declared.references.CoreId.CoreId, declared.references.Runner.Runner, declared.references.TaskRef.TaskRef, History.same_core}
use Rattle.osplan.specs.{declared.plans.Core.Core, declared.plans.Task.Task}

-- A core's number, and the static priorities of its tasks.
pub record OwnTasks : Type 0 where
  pub core : CoreId
  pub priorities : List ℕ

abbrev pub own_tasks : Core → OwnTasks
own_tasks core = record { core = core.id; priorities = map (λ (t : Task). t.priority) core.tasks }

-- The static priority of a task, if it is one of the core's. [OSEK/VDX OS 2.2.3, section 4.5]
abbrev pub priority_in : OwnTasks → TaskRef → Option ℕ
priority_in tasks t = if same_core t.core tasks.core then slice_get tasks.priorities t.index else None

-- The runner is one of the core's tasks.
abbrev pub is_own_task : OwnTasks → Runner → Bool
is_own_task tasks (Runner.Task t) = is_some (priority_in tasks t)
is_own_task tasks (Runner.Isr i) = false

-- The static priority of one of the core's tasks; 0 for any other runner.
abbrev pub priority_of : OwnTasks → Runner → ℕ
priority_of tasks (Runner.Task t) = unwrap_or (priority_in tasks t) 0
priority_of tasks (Runner.Isr i) = 0

-- All these priorities are below this bound.
abbrev pub are_below : ℕ → List ℕ → Bool
are_below bound priorities = list_all (λ (p : ℕ). nat_lt p bound) priorities
