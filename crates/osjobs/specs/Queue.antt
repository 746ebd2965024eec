-- The ready queue of the live jobs: those whose tasks do not wait, each with the priority of its task as it is
-- configured. Also, which jobs have to be compared to find the best one. All of it is this project's own.
use Rattle.std.specs.Prelude.{◌≡◌, ◌⊎◌, ℕ, ◌<◌, ◌≤◌, nat_lt, Bool, true, if◌then◌else◌, Option, Some, None, List, [], ◌∷◌, length}
use Rattle.std.specs.{Int.bit_at, List.list_all}
use Rattle.osbase.specs.{declared.histories.Job.Job, declared.references.Runner.Runner, declared.limits.TheConstants.RUNNERS, declared.limits.TheConstants.TASKS, History.oldest}
use Rattle.oscript.specs.Runners.{Row}
use Rattle.osplan.specs.{declared.plans.Core.Core, declared.plans.Task.Task}
use Rattle.osqueue.specs.{declared.ready.Ready.Ready, declared.ready.TheConstants.PRIORITIES, Ordered.placed, Ordered.without}
use Rattle.osrunner.specs.Rows.{row_at}
use Rattle.osjobs.specs.{Jobs.Each, Priorities.holds_any, Ranking.is_awake_in, Ranking.rank_by}
use Rattle.osjobs.specs.OwnTasks.{OwnTasks, are_below, is_own_task, priority_of}

-- The job is one of the list.
abbrev pub OneOf : Job → List Job → Type 0
OneOf b [] = ⊥
OneOf b (j ∷ js) = (j ≡ b) ⊎ OneOf b js

-- The first job has a greater rank than the second, or the same rank and a stamp that is not greater.
abbrev pub Beats : (Job → ℕ) → Job → Job → Type 0
Beats rank b j = (rank j < rank b) ⊎ ((rank j ≡ rank b) × (b.stamp ≤ j.stamp))

-- A job as the queue holds it: with the static priority of its task.
abbrev pub entry_of : OwnTasks → Job → Ready
entry_of tasks j = record { priority = priority_of tasks j.runner; job = j }

-- The queue of the jobs in the list that are able to run, as `able` tests. The job to run first is in front.
abbrev pub queued : OwnTasks → (Job → Bool) → List Job → List Ready
queued tasks able [] = []
queued tasks able (j ∷ js) = if able j then placed (entry_of tasks j) (queued tasks able js) else queued tasks able js

-- The queue without this job. If there is no job, or it is not able to run, the queue stays as it is.
abbrev pub dequeued : OwnTasks → (Job → Bool) → Option Job → List Ready → List Ready
dequeued tasks able None q = q
dequeued tasks able (Some j) q = if able j then without (entry_of tasks j) q else q

-- The queue with this job at its place. If there is no job, the queue stays as it is.
abbrev pub enqueued : OwnTasks → Option Job → List Ready → List Ready
enqueued tasks None q = q
enqueued tasks (Some j) q = placed (entry_of tasks j) q

-- The priority of each of these tasks is below this bound, so that the ready queue can hold the task's jobs.
abbrev pub have_queues : ℕ → List Task → Bool
have_queues priorities tasks = list_all (λ (t : Task). nat_lt t.priority priorities) tasks

-- The word has a bit for each task whose oldest job holds a resource. It may have further bits.
pub record AreHolders (rows : List Row) (word : ℕ) : Type 0 where
  pub each : (k : ℕ) → k < TASKS → holds_any (row_at k rows).held ≡ true → bit_at word k ≡ 1

-- The queue `ready` has the jobs whose tasks do not wait. There are at most `room` jobs, at most TASKS tasks, and
-- RUNNERS rows. Each job is of one of the core's tasks. The tasks' priorities are below `priorities` and below
-- PRIORITIES.
pub record AreReady (priorities room : ℕ) (tasks : OwnTasks) (jobs : List Job) (rows : List Row) (ready : List Ready) : Type 0 where
  pub few : length jobs ≤ room
  pub own : Each (λ (j : Job). is_own_task tasks j.runner ≡ true) jobs
  pub low : are_below priorities tasks.priorities ≡ true
  pub narrow : are_below PRIORITIES tasks.priorities ≡ true
  pub within : length tasks.priorities ≤ TASKS
  pub places : length rows ≡ RUNNERS
  pub queue : ready ≡ queued tasks (is_awake_in rows) jobs

-- The oldest job of the core's task of this index.
abbrev pub oldest_at : Core → List Job → ℕ → Option Job
oldest_at core jobs index = oldest (Runner.Task (record { core = core.id; index = index })) jobs

-- `chosen` is the better of `best` and `job`. If there is no `job`, or it is not able to run, `chosen` is `best`.
pub record IsBetter (rank : Job → ℕ) (able : Job → Bool) (best : Job) (job : Option Job) (chosen : Job) : Type 0 where
  pub one : (chosen ≡ best) ⊎ ((job ≡ Some chosen) × (able chosen ≡ true))
  pub beats : Beats rank chosen best
  pub also : (j : Job) → job ≡ Some j → able j ≡ true → Beats rank chosen j

-- `best` is one of the jobs, and its task does not wait. It beats `front`, the raised job, and the oldest job of each
-- task that has a bit in `holders` and none in `left`. Of the last two, a job whose task waits does not count.
pub record IsBestSoFar (core : Core) (rows : List Row) (raised : Option Job) (holders : ℕ) (jobs : List Job) (front best : Job) (left : ℕ) : Type 0 where
  pub one : OneOf best jobs
  pub able : is_awake_in rows best ≡ true
  pub first : Beats (rank_by core rows raised) best front
  pub lifted : (j : Job) → raised ≡ Some j → is_awake_in rows j ≡ true → Beats (rank_by core rows raised) best j
  pub passed : (k : ℕ) (j : Job) → bit_at holders k ≡ 1 → bit_at left k ≡ 0 → oldest_at core jobs k ≡ Some j → is_awake_in rows j ≡ true → Beats (rank_by core rows raised) best j
