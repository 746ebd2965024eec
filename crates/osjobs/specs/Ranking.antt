-- How the code compares jobs: a further job of a task ranks as the task's oldest one. It comes behind the oldest, so it
-- is never chosen.
use Rattle.std.specs.Prelude.{ℕ, Bool, false, not, if◌then◌else◌, Option, List}
use Rattle.std.specs.Option.{option_map_or}
use Rattle.osbase.specs.declared.histories.Job.{Job}
use Rattle.osbase.specs.History.{same_job, greater, greatest_ceiling, is_waiting}
use Rattle.oscript.specs.Runners.{Row}
use Rattle.osplan.specs.declared.plans.Core.{Core}
use Rattle.osrunner.specs.Rows.{events_in, held_in}
use Rattle.osjobs.specs.Priorities.{highest_of, static_priority}

-- The job's task does not wait.
abbrev pub is_awake_in : List Row → Job → Bool
is_awake_in rows j = not (is_waiting (events_in j.runner rows))

-- A job's rank: the greatest of its task's priority and of the ceilings of what the task's oldest job holds. If the job
-- is raised, the priorities of all tasks count too.
abbrev pub rank_by : Core → List Row → Option Job → Job → ℕ
rank_by core rows raised j =
    greater (greater (static_priority core j.runner) (greatest_ceiling (held_in j.runner rows)))
    (if option_map_or (same_job j) raised false then highest_of core.tasks else 0)
