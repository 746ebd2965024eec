use Rattle.std.proofs.Common.{◌≡◌, ◌+◌, drop, sum_by}
use Rattle.osplan.specs.declared.plans.Task.{Task}
use Rattle.osfit.proofs.fitting.jobs_of.Given as goal

-- the jobs so far and those of the tasks still to come are all jobs
abbrev pub invariant-loop-task : goal.invariant-loop-task
invariant-loop-task l = l.jobs + sum_by (λ (t : Task). t.activations) (drop l.task-index l.tasks) ≡ sum_by (λ (t : Task). t.activations) l.tasks
