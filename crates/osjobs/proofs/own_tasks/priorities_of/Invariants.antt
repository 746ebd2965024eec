use Rattle.std.proofs.Common.{◌≡◌, map, take}
use Rattle.osplan.specs.declared.plans.Task.{Task as TaskValue}
use Rattle.osjobs.proofs.own_tasks.priorities_of.Given as goal

abbrev pub invariant-loop-task : goal.invariant-loop-task
invariant-loop-task l = l.priorities.items ≡ map (λ (t : TaskValue). t.priority) (take l.task-index l.core.tasks)
