-- What is kept of a core's tasks says of each task what the configuration says.
use Rattle.std.proofs.Common.{◌≡◌, ℕ, ◌≤◌, Bool, true, false, cond, Option, Some, None, is_some, option_map, unwrap_or, length, map, refl, ap, sym, subst, ◌∙◌, nat_lt}
use Rattle.std.specs.{List.slice_get, Option.option_map_or}
use Rattle.std.proofs.{lemmas.Bool.false≢true, lemmas.List.length-map, lemmas.List.Folds.list_all-map, lemmas.Option.slice_get-map}
use Rattle.osbase.specs.{declared.references.Runner.Runner, declared.references.TaskRef.TaskRef, declared.limits.TheConstants.TASKS, History.same_core}
use Rattle.osbase.specs.declared.references.Runner.TheVariants as Runner
use Rattle.osplan.specs.{declared.plans.Core.Core, declared.plans.Task.Task, View.own_task}
use Rattle.osjobs.specs.OwnTasks.{are_below, is_own_task, own_tasks, priority_in, priority_of}
use Rattle.osjobs.specs.{Priorities.is_own_runner, Priorities.static_priority, Queue.have_queues}

module _ (core : Core) where
  -- the priority of a task is that of its place
  found : (t : TaskRef) → priority_in (own_tasks core) t ≡ option_map (λ (u : Task). u.priority) (own_task core t)
  found t = by (same_core t.core core.id)
    where
      by : (b : Bool) → cond b (slice_get (map (λ (u : Task). u.priority) core.tasks) t.index) None ≡ option_map (λ (u : Task). u.priority) (cond b (slice_get core.tasks t.index) None)
      by true = slice_get-map (λ (u : Task). u.priority) core.tasks t.index
      by false = refl

  pub same-priority : (r : Runner) → priority_of (own_tasks core) r ≡ static_priority core r
  same-priority (Runner.Isr i) = refl
  same-priority (Runner.Task t) = ap (λ (o : Option ℕ). unwrap_or o 0) (found t) ∙ by (own_task core t)
    where
      by : (o : Option Task) → unwrap_or (option_map (λ (u : Task). u.priority) o) 0 ≡ option_map_or (λ (u : Task). u.priority) o 0
      by None = refl
      by (Some u) = refl

  same-own : (t : TaskRef) → is_own_task (own_tasks core) (Runner.Task t) ≡ is_own_runner core (Runner.Task t)
  same-own t = ap (λ (o : Option ℕ). is_some o) (found t) ∙ by (own_task core t)
    where
      by : (o : Option Task) → is_some (option_map (λ (u : Task). u.priority) o) ≡ is_some o
      by None = refl
      by (Some u) = refl

  -- one of the core's tasks is one of its runners, and the other way round
  pub own-runner : (r : Runner) → is_own_task (own_tasks core) r ≡ true → is_own_runner core r ≡ true
  own-runner (Runner.Task t) own = sym (same-own t) ∙ own
  own-runner (Runner.Isr i) own = absurd (false≢true own)

  pub own-listed : (t : TaskRef) → is_own_runner core (Runner.Task t) ≡ true → is_own_task (own_tasks core) (Runner.Task t) ≡ true
  own-listed t own = same-own t ∙ own

  pub all-below : (bound : ℕ) → have_queues bound core.tasks ≡ true → are_below bound (own_tasks core).priorities ≡ true
  all-below bound low = list_all-map (λ (p : ℕ). nat_lt p bound) (λ (u : Task). u.priority) core.tasks ∙ low

  pub few-priorities : length core.tasks ≤ TASKS → length (own_tasks core).priorities ≤ TASKS
  few-priorities few = subst (λ (n : ℕ). n ≤ TASKS) (sym (length-map core.tasks (λ (u : Task). u.priority))) few
