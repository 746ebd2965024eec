-- All jobs of tasks are of the core's own tasks, and no two of these have the same place. So a task has as many jobs as
-- its place.
use Rattle.std.proofs.Common.{◌≡◌, suc, ◌≤◌, ◌<◌, nat_eq, Bool, true, false, cond, List, [], ◌∷◌, length, refl, ap, sym, ◌∙◌, arith}
use Rattle.std.proofs.lemmas.Bool.{eqb-true, false≢true}
use Rattle.osbase.specs.{declared.references.Runner.Runner, declared.histories.Job.Job, declared.limits.TheConstants.RUNNERS, declared.limits.TheConstants.TASKS, History.job_count, History.same_runner, Sets.slot_of}
use Rattle.osbase.specs.declared.references.Runner.TheVariants as Runner
use Rattle.osbase.proofs.Same.{same_runner-true}
use Rattle.osjobs.specs.{Jobs.Each, Live.place_count, OwnTasks.OwnTasks, OwnTasks.is_own_task}
use Rattle.osjobs.proofs.{Counting.same-place, Keeping.own-task, Keeping.same-index}

same-own : (tasks : OwnTasks) (a b : Runner) → is_own_task tasks a ≡ true → is_own_task tasks b ≡ true → nat_eq (slot_of a) (slot_of b) ≡ true → same_runner a b ≡ true
same-own tasks (Runner.Isr i) b mine yours same = absurd (false≢true mine)
same-own tasks (Runner.Task t) (Runner.Isr i) mine yours same = absurd (false≢true yours)
same-own tasks (Runner.Task t) (Runner.Task u) mine yours same = same-index tasks u t (own-task tasks u yours) (own-task tasks t mine) (eqb-true t.index u.index same)

pub own-count : (tasks : OwnTasks) (r : Runner) (js : List Job) → Each (λ (j : Job). is_own_task tasks j.runner ≡ true) js → is_own_task tasks r ≡ true → place_count (slot_of r) js ≡ job_count r js
own-count tasks r [] all own = refl
own-count tasks r (x ∷ js) all own = by (same_runner x.runner r) refl (nat_eq (slot_of x.runner) (slot_of r)) refl (own-count tasks r js all.1 own)
  where
    by : (a : Bool) → same_runner x.runner r ≡ a → (b : Bool) → nat_eq (slot_of x.runner) (slot_of r) ≡ b → place_count (slot_of r) js ≡ job_count r js
        → cond b (suc (place_count (slot_of r) js)) (place_count (slot_of r) js) ≡ cond a (suc (job_count r js)) (job_count r js)
    by true same true at rest = ap suc rest
    by true same false at rest = absurd (false≢true (sym at ∙ same-place x.runner r same))
    by false other true at rest = absurd (false≢true (sym other ∙ same-own tasks x.runner r all.0 own at))
    by false other false at rest = rest

pub foreign-count : (tasks : OwnTasks) (r : Runner) (js : List Job) → Each (λ (j : Job). is_own_task tasks j.runner ≡ true) js → is_own_task tasks r ≡ false → job_count r js ≡ 0
foreign-count tasks r [] all none = refl
foreign-count tasks r (x ∷ js) all none = by (same_runner x.runner r) refl (foreign-count tasks r js all.1 none)
  where
    by : (b : Bool) → same_runner x.runner r ≡ b → job_count r js ≡ 0 → cond b (suc (job_count r js)) (job_count r js) ≡ 0
    by true same rest = absurd (false≢true (sym none ∙ ap (is_own_task tasks) (sym (same_runner-true x.runner r same)) ∙ all.0))
    by false other rest = rest

pub own-place : (tasks : OwnTasks) (r : Runner) → length tasks.priorities ≤ TASKS → is_own_task tasks r ≡ true → slot_of r < RUNNERS
own-place tasks (Runner.Isr i) few own = absurd (false≢true own)
own-place tasks (Runner.Task t) few own = omega (arith, few, (own-task tasks t own).index)
