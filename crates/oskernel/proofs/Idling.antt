-- A core that drained has dispatched: nothing follows from its last items.
use Rattle.std.proofs.Common.{◌≡◌, ◌&&◌, ◌||◌, ◌≤◌, ℕ, nat_le, Bool, true, false, cond, not, Option, Some, None, is_none, List, [], ◌∷◌, refl, sym, ap, subst, ◌∙◌, arith}
use Rattle.std.specs.{List.filter, List.list_all, Option.option_map_or, Option.option_or}
use Rattle.std.proofs.lemmas.Bool.{and_parts, cond_both, eq-eqb, false≢true}
use Rattle.std.proofs.{lemmas.Bool.Decides.nat_tests, lemmas.List.Folds.list_all-append, lemmas.Option.none-some, lemmas.Option.same_Some}
use Rattle.osbase.specs.{declared.references.IsrRef.IsrRef, declared.references.TaskRef.TaskRef, declared.references.Runner.Runner, declared.items.Item.Item, declared.marks.Mark.Mark, declared.histories.Job.Job, Phases.is_going, Spins.got_spinlocks, Spins.is_owing}
use Rattle.osbase.specs.History.{History, Took, Printed, course_of, current_job, current_task, first_greatest, giving_way, greater, greatest_ceiling, live_jobs, oldest, oldest_of, open_call, same_job, same_runner}
use Rattle.osbase.specs.Interrupts.{entered_isrs, isr_jobs, oldest_entered}
use Rattle.osbase.proofs.Same.{same_runner-refl, same_runner-true}
use Rattle.osplan.specs.View.{View}
use Rattle.osplan.proofs.Tests.{all-filter}
use Rattle.osjobs.specs.Jobs.{has_suspended_interrupts_in}
use Rattle.osjobs.proofs.Running.{no-entered, none-chosen}
use Rattle.osjobs.specs.Priorities.{held_by_job, highest_of, is_able_in, is_oldest, is_preemptable, level_by, level_of, priority_by, raised_of, static_priority}
use Rattle.osstate.specs.Readings.{best_job, best_task, current_priority, is_able, rows_of, running}
use Rattle.osstate.specs.State.{state_of}
use Rattle.osacts.specs.Acts.{does}
use Rattle.oskernel.specs.Step.{after, enters, goes_to, leaves}
use Rattle.oskernel.proofs.JobLists.{anew-all, greatest-passes, oldest-passes, without-all}

-- ---- the runners of jobs: tasks and ISRs

abbrev is_task_runner : Runner → Bool
is_task_runner (Runner.Task t) = true
is_task_runner (Runner.Isr i) = false

abbrev is_task_job : Job → Bool
is_task_job j = is_task_runner j.runner

abbrev is_isr_job : Job → Bool
is_isr_job j = not (is_task_job j)

all-tasks : (h : History) → list_all is_task_job (live_jobs h) ≡ true
all-tasks [] = refl
all-tasks (e ∷ h) = grind (arith, list_all-append is_task_job (live_jobs h), anew-all is_task_job, without-all is_task_job, all-tasks h)

all-isrs : (h : History) → list_all is_isr_job (isr_jobs h) ≡ true
all-isrs [] = refl
all-isrs (e ∷ h) = grind (arith, list_all-append is_isr_job (isr_jobs h), without-all is_isr_job, all-isrs h)

-- the greatest is among them
among : (p : Job → Bool) (q : Job → ℕ) (js : List Job) (j : Job) → list_all p js ≡ true → first_greatest q js ≡ Some j → p j ≡ true
among p q js j all e = rw e at (greatest-passes p q js all)

-- If all live jobs pass a test, the running job and the best job pass it.
module _ (v : View) (h : History) (p : Job → Bool) (tasks : list_all p (live_jobs h) ≡ true) (isrs : list_all p (isr_jobs h) ≡ true) where
  first-passes : (o q : Option Job) → option_map_or p o true ≡ true → option_map_or p q true ≡ true → option_map_or p (option_or o q) true ≡ true
  first-passes o q e f = grind (arith, e, f)

  entered-passes : (is : List IsrRef) → option_map_or p (oldest_entered is (isr_jobs h)) true ≡ true
  entered-passes [] = refl
  entered-passes (i ∷ is) = oldest-passes p (Runner.Isr i) (isr_jobs h) isrs

  current-passes : (o : Option TaskRef) → option_map_or p (oldest_of o (live_jobs h)) true ≡ true
  current-passes None = refl
  current-passes (Some t) = oldest-passes p (Runner.Task t) (live_jobs h) tasks

  pub running-passes : option_map_or p (running v h) true ≡ true
  running-passes = first-passes (oldest_entered (entered_isrs h) (isr_jobs h)) (current_job h) (entered-passes (entered_isrs h)) (current-passes (current_task h))

  pub best-passes : option_map_or p (best_job v h) true ≡ true
  best-passes =
      let isr = first_greatest (level_by v.own) (isr_jobs h) in
      let task = all-filter p (is_able v h) (live_jobs h) tasks in
      cond_both (has_suspended_interrupts_in (rows_of v.own h) (running v h)) (running v h) (option_or isr (best_task v h)) (λ (o : Option Job). option_map_or p o true ≡ true) (λ locked. running-passes)
      (λ free. first-passes isr (best_task v h) (greatest-passes p (level_by v.own) (isr_jobs h) isrs) (greatest-passes p (current_priority v h) (filter (is_able v h) (live_jobs h)) task))

-- ---- a job stays the best if its value does not fall and another's does not rise

-- the greatest is no less than another choice
greatest-bound : (p q : Job → ℕ) (js : List Job) → option_map_or (λ (i : Job). option_map_or (λ (j : Job). nat_le (p i) (p j)) (first_greatest p js) false) (first_greatest q js) true ≡ true
greatest-bound p q [] = refl
greatest-bound p q (x ∷ js) = grind (arith, nat_tests, greatest-bound p q js)

stays-best : (p q : Job → ℕ) (js : List Job) (j i : Job) → first_greatest p js ≡ Some j → first_greatest q js ≡ Some i → p j ≤ q j → q i ≤ p i → j ≡ i
stays-best p q [] j i e f up down = cc
stays-best p q (x ∷ js) j i e f up down = grind (arith, nat_tests, greatest-bound p q js, greatest-bound q p js, stays-best p q js j i, e, f, up, down)

-- ---- priorities, where a job is raised

abbrev raised_by : (Job → ℕ) → ℕ → (Job → Bool) → Job → ℕ
raised_by base top is_raised j = greater (base j) (cond (is_raised j) top 0)

-- The best job stays the best when others are raised, if it was not raised before and the other choice is not raised
-- now.
raised-best : (base : Job → ℕ) (top : ℕ) (was is : Job → Bool) (js : List Job) (j i : Job) → first_greatest (raised_by base top was) js ≡ Some j → first_greatest (raised_by base top is) js ≡ Some i
    → was j ≡ false → is i ≡ false → j ≡ i
raised-best base top was is js j i e f before now =
    stays-best (raised_by base top was) (raised_by base top is) js j i e f (grind (arith, nat_tests, before)) (grind (arith, nat_tests, now))

-- only the running job is raised
not-raised : (v : View) (way : Option Runner) (o : Option Job) (j : Job) → option_map_or (same_job j) o false ≡ false → option_map_or (same_job j) (raised_of v.own way o) false ≡ false
not-raised v way None j e = refl
not-raised v way (Some i) j e =
    cond_both (is_preemptable v.own i.runner || option_map_or (same_runner i.runner) way false) None (Some i) (λ (o : Option Job). option_map_or (same_job j) o false ≡ false) (λ gives. refl) (λ keeps. e)

-- ---- the best job runs

abbrev BestRuns : View → History → Type 0
BestRuns v h = (j : Job) → best_job v h ≡ Some j → option_map_or (same_job j) (running v h) false ≡ true

-- The best job runs if the core is still going; and no runner gives way any more.
pub record Idle (v : View) (h : History) : Type 0 where
  pub runs : is_going (course_of h) ≡ true → BestRuns v h
  pub stays : giving_way h ≡ None

-- ---- which jobs are able

filtered-all : (p : Job → Bool) (js : List Job) → list_all p (filter p js) ≡ true
filtered-all p [] = refl
filtered-all p (j ∷ js) = grind (arith, filtered-all p js)

abbrev able_jobs : View → History → List Job
able_jobs v h = filter (is_able v h) (live_jobs h)

-- The histories after a runner is entered, and after a switch to a job.
abbrev entering : View → Runner → History → History
entering v r h = does (enters (current_task h) r) v h

abbrev gone_to : View → Option Job → History → History
gone_to v o h = does (goes_to (state_of v h) o) v h

-- A reading that no hook of a task changes is the same after a task is entered.
entered-same : {A : Type 0} (f : History → A) → ((t : TaskRef) (k : History) → f (Printed (Mark.PostTaskHook t) ∷ k) ≡ f k) → ((t : TaskRef) (k : History) → f (Printed (Mark.PreTaskHook t) ∷ k) ≡ f k)
    → (v : View) (t : TaskRef) (h : History) → f (entering v (Runner.Task t) h) ≡ f h
entered-same f post pre v t h = pre t (does (leaves (current_task h)) v h) ∙ by (current_task h)
  where
    by : (o : Option TaskRef) → f (does (leaves o) v h) ≡ f h
    by None = refl
    by (Some u) = post u h

-- The job of a task that is entered is the current one then, and stays the best one of a task.
task-stays : (v : View) (h : History) (j : Job) (t : TaskRef) → best_task v h ≡ Some j → j.runner ≡ Runner.Task t → option_map_or (same_job j) (current_job h) false ≡ false
    → (i : Job) → best_task v (entering v (Runner.Task t) h) ≡ Some i → option_map_or (same_job i) (current_job (entering v (Runner.Task t) h)) false ≡ true
task-stays v h j t best task apart i f = by (option_map_or (same_job i) (current_job next) false) refl
  where
    next : History
    next = entering v (Runner.Task t) h

    jobs : live_jobs next ≡ live_jobs h
    jobs = entered-same live_jobs (λ u k. refl) (λ u k. refl) v t h

    rows : rows_of v.own next ≡ rows_of v.own h
    rows = entered-same (rows_of v.own) (λ u k. refl) (λ u k. refl) v t h

    again : first_greatest (priority_by v.own (live_jobs h) (rows_of v.own h) (raised_of v.own (giving_way next) (current_job next))) (able_jobs v h) ≡ Some i
    again = sym (λ n. first_greatest (priority_by v.own (jobs n) (rows n) (raised_of v.own (giving_way next) (current_job next))) (filter (is_able_in (jobs n) (rows n)) (jobs n))) ∙ f

    -- it is the oldest of its task, which runs next
    runs : option_map_or (same_job j) (current_job next) false ≡ true
    runs =
        let able : is_able v h j ≡ true = among (is_able v h) (current_priority v h) (able_jobs v h) j (filtered-all (is_able v h) (live_jobs h)) best in
        (λ n. option_map_or (same_job j) (oldest (sym task n) (jobs n)) false) ∙ (and_parts (is_oldest (live_jobs h) j) _ able).0

    same : option_map_or (same_job i) (current_job next) false ≡ false → j ≡ i
    same other =
        raised-best (λ (k : Job). greater (static_priority v.own k.runner) (greatest_ceiling (held_by_job (live_jobs h) (rows_of v.own h) k))) (highest_of v.own.tasks)
        (λ (k : Job). option_map_or (same_job k) (raised_of v.own (giving_way h) (current_job h)) false) (λ (k : Job). option_map_or (same_job k) (raised_of v.own (giving_way next) (current_job next)) false)
        (able_jobs v h) j i best again (not-raised v (giving_way h) (current_job h) j apart) (not-raised v (giving_way next) (current_job next) i other)

    by : (b : Bool) → option_map_or (same_job i) (current_job next) false ≡ b → option_map_or (same_job i) (current_job next) false ≡ true
    by true e = e
    by false e = subst (λ (k : Job). option_map_or (same_job k) (current_job next) false ≡ true) (same e) runs

-- ---- who runs then

same-self : (j : Job) → same_job j j ≡ true
same-self j = eq-eqb j.stamp j.stamp refl

-- If the running job has suspended interrupts, it is the best one.
best-is : (v : View) (h : History) → ((i : Job) → option_or (first_greatest (level_by v.own) (isr_jobs h)) (best_task v h) ≡ Some i → option_map_or (same_job i) (running v h) false ≡ true) → BestRuns v h
best-is v h other i =
    cond_both (has_suspended_interrupts_in (rows_of v.own h) (running v h)) (running v h) (option_or (first_greatest (level_by v.own) (isr_jobs h)) (best_task v h))
    (λ (o : Option Job). o ≡ Some i → option_map_or (same_job i) (running v h) false ≡ true) (λ locked e. ap (λ (o : Option Job). option_map_or (same_job i) o false) e ∙ same-self i) (λ free. other i)

-- If the greatest job is a runner's, and no job of the runner is less, it is the runner's oldest.
greatest-oldest : (p : Job → ℕ) (r : Runner) (js : List Job) (j : Job) → first_greatest p js ≡ Some j → j.runner ≡ r → ((i : Job) → i.runner ≡ r → p j ≤ p i) → oldest r js ≡ Some j
greatest-oldest p r [] j e is least = absurd (none-some j e)
greatest-oldest p r (x ∷ js) j e is least =
    let rest : first_greatest p js ≡ Some j → oldest r js ≡ Some j = λ f. greatest-oldest p r js j f is least in
    grind (arith, nat_tests, rest, least x, same_runner-true x.runner r, same_runner-refl r, e, is)

-- an ISR is entered
isr-runs : (v : View) (h : History) (j : Job) (x : IsrRef) → first_greatest (level_by v.own) (isr_jobs h) ≡ Some j → j.runner ≡ Runner.Isr x → BestRuns v (entering v (Runner.Isr x) h)
isr-runs v h j x best own = best-is v (entering v (Runner.Isr x) h) same
  where
    oldest-is : oldest (Runner.Isr x) (isr_jobs h) ≡ Some j
    oldest-is =
        greatest-oldest (level_by v.own) (Runner.Isr x) (isr_jobs h) j best own
        (λ i e. let alike : level_by v.own j ≡ level_by v.own i = ap (level_of v.own) (own ∙ sym e) in omega (arith, alike))

    same : (i : Job) → option_or (first_greatest (level_by v.own) (isr_jobs h)) (best_task v (entering v (Runner.Isr x) h)) ≡ Some i → option_map_or (same_job i) (running v (entering v (Runner.Isr x) h)) false ≡ true
    same i e =
        let is : Some j ≡ Some i = sym (ap (λ (o : Option Job). option_or o (best_task v (entering v (Runner.Isr x) h))) best) ∙ e in
        ap (λ (o : Option Job). option_map_or (same_job i) (option_or o (current_job h)) false) (oldest-is ∙ is) ∙ same-self i

-- If no job of an ISR is live, the current job runs.
current-runs : (v : View) (h : History) → isr_jobs h ≡ [] → running v h ≡ current_job h
current-runs v h none = (λ n. option_or (oldest_entered (entered_isrs h) (none n)) (current_job h)) ∙ ap (λ (o : Option Job). option_or o (current_job h)) (no-entered (entered_isrs h))

-- a task is entered
task-runs : (v : View) (h : History) (j : Job) (t : TaskRef) → isr_jobs h ≡ [] → best_task v h ≡ Some j → j.runner ≡ Runner.Task t → option_map_or (same_job j) (running v h) false ≡ false → BestRuns v (entering v (Runner.Task t) h)
task-runs v h j t none best task apart = best-is v next same
  where
    next : History
    next = entering v (Runner.Task t) h

    none_next : isr_jobs next ≡ []
    none_next = entered-same isr_jobs (λ u k. refl) (λ u k. refl) v t h ∙ none

    same : (i : Job) → option_or (first_greatest (level_by v.own) (isr_jobs next)) (best_task v next) ≡ Some i → option_map_or (same_job i) (running v next) false ≡ true
    same i e =
        ap (λ (o : Option Job). option_map_or (same_job i) o false) (current-runs v next none_next)
        ∙ task-stays v h j t best task (ap (λ (o : Option Job). option_map_or (same_job j) o false) (sym (current-runs v h none)) ∙ apart) i
        (sym (ap (λ (js : List Job). option_or (first_greatest (level_by v.own) js) (best_task v next)) none_next) ∙ e)

-- If the best job does not run, the running one has not suspended interrupts. The best one is an ISR's or, if there is
-- none, a task's.
best-entered : (v : View) (h : History) (j : Job) → best_job v h ≡ Some j → option_map_or (same_job j) (running v h) false ≡ false → BestRuns v (entering v j.runner h)
best-entered v h j best apart =
    cond_both (has_suspended_interrupts_in (rows_of v.own h) (running v h)) (running v h) (option_or (first_greatest (level_by v.own) (isr_jobs h)) (best_task v h)) (λ (o : Option Job). o ≡ Some j → BestRuns v (entering v j.runner h))
    (λ locked e. absurd (false≢true (sym apart ∙ ap (λ (o : Option Job). option_map_or (same_job j) o false) e ∙ same-self j)))
    (λ free. either j.runner (first_greatest (level_by v.own) (isr_jobs h)) refl refl) best
  where
    either : (r : Runner) (o : Option Job) → j.runner ≡ r → first_greatest (level_by v.own) (isr_jobs h) ≡ o → option_or o (best_task v h) ≡ Some j → BestRuns v (entering v r h)
    either (Runner.Isr x) (Some k) is f g = isr-runs v h j x (f ∙ g) is
    either (Runner.Task t) None is f g = task-runs v h j t (none-chosen (level_by v.own) (isr_jobs h) f) g is apart
    either (Runner.Task t) (Some k) is f g = absurd (false≢true (rw is at (among is_isr_job (level_by v.own) (isr_jobs h) j (all-isrs h) (f ∙ g))))
    either (Runner.Isr x) None is f g = absurd (false≢true (rw is at (among is_task_job (current_priority v h) (able_jobs v h) j (all-filter is_task_job (is_able v h) (live_jobs h) (all-tasks h)) g)))

idle-gone : (v : View) (h : History) → BestRuns v (gone_to v (best_job v h) h)
idle-gone v h = by (best_job v h) refl
  where
    by : (o : Option Job) → best_job v h ≡ o → BestRuns v (gone_to v o h)
    by None e = λ j f. absurd (none-some j (sym e ∙ f))
    by (Some j) e =
        cond_both (option_map_or (same_job j) (running v h) false) h (entering v j.runner h) (BestRuns v)
        (λ runs i f. subst (λ (x : Job). option_map_or (same_job x) (running v h) false ≡ true) (same_Some _ _ (sym e ∙ f)) runs) (best-entered v h j e)

gone-way : (v : View) (o : Option Job) (h : History) → giving_way (gone_to v o h) ≡ giving_way h
gone-way v None h = refl
gone-way v (Some j) h = cond_both (option_map_or (same_job j) (running v h) false) h (entering v j.runner h) (λ (k : History). giving_way k ≡ giving_way h) (λ runs. refl) (λ apart. entered j.runner)
  where
    entered : (r : Runner) → giving_way (entering v r h) ≡ giving_way h
    entered (Runner.Task t) = entered-same giving_way (λ u k. refl) (λ u k. refl) v t h
    entered (Runner.Isr i) = refl

-- A core drains, and switches to its best job unless it is down; the end of the pass changes nothing.
abbrev is_unbound : History → Bool
is_unbound h = is_none (open_call h) && not (is_owing (got_spinlocks h))

pub drained-idle : (v : View) (h : History) → open_call h ≡ None → is_owing (got_spinlocks h) ≡ false → Idle v (after v h Item.Drained)
drained-idle v h none unowed =
    let next : History = Took Item.Drained ∷ h in
    cond_both (is_unbound h && is_going (course_of h)) (gone_to v (best_job v next) next) next (Idle v)
    (λ dispatches. record { runs = λ going. idle-gone v next; stays = gone-way v (best_job v next) next })
    (λ rests. record { runs = λ going. absurd (false≢true (sym rests ∙ λ i. (is_none (none i) && not (unowed i)) && going i)); stays = refl })

-- if the best job runs, a core switches to none
stays : (v : View) (h : History) → BestRuns v h → gone_to v (best_job v h) h ≡ h
stays v h runs = by (best_job v h) refl
  where
    by : (o : Option Job) → best_job v h ≡ o → gone_to v o h ≡ h
    by None e = refl
    by (Some j) e = ap (λ (b : Bool). cond b h (entering v j.runner h)) (runs j e)

pub end-idle : (v : View) (h : History) → Idle v h → after v h Item.PassEnd ≡ Took Item.PassEnd ∷ h
end-idle v h idle =
    cond_both (is_unbound h && is_going (course_of h)) (gone_to v (best_job v next) next) next (λ (k : History). k ≡ next)
    (λ dispatches. stays v next (λ j e. idle.runs (and_parts (is_unbound h) (is_going (course_of h)) dispatches).1 j (same ∙ e))) (λ rests. refl)
  where
    next : History
    next = Took Item.PassEnd ∷ h

    same : best_job v h ≡ best_job v next
    same = ap (λ (way : Option Runner). cond (has_suspended_interrupts_in (rows_of v.own h) (running v h)) (running v h)
        (option_or (first_greatest (level_by v.own) (isr_jobs h)) (first_greatest (priority_by v.own (live_jobs h) (rows_of v.own h) (raised_of v.own way (current_job h))) (filter (is_able v h) (live_jobs h))))) idle.stays
