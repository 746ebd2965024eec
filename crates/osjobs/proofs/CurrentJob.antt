-- The current job after each call: the oldest of the task in the running state.
use Rattle.std.proofs.Common.{◌≡◌, ℕ, Bool, true, false, cond, Option, Some, None, List, [], ◌∷◌, ◌++◌, refl, ap, sym, ◌∙◌}
use Rattle.std.specs.Option.{option_map_or, option_or}
use Rattle.osbase.specs.{declared.references.Runner.Runner, declared.references.TaskRef.TaskRef, declared.histories.Job.Job}
use Rattle.osbase.specs.declared.references.Runner.TheVariants as Runner
use Rattle.osbase.specs.History.{left_by, oldest, oldest_of, same_runner, same_task, stamped_anew, without_oldest}
use Rattle.osbase.proofs.Same.{same_runner-true}
use Rattle.osjobs.specs.Jobs.{is_current}

-- ---- the oldest job of a runner, after a job of this or another one came or went

oldest-push : (r : Runner) (js : List Job) (j : Job) → oldest r (js ++ j ∷ []) ≡ option_or (oldest r js) (cond (same_runner j.runner r) (Some j) None)
oldest-push r [] j = refl
oldest-push r (x ∷ js) j = by (same_runner x.runner r) (oldest-push r js j)
  where
    by : (b : Bool) → oldest r (js ++ j ∷ []) ≡ option_or (oldest r js) (cond (same_runner j.runner r) (Some j) None)
        → cond b (Some x) (oldest r (js ++ j ∷ [])) ≡ option_or (cond b (Some x) (oldest r js)) (cond (same_runner j.runner r) (Some j) None)
    by true rest = refl
    by false rest = rest

oldest-other : (r s : Runner) (js : List Job) → same_runner s r ≡ false → oldest r (without_oldest s js) ≡ oldest r js
oldest-other r s [] differ = refl
oldest-other r s (x ∷ js) differ = by (same_runner x.runner s) refl (oldest-other r s js differ)
  where
    by : (b : Bool) → same_runner x.runner s ≡ b → oldest r (without_oldest s js) ≡ oldest r js → oldest r (cond b js (x ∷ without_oldest s js)) ≡ cond (same_runner x.runner r) (Some x) (oldest r js)
    by true same rest =
        let apart : same_runner x.runner r ≡ false = ap (λ (q : Runner). same_runner q r) (same_runner-true x.runner s same) ∙ differ in
        sym (ap (λ (b : Bool). cond b (Some x) (oldest r js)) apart)
    by false other rest = ap (λ (o : Option Job). cond (same_runner x.runner r) (Some x) o) rest

oldest-runner : (r : Runner) (js : List Job) (j : Job) → oldest r js ≡ Some j → same_runner j.runner r ≡ true
oldest-runner r [] j e = cc
oldest-runner r (x ∷ js) j e = by (same_runner x.runner r) refl e (λ later. oldest-runner r js j later)
  where
    by : (b : Bool) → same_runner x.runner r ≡ b → cond b (Some x) (oldest r js) ≡ Some j → (oldest r js ≡ Some j → same_runner j.runner r ≡ true) → same_runner j.runner r ≡ true
    by true same f rest = let is : x ≡ j = cc in ap (λ (k : Job). same_runner k.runner r) (sym is) ∙ same
    by false other f rest = rest f

or-none : (o : Option Job) → option_or o None ≡ o
or-none None = refl
or-none (Some j) = refl

oldest-anew : (r s : Runner) (stamp : ℕ) (js : List Job) → same_runner s r ≡ false → oldest r js ≡ oldest r (stamped_anew s stamp js)
oldest-anew r s stamp js differ = by (oldest s js) refl
  where
    by : (o : Option Job) → oldest s js ≡ o → oldest r js ≡ oldest r (option_map_or (λ (j : Job). without_oldest s js ++ record j { stamp = stamp } ∷ []) o js)
    by None e = refl
    by (Some j) e =
        let new : Job = record j { stamp = stamp } in
        let apart : same_runner j.runner r ≡ false = ap (λ (q : Runner). same_runner q r) (same_runner-true j.runner s (oldest-runner s js j e)) ∙ differ in
        sym (oldest-other r s js differ)
        ∙ sym (or-none (oldest r (without_oldest s js)))
        ∙ ap (λ (b : Bool). option_or (oldest r (without_oldest s js)) (cond b (Some new) None)) (sym apart)
        ∙ sym (oldest-push r (without_oldest s js) new)

-- ---- the current job, as the code keeps it

pub job-joined : (current : Option TaskRef) (js : List Job) (j : Job) → option_or (oldest_of current js) (cond (is_current current j.runner) (Some j) None) ≡ oldest_of current (js ++ j ∷ [])
job-joined None js j = refl
job-joined (Some u) js j = sym (oldest-push (Runner.Task u) js j)

pub job-left : (t : TaskRef) (current : Option TaskRef) (js : List Job) → cond (is_current current (Runner.Task t)) None (oldest_of current js) ≡ oldest_of (left_by t current) js
job-left t None js = refl
job-left t (Some u) js = by (same_task t u)
  where
    by : (b : Bool) → cond b None (oldest (Runner.Task u) js) ≡ oldest_of (cond b None (Some u)) js
    by true = refl
    by false = refl

pub job-ended : (t : TaskRef) (current : Option TaskRef) (js : List Job) → cond (is_current current (Runner.Task t)) None (oldest_of current js) ≡ oldest_of (left_by t current) (without_oldest (Runner.Task t) js)
job-ended t None js = refl
job-ended t (Some u) js = by (same_task t u) refl
  where
    by : (b : Bool) → same_task t u ≡ b → cond b None (oldest (Runner.Task u) js) ≡ oldest_of (cond b None (Some u)) (without_oldest (Runner.Task t) js)
    by true e = refl
    by false e = sym (oldest-other (Runner.Task u) (Runner.Task t) js e)

pub job-anew : (t : TaskRef) (stamp : ℕ) (current : Option TaskRef) (js : List Job) → cond (is_current current (Runner.Task t)) (oldest (Runner.Task t) (stamped_anew (Runner.Task t) stamp js)) (oldest_of current js) ≡ oldest_of current (stamped_anew (Runner.Task t) stamp js)
job-anew t stamp None js = refl
job-anew t stamp (Some u) js = by (same_task t u) refl
  where
    by : (b : Bool) → same_task t u ≡ b → cond b (oldest (Runner.Task t) (stamped_anew (Runner.Task t) stamp js)) (oldest (Runner.Task u) js) ≡ oldest (Runner.Task u) (stamped_anew (Runner.Task t) stamp js)
    by true e = ap (λ (r : Runner). oldest r (stamped_anew (Runner.Task t) stamp js)) (same_runner-true (Runner.Task t) (Runner.Task u) e)
    by false e = oldest-anew (Runner.Task u) (Runner.Task t) stamp js e
