use Rattle.std.proofs.Common.{◌≡◌, ℕ, suc, Bool, true, false, nat_lt, cond, Option, Some, None, List, [], ◌∷◌, ◌++◌, length, refl, ◌∙◌, arith}
use Rattle.std.specs.{List.list_all, Option.option_map_or}
use Rattle.std.proofs.lemmas.Bool.{and_parts, and_from, lt-ltb, ltb-true}
use Rattle.std.proofs.lemmas.List.Folds.{list_all-append}
use Rattle.osbase.specs.{declared.marks.Mark.Mark, declared.references.Runner.Runner, declared.histories.Job.Job}
use Rattle.osbase.specs.History.{Entry, History, Printed, jobs_after, live_jobs, oldest, same_runner, stamped_anew, without_oldest}
use Rattle.osplan.proofs.Tests.{all-weaker}
use Rattle.oskernel.proofs.JobLists.{without-all}
use Rattle.osexamples.specs.Laws.{are_ascending}
use Rattle.osexamples.proofs.laws.live_jobs_ascend.Goals as goal

abbrev is_before : ℕ → Job → Bool
is_before n j = nat_lt j.stamp n

abbrev job : Runner → ℕ → Job
job r n = record { runner = r; stamp = n }

-- all stamps are places in the history so far
later : (n : ℕ) (js : List Job) → list_all (is_before n) js ≡ true → list_all (is_before (suc n)) js ≡ true
later n js all = all-weaker (is_before n) (is_before (suc n)) (λ j before. let lt = ltb-true j.stamp n before in lt-ltb j.stamp (suc n) (omega arith)) js all

push-before : (n : ℕ) (r : Runner) (js : List Job) → list_all (is_before n) js ≡ true → list_all (is_before (suc n)) (js ++ job r n ∷ []) ≡ true
push-before n r js all = list_all-append (is_before (suc n)) js (job r n ∷ []) ∙ and_from (list_all (is_before (suc n)) js) _ (later n js all) (and_from (nat_lt n (suc n)) true (lt-ltb n (suc n) (omega arith)) refl)

push : (n : ℕ) (r : Runner) (js : List Job) → are_ascending js ≡ true → list_all (is_before n) js ≡ true → are_ascending (js ++ job r n ∷ []) ≡ true
push n r [] ascend all = refl
push n r (j ∷ js) ascend all =
    let parts = and_parts _ (are_ascending js) ascend in
    let stamps = and_parts (nat_lt j.stamp n) (list_all (is_before n) js) all in
    and_from _ _
    (list_all-append (λ (k : Job). nat_lt j.stamp k.stamp) js (job r n ∷ []) ∙ and_from (list_all (λ (k : Job). nat_lt j.stamp k.stamp) js) _ parts.0 (and_from (nat_lt j.stamp n) true stamps.0 refl))
    (push n r js parts.1 stamps.1)

without : (r : Runner) (js : List Job) → are_ascending js ≡ true → are_ascending (without_oldest r js) ≡ true
without r [] ascend = refl
without r (j ∷ js) ascend =
    let parts = and_parts _ (are_ascending js) ascend in
    by (same_runner j.runner r) parts.1 (and_from _ _ (without-all (λ (k : Job). nat_lt j.stamp k.stamp) r js parts.0) (without r js parts.1))
  where
    by : (b : Bool) → are_ascending js ≡ true → are_ascending (j ∷ without_oldest r js) ≡ true → are_ascending (cond b js (j ∷ without_oldest r js)) ≡ true
    by true rest kept = rest
    by false rest kept = kept

record IsOrdered (n : ℕ) (js : List Job) : Type 0 where
  pub ascend : are_ascending js ≡ true
  pub before : list_all (is_before n) js ≡ true

-- a runner's oldest job moves to the end, with a stamp that is later than all others
anew : (r : Runner) (n : ℕ) (js : List Job) → IsOrdered n js → IsOrdered (suc n) (stamped_anew r n js)
anew r n js is = by (oldest r js)
  where
    by : (o : Option Job) → IsOrdered (suc n) (option_map_or (λ (j : Job). without_oldest r js ++ record j { stamp = n } ∷ []) o js)
    by None = record { ascend = is.ascend; before = later n js is.before }
    by (Some j) = record {
      ascend = push n j.runner (without_oldest r js) (without r js is.ascend) (without-all (is_before n) r js is.before);
      before = push-before n j.runner (without_oldest r js) (without-all (is_before n) r js is.before);
    }

step : (e : Entry) (n : ℕ) (js : List Job) → IsOrdered n js → IsOrdered (suc n) (jobs_after e n js)
step (Printed (Mark.Activated t)) n js is = record { ascend = push n (Runner.Task t) js is.ascend is.before; before = push-before n (Runner.Task t) js is.before }
step (Printed (Mark.Released t)) n js is = anew (Runner.Task t) n js is
step (Printed (Mark.Terminated t)) n js is = record { ascend = without (Runner.Task t) js is.ascend; before = without-all (is_before (suc n)) (Runner.Task t) js (later n js is.before) }
step e n js is = record { ascend = is.ascend; before = later n js is.before }

ordered : (h : History) → IsOrdered (length h) (live_jobs h)
ordered [] = record { ascend = refl; before = refl }
ordered (e ∷ h) = step e (length h) (live_jobs h) (ordered h)

pub returns : goal.returns
returns c = λ h. (ordered h).ascend
