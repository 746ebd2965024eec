-- Lists of jobs: how many are a runner's, after one was added or taken out.
use Rattle.std.proofs.Common.{◌≡◌, ℕ, suc, ◌≤◌, ◌<◌, Bool, true, false, cond, Option, Some, None, List, [], ◌∷◌, ◌++◌, refl, ap, sym, subst, ◌∙◌, arith}
use Rattle.std.specs.Option.{option_map_or}
use Rattle.osbase.specs.{declared.references.Runner.Runner, declared.histories.Job.Job}
use Rattle.osbase.specs.History.{same_runner, without_oldest, job_count, oldest, stamped_anew}
use Rattle.osbase.proofs.Same.{same_runner-true}

-- one job more counts for its runner
pub job_count-append : (r : Runner) (js : List Job) (j : Job) → job_count r (js ++ j ∷ []) ≡ cond (same_runner j.runner r) (suc (job_count r js)) (job_count r js)
job_count-append r [] j = refl
job_count-append r (x ∷ js) j =
    elim (same_runner x.runner r) as (λ b. cond b (suc (job_count r (js ++ j ∷ []))) (job_count r (js ++ j ∷ [])) ≡ cond (same_runner j.runner r) (suc (cond b (suc (job_count r js)) (job_count r js))) (cond b (suc (job_count r js)) (job_count r js))) [
      | true ↦ ap suc (job_count-append r js j) ∙ swap_suc (same_runner j.runner r) (job_count r js)
      | false ↦ job_count-append r js j
    ]
  where
    swap_suc : (b : Bool) (n : ℕ) → suc (cond b (suc n) n) ≡ cond b (suc (suc n)) (suc n)
    swap_suc b n = elim b as (λ v. suc (cond v (suc n) n) ≡ cond v (suc (suc n)) (suc n)) [ true ↦ refl | false ↦ refl ]

-- a list with one job less has no more of any runner
pub job_count-without_oldest : (r q : Runner) (js : List Job) → job_count r (without_oldest q js) ≤ job_count r js
job_count-without_oldest r q [] = omega arith
job_count-without_oldest r q (x ∷ js) =
    elim (same_runner x.runner q) as (λ b. job_count r (cond b js (x ∷ without_oldest q js)) ≤ cond (same_runner x.runner r) (suc (job_count r js)) (job_count r js)) [
      | true ↦ more (same_runner x.runner r) (job_count r js)
      | false ↦ both (same_runner x.runner r) (job_count r (without_oldest q js)) (job_count r js) (job_count-without_oldest r q js)
    ]
  where
    more : (b : Bool) (n : ℕ) → n ≤ cond b (suc n) n
    more b n = elim b as (λ v. n ≤ cond v (suc n) n) [ true ↦ omega arith | false ↦ omega arith ]

    both : (b : Bool) (m n : ℕ) → m ≤ n → cond b (suc m) m ≤ cond b (suc n) n
    both b m n h = elim b as (λ v. cond v (suc m) m ≤ cond v (suc n) n) [ true ↦ omega arith | false ↦ h ]

-- the one that was taken out counts for its runner
job_count-oldest : (r q : Runner) (js : List Job) (j : Job) → oldest q js ≡ Some j → job_count r js ≡ cond (same_runner j.runner r) (suc (job_count r (without_oldest q js))) (job_count r (without_oldest q js))
job_count-oldest r q [] j e = cc
job_count-oldest r q (x ∷ js) j e = cases (same_runner x.runner q) e (λ later. job_count-oldest r q js j later)
  where
    turned : (a b : Bool) (n : ℕ) → cond a (suc (cond b (suc n) n)) (cond b (suc n) n) ≡ cond b (suc (cond a (suc n) n)) (cond a (suc n) n)
    turned true true n = refl
    turned true false n = refl
    turned false true n = refl
    turned false false n = refl

    cases : (b : Bool) → cond b (Some x) (oldest q js) ≡ Some j → (oldest q js ≡ Some j → job_count r js ≡ cond (same_runner j.runner r) (suc (job_count r (without_oldest q js))) (job_count r (without_oldest q js)))
        → job_count r (x ∷ js) ≡ cond (same_runner j.runner r) (suc (job_count r (cond b js (x ∷ without_oldest q js)))) (job_count r (cond b js (x ∷ without_oldest q js)))
    cases true e rest = ap (λ (y : Job). cond (same_runner y.runner r) (suc (job_count r js)) (job_count r js)) (let same : x ≡ j = cc in same)
    cases false e rest =
        ap (λ (n : ℕ). cond (same_runner x.runner r) (suc n) n) (rest e) ∙ turned (same_runner x.runner r) (same_runner j.runner r) (job_count r (without_oldest q js))

-- with a new stamp no runner has more or fewer
pub job_count-stamped_anew : (r q : Runner) (stamp : ℕ) (js : List Job) → job_count r (stamped_anew q stamp js) ≡ job_count r js
job_count-stamped_anew r q stamp js = cases (oldest q js) refl
  where
    cases : (o : Option Job) → oldest q js ≡ o → job_count r (option_map_or (λ (j : Job). without_oldest q js ++ record j { stamp = stamp } ∷ []) o js) ≡ job_count r js
    cases None e = refl
    cases (Some j) e = job_count-append r (without_oldest q js) (record j { stamp = stamp }) ∙ sym (job_count-oldest r q js j e)

-- a list has no fewer of any runner than its rest
pub job_count-rest : (r : Runner) (j : Job) (js : List Job) → job_count r js ≤ job_count r (j ∷ js)
job_count-rest r j js = elim (same_runner j.runner r) as (λ v. job_count r js ≤ cond v (suc (job_count r js)) (job_count r js)) [ true ↦ omega arith | false ↦ omega arith ]

-- jobs within the limits stay within them with one more of a runner that was below its limit
pub within_append : (limit : Runner → ℕ) (js : List Job) (j : Job) → ((r : Runner) → job_count r js ≤ limit r) → job_count j.runner js < limit j.runner → (r : Runner) → job_count r (js ++ j ∷ []) ≤ limit r
within_append limit js j within below r =
    subst (λ (n : ℕ). n ≤ limit r) (sym (job_count-append r js j)) (cases (same_runner j.runner r) refl)
  where
    cases : (b : Bool) → same_runner j.runner r ≡ b → cond b (suc (job_count r js)) (job_count r js) ≤ limit r
    cases true e = subst (λ (q : Runner). suc (job_count q js) ≤ limit q) (same_runner-true j.runner r e) (omega (arith, below))
    cases false e = within r
