-- If each task keeps its limit, a core has at most as many live jobs as the limits sum to; the same for its ISRs.
use Rattle.std.proofs.Common.{◌≡◌, ℕ, zero, suc, ◌+◌, ◌≤◌, ◌<◌, nat_le, nat_lt, Bool, true, false, cond, Option, Some, None, List, [], ◌∷◌, ◌++◌, length, length-append, refl, ap, sym, subst, ◌∙◌, arith, sum_by, is_some, IfSome}
use Rattle.std.specs.{List.list_all, List.slice_get, List.All, Option.option_map_or, Option.option_or}
use Rattle.std.proofs.lemmas.Bool.{false≢true, leb-true, ltb-false, ltb-true}
use Rattle.std.proofs.{lemmas.Bool.Decides.nat_tests, lemmas.List.Sums.sum_by-cons, lemmas.List.Elements.All-nil, lemmas.List.Elements.All-cons}
use Rattle.osbase.specs.{declared.references.CoreId.CoreId, declared.references.TaskRef.TaskRef, declared.references.IsrRef.IsrRef, declared.references.Runner.Runner, declared.histories.Job.Job, declared.limits.TheConstants.INTERRUPTS, declared.limits.TheConstants.ISRS}
use Rattle.osbase.specs.History.{same_core, same_isr, same_runner, job_count, oldest, oldest_of}
use Rattle.osbase.specs.Interrupts.{is_pending_among, isr_count, oldest_entered, runner_of_job, without_isr}
use Rattle.osplan.specs.{declared.plans.Core.Core, declared.plans.Task.Task, Limits.most_activations, View.own_isr, View.own_task}
use Rattle.osjobs.specs.{Jobs.IsrState, Jobs.JobState, Jobs.running_among, Priorities.is_extended, Priorities.is_own_runner}
use Rattle.osstate.specs.Readings.{isr_ref}
use Rattle.osstate.specs.Sound.{activation_limit, entered_limit, interrupt_limit, isr_limit}
use Rattle.osbase.proofs.Places.{passes-at}
use Rattle.osbase.proofs.Same.{same_core-true, same_core-refl, same_isr-true, same_runner-refl, same_runner-true, same_task-refl}
use Rattle.osstate.proofs.{Histories.own_isr_place, JobLists.job_count-rest, JobLists.within_append}

abbrev at : CoreId → ℕ → Runner
at core index = Runner.Task (record { core = core; index = index })

-- how many jobs there are of the tasks from this index on
abbrev live_total : CoreId → ℕ → List Task → List Job → ℕ
live_total core i [] js = 0
live_total core i (t ∷ ts) js = job_count (at core i) js + live_total core (suc i) ts js

live_total-none : (core : CoreId) (i : ℕ) (ts : List Task) → live_total core i ts [] ≡ 0
live_total-none core i [] = refl
live_total-none core i (t ∷ ts) = omega (arith, live_total-none core (suc i) ts)

live_total-rest : (core : CoreId) (i : ℕ) (ts : List Task) (j : Job) (js : List Job) → live_total core i ts js ≤ live_total core i ts (j ∷ js)
live_total-rest core i [] j js = omega arith
live_total-rest core i (t ∷ ts) j js = omega (arith, live_total-rest core (suc i) ts j js, job_count-rest (at core i) j js)

job_count-same : (r : Runner) (j : Job) (js : List Job) → same_runner j.runner r ≡ true → job_count r (j ∷ js) ≡ suc (job_count r js)
job_count-same r j js e = rw e

-- a job of one of the tasks makes the sum greater
live_total-more : (core : CoreId) (i k n : ℕ) (ts : List Task) (j : Job) (js : List Job) → n ≡ i + k → k < length ts → j.runner ≡ at core n → suc (live_total core i ts js) ≤ live_total core i ts (j ∷ js)
live_total-more core i k n [] j js e h r = absurd (omega (arith, h))
live_total-more core i zero n (t ∷ ts) j js e h r =
    let here : j.runner ≡ at core i = r ∙ ap (at core) (omega (arith, e)) in
    let same : same_runner j.runner (at core i) ≡ true = subst (λ (q : Runner). same_runner q (at core i) ≡ true) (sym here) (same_task-refl (record { core = core; index = i })) in
    omega (arith, job_count-same (at core i) j js same, live_total-rest core (suc i) ts j js)
live_total-more core i (suc k) n (t ∷ ts) j js e h r =
    omega (arith, live_total-more core (suc i) k n ts j js (omega (arith, e)) (omega (arith, h)) r, job_count-rest (at core i) j js)

-- a runner with a place for a job is one of the tasks
pub own_from_limit : (core : Core) (r : Runner) → 0 < activation_limit core r → (n : ℕ) × (n < length core.tasks) × (r ≡ at core.id n)
own_from_limit core (Runner.Isr i) h = absurd (omega (arith, h))
own_from_limit core (Runner.Task t) h = cases (same_core t.core core.id) refl h
  where
    inside : (xs : List Task) (i : ℕ) → 0 < option_map_or (λ (task : Task). task.activations) (slice_get xs i) 0 → i < length xs
    inside [] i h = absurd (omega (arith, h))
    inside (x ∷ xs) zero h = omega arith
    inside (x ∷ xs) (suc i) h = omega (arith, inside xs i h)

    cases : (b : Bool) → same_core t.core core.id ≡ b → 0 < option_map_or (λ (task : Task). task.activations) (cond b (slice_get core.tasks t.index) None) 0 → (n : ℕ) × (n < length core.tasks) × (Runner.Task t ≡ at core.id n)
    cases true e h = (t.index, inside core.tasks t.index h, ap (λ (c : CoreId). at c t.index) (same_core-true t.core core.id e))
    cases false e h = absurd (omega (arith, h))

-- jobs within the limits are jobs of the tasks
length-live_total : (core : Core) (js : List Job) → ((r : Runner) → job_count r js ≤ activation_limit core r) → length js ≤ live_total core.id 0 core.tasks js
length-live_total core [] within = omega arith
length-live_total core (j ∷ js) within =
    let some : 0 < activation_limit core j.runner = omega (arith, within j.runner, job_count-same j.runner j js (same_runner-refl j.runner)) in
    let own = own_from_limit core j.runner some in
    let rest = length-live_total core js (λ r. omega (arith, within r, job_count-rest r j js)) in
    omega (arith, rest, live_total-more core.id 0 own.0 own.0 core.tasks j js (omega arith) own.1 own.2)

-- if each task has at most as many jobs as its limit, all have at most as many as the limits sum to
live_total-le : (core : CoreId) (i : ℕ) (ts : List Task) (js : List Job) → ((n k : ℕ) (t : Task) → n ≡ i + k → slice_get ts k ≡ Some t → job_count (at core n) js ≤ t.activations) → live_total core i ts js ≤ sum_by (λ (t : Task). t.activations) ts
live_total-le core i [] js within = omega arith
live_total-le core i (t ∷ ts) js within =
    omega (
      arith,
      sum_by-cons (λ (t : Task). t.activations) t ts,
      within i 0 t (omega arith) refl,
      live_total-le core (suc i) ts js (λ n k u e g. within n (suc k) u (omega (arith, e)) g),
    )

-- jobs within the limits are at most as many as the limits sum to
pub length_within : (core : Core) (js : List Job) → ((r : Runner) → job_count r js ≤ activation_limit core r) → length js ≤ sum_by (λ (t : Task). t.activations) core.tasks
length_within core js within =
    omega (arith, length-live_total core js within, live_total-le core.id 0 core.tasks js (λ n k t e g. each n k t e g))
  where
    limit_at : (n : ℕ) (t : Task) → slice_get core.tasks n ≡ Some t → activation_limit core (at core.id n) ≡ t.activations
    limit_at n t g = rw (same_core-refl core.id, g)

    each : (n k : ℕ) (t : Task) → n ≡ 0 + k → slice_get core.tasks k ≡ Some t → job_count (at core.id n) js ≤ t.activations
    each n k t e g =
        let n_is_k : n ≡ k = omega (arith, e) in
        let g' : slice_get core.tasks n ≡ Some t = ap (slice_get core.tasks) n_is_k ∙ g in
        omega (arith, within (at core.id n), limit_at n t g')

-- a runner with a place for a job is an own one
pub own_from_place : (core : Core) (r : Runner) → 0 < activation_limit core r → is_own_runner core r ≡ true
own_from_place core (Runner.Isr i) h = absurd (omega (arith, h))
own_from_place core (Runner.Task t) h = cases (own_task core t) h
  where
    cases : (o : Option Task) → 0 < option_map_or (λ (task : Task). task.activations) o 0 → is_some o ≡ true
    cases None h = absurd (omega (arith, h))
    cases (Some x) h = refl

-- an extended task has one job at a time
pub one-job : (core : Core) (t : TaskRef) (jobs : List Job) → list_all (λ (u : Task). nat_le u.activations (most_activations u.extended)) core.tasks ≡ true → ((r : Runner) → job_count r jobs ≤ activation_limit core r)
    → is_extended core (Runner.Task t) ≡ true → job_count (Runner.Task t) jobs ≤ 1
one-job core t jobs single within extended = by (own_task core t) refl extended (within (Runner.Task t))
  where
    listed : (u : Task) (b : Bool) → cond b (slice_get core.tasks t.index) None ≡ Some u → nat_le u.activations (most_activations u.extended) ≡ true
    listed u true e = passes-at (λ (w : Task). nat_le w.activations (most_activations w.extended)) core.tasks t.index u single e
    listed u false e = cc

    few : (u : Task) → u.extended ≡ true → nat_le u.activations (most_activations u.extended) ≡ true → u.activations ≤ 1
    few u is fits = leb-true u.activations 1 (subst (λ (b : Bool). nat_le u.activations (most_activations b) ≡ true) is fits)

    by : (o : Option Task) → own_task core t ≡ o → option_map_or (λ (u : Task). u.extended) o false ≡ true → job_count (Runner.Task t) jobs ≤ option_map_or (λ (u : Task). u.activations) o 0 → job_count (Runner.Task t) jobs ≤ 1
    by None e is n = absurd (false≢true is)
    by (Some u) e is n = omega (arith, n, few u is (listed u (same_core t.core core.id) e))

-- each live job within such limits is one of the core's own
all_by : (core : Core) (limit : Runner → ℕ) → ((r : Runner) → 0 < limit r → is_own_runner core r ≡ true) → (js : List Job) → ((r : Runner) → job_count r js ≤ limit r) → All (λ (j : Job). is_own_runner core j.runner ≡ true) js
all_by core limit own [] within = All-nil (λ (j : Job). is_own_runner core j.runner ≡ true)
all_by core limit own (j ∷ js) within =
    let some : 0 < limit j.runner = omega (arith, within j.runner, job_count-same j.runner j js (same_runner-refl j.runner)) in
    All-cons (λ (j : Job). is_own_runner core j.runner ≡ true) j js (own j.runner some) (all_by core limit own js (λ r. omega (arith, within r, job_count-rest r j js)))

-- the oldest job of a runner is live
oldest_counted : (r : Runner) (js : List Job) (j : Job) → oldest r js ≡ Some j → 0 < job_count j.runner js
oldest_counted r [] j e = cc
oldest_counted r (x ∷ js) j e = cases (same_runner x.runner r) e (λ later. oldest_counted r js j later)
  where
    cases : (b : Bool) → cond b (Some x) (oldest r js) ≡ Some j → (oldest r js ≡ Some j → 0 < job_count j.runner js) → 0 < job_count j.runner (x ∷ js)
    cases true e rest =
        let same : x ≡ j = cc in
        let first : same_runner x.runner j.runner ≡ true = subst (λ (y : Job). same_runner x.runner y.runner ≡ true) same (same_runner-refl x.runner) in
        omega (arith, job_count-same j.runner x js first)
    cases false e rest = omega (arith, rest e, job_count-rest j.runner x js)

-- the oldest job of the current task is one of the core's own
own_oldest : (core : Core) (current : Option TaskRef) (js : List Job) (j : Job) → ((r : Runner) → job_count r js ≤ activation_limit core r) → oldest_of current js ≡ Some j → is_own_runner core j.runner ≡ true
own_oldest core None js j within e = cc
own_oldest core (Some t) js j within e = own_from_place core j.runner (omega (arith, within j.runner, oldest_counted (Runner.Task t) js j e))

own_current : (core : Core) (current : Option TaskRef) (js : List Job) (o : Option Job) → ((r : Runner) → job_count r js ≤ activation_limit core r) → o ≡ oldest_of current js → IfSome o (λ j. is_own_runner core j.runner ≡ true)
own_current core current js None within e = tt
own_current core current js (Some j) within e = own_oldest core current js j within (sym e)

-- ---- jobs of ISRs

abbrev isr_at : Core → ℕ → Runner
isr_at core n = Runner.Isr (isr_ref core n)

-- how many jobs there are of the first n ISRs
abbrev isr_total : Core → ℕ → List Job → ℕ
isr_total core zero js = 0
isr_total core (suc n) js = job_count (isr_at core n) js + isr_total core n js

isr_total-rest : (core : Core) (n : ℕ) (j : Job) (js : List Job) → isr_total core n js ≤ isr_total core n (j ∷ js)
isr_total-rest core zero j js = omega arith
isr_total-rest core (suc n) j js = omega (arith, isr_total-rest core n j js, job_count-rest (isr_at core n) j js)

-- a job of one of these ISRs makes the sum greater
isr_total-more : (core : Core) (n k : ℕ) (j : Job) (js : List Job) → k < n → j.runner ≡ isr_at core k → suc (isr_total core n js) ≤ isr_total core n (j ∷ js)
isr_total-more core zero k j js h r = absurd (omega (arith, h))
isr_total-more core (suc n) k j js h r = by (nat_lt k n) refl (λ low. isr_total-more core n k j js low r)
  where
    by : (b : Bool) → nat_lt k n ≡ b → (k < n → suc (isr_total core n js) ≤ isr_total core n (j ∷ js))
        → suc (job_count (isr_at core n) js + isr_total core n js) ≤ job_count (isr_at core n) (j ∷ js) + isr_total core n (j ∷ js)
    by true e rest = omega (arith, rest (ltb-true k n e), job_count-rest (isr_at core n) j js)
    by false e rest =
        let last : k ≡ n = grind (arith, nat_tests, e, h) in
        let same : same_runner j.runner (isr_at core n) ≡ true = subst (λ (q : Runner). same_runner q (isr_at core n) ≡ true) (sym (r ∙ ap (isr_at core) last)) (same_runner-refl (isr_at core n)) in
        omega (arith, job_count-same (isr_at core n) j js same, isr_total-rest core n j js)

-- a runner with a limit above 0 is an own ISR
own_from_isr_limit : (most : ℕ) (core : Core) (r : Runner) → 0 < isr_limit most core r → (i : IsrRef) × (r ≡ Runner.Isr i) × (is_some (own_isr core i) ≡ true)
own_from_isr_limit most core (Runner.Task t) h = absurd (omega (arith, h))
own_from_isr_limit most core (Runner.Isr i) h = (i, refl, cases (is_some (own_isr core i)) h)
  where
    cases : (b : Bool) → 0 < cond b most 0 → b ≡ true
    cases true h = refl
    cases false h = absurd (omega (arith, h))

own_from_interrupt : (core : Core) (r : Runner) → 0 < interrupt_limit core r → is_own_runner core r ≡ true
own_from_interrupt core r h =
    let own = own_from_isr_limit 2 core r h in
    ap (is_own_runner core) own.1 ∙ own.2

length-isr_total : (most : ℕ) (core : Core) (js : List Job) → length core.isrs ≤ ISRS → ((r : Runner) → job_count r js ≤ isr_limit most core r) → length js ≤ isr_total core ISRS js
length-isr_total most core [] few within = omega arith
length-isr_total most core (j ∷ js) few within =
    let some : 0 < isr_limit most core j.runner = omega (arith, within j.runner, job_count-same j.runner j js (same_runner-refl j.runner)) in
    let own = own_from_isr_limit most core j.runner some in
    let place = own_isr_place core own.0 own.2 in
    let rest = length-isr_total most core js few (λ r. omega (arith, within r, job_count-rest r j js)) in
    omega (arith, rest, isr_total-more core ISRS own.0.index j js (omega (arith, place.1, few)) (own.1 ∙ ap Runner.Isr place.0))

-- n times `most`
abbrev each_most : ℕ → ℕ → ℕ
each_most most zero = 0
each_most most (suc n) = most + each_most most n

isr_limit-most : (most : ℕ) (core : Core) (r : Runner) → isr_limit most core r ≤ most
isr_limit-most most core (Runner.Task t) = omega arith
isr_limit-most most core (Runner.Isr i) = cases (is_some (own_isr core i))
  where
    cases : (b : Bool) → cond b most 0 ≤ most
    cases true = omega arith
    cases false = omega arith

isr_total-le : (most : ℕ) (core : Core) (n : ℕ) (js : List Job) → ((r : Runner) → job_count r js ≤ isr_limit most core r) → isr_total core n js ≤ each_most most n
isr_total-le most core zero js within = omega arith
isr_total-le most core (suc n) js within = omega (arith, within (isr_at core n), isr_limit-most most core (isr_at core n), isr_total-le most core n js within)

length-isrs : (most : ℕ) (core : Core) (js : List Job) → length core.isrs ≤ ISRS → ((r : Runner) → job_count r js ≤ isr_limit most core r) → length js ≤ each_most most ISRS
length-isrs most core js few within = omega (arith, length-isr_total most core js few within, isr_total-le most core ISRS js within)

-- each ISR has at most two live jobs, so there is a place for one more of an ISR that has fewer
pub interrupt_place : (core : Core) (i : IsrRef) (js : List Job) → length core.isrs ≤ ISRS → ((r : Runner) → job_count r js ≤ interrupt_limit core r) → job_count (Runner.Isr i) js < interrupt_limit core (Runner.Isr i) → length js < INTERRUPTS
interrupt_place core i js few within below =
    let job : Job = record { runner = Runner.Isr i; stamp = 0 } in
    omega (arith, length-isrs 2 core (js ++ job ∷ []) few (within_append (interrupt_limit core) js job within below), length-append js (job ∷ []))

pub all_isrs_own : (core : Core) (js : List Job) → ((r : Runner) → job_count r js ≤ interrupt_limit core r) → All (λ (j : Job). is_own_runner core j.runner ≡ true) js
all_isrs_own core js within = all_by core (interrupt_limit core) (own_from_interrupt core) js within

-- ---- ISRs that were entered

pub isr_count-without : (k i : IsrRef) (xs : List IsrRef) → isr_count k (without_isr i xs) ≤ isr_count k xs
isr_count-without k i [] = omega arith
isr_count-without k i (x ∷ xs) =
    elim (same_isr x i) as (λ b. isr_count k (cond b xs (x ∷ without_isr i xs)) ≤ cond (same_isr x k) (suc (isr_count k xs)) (isr_count k xs)) [
      | true ↦ more (same_isr x k) (isr_count k xs)
      | false ↦ both (same_isr x k) (isr_count k (without_isr i xs)) (isr_count k xs) (isr_count-without k i xs)
    ]
  where
    more : (b : Bool) (n : ℕ) → n ≤ cond b (suc n) n
    more b n = elim b as (λ v. n ≤ cond v (suc n) n) [ true ↦ omega arith | false ↦ omega arith ]

    both : (b : Bool) (m n : ℕ) → m ≤ n → cond b (suc m) m ≤ cond b (suc n) n
    both b m n h = elim b as (λ v. cond v (suc m) m ≤ cond v (suc n) n) [ true ↦ omega arith | false ↦ h ]

-- an ISR that is in the list at most once is not in the list without it
isr_count-none : (i : IsrRef) (xs : List IsrRef) → isr_count i xs ≤ 1 → isr_count i (without_isr i xs) ≤ 0
isr_count-none i [] h = omega arith
isr_count-none i (x ∷ xs) h = by (same_isr x i) refl h (λ few. isr_count-none i xs few)
  where
    by : (b : Bool) → same_isr x i ≡ b → cond b (suc (isr_count i xs)) (isr_count i xs) ≤ 1 → (isr_count i xs ≤ 1 → isr_count i (without_isr i xs) ≤ 0) → isr_count i (cond b xs (x ∷ without_isr i xs)) ≤ 0
    by true e h rest = omega (arith, h)
    by false e h rest =
        let here : isr_count i (x ∷ without_isr i xs) ≡ isr_count i (without_isr i xs) = rw e refl in
        omega (arith, here, rest h)

-- if an ISR is entered now, each ISR is in the list at most once
pub entered_on : (core : Core) (i : IsrRef) (xs : List IsrRef) → is_own_runner core (Runner.Isr i) ≡ true → ((k : IsrRef) → isr_count k xs ≤ entered_limit core k) → (k : IsrRef) → isr_count k (i ∷ without_isr i xs) ≤ entered_limit core k
entered_on core i xs own within k = by (same_isr i k) refl
  where
    by : (b : Bool) → same_isr i k ≡ b → cond b (suc (isr_count k (without_isr i xs))) (isr_count k (without_isr i xs)) ≤ entered_limit core k
    by true e =
        let same : Runner.Isr i ≡ Runner.Isr k = same_runner-true (Runner.Isr i) (Runner.Isr k) e in
        subst (λ (r : Runner). suc (isr_count k (without_isr i xs)) ≤ isr_limit 1 core r) same
        (let one : isr_limit 1 core (Runner.Isr i) ≡ 1 = ap (λ (b : Bool). cond b 1 0) own in
        let low = isr_count-none k xs (omega (arith, within k, isr_limit-most 1 core (Runner.Isr k))) in
        let none : isr_count k (without_isr i xs) ≤ 0 = subst (λ (x : IsrRef). isr_count k (without_isr x xs) ≤ 0) (sym (same_isr-true i k e)) low in
        omega (arith, one, none))
    by false e = omega (arith, within k, isr_count-without k i xs)

-- one job for each of these ISRs
abbrev jobs_of : List IsrRef → List Job
jobs_of [] = []
jobs_of (i ∷ xs) = record { runner = Runner.Isr i; stamp = 0 } ∷ jobs_of xs

length-jobs_of : (xs : List IsrRef) → length (jobs_of xs) ≡ length xs
length-jobs_of [] = refl
length-jobs_of (i ∷ xs) = ap suc (length-jobs_of xs)

count-jobs_of : (core : Core) (xs : List IsrRef) → ((k : IsrRef) → isr_count k xs ≤ entered_limit core k) → (r : Runner) → job_count r (jobs_of xs) ≤ isr_limit 1 core r
count-jobs_of core xs within (Runner.Task t) = none xs
  where
    none : (ys : List IsrRef) → job_count (Runner.Task t) (jobs_of ys) ≤ 0
    none [] = omega arith
    none (y ∷ ys) = none ys
count-jobs_of core xs within (Runner.Isr k) = omega (arith, within k, same xs)
  where
    same : (ys : List IsrRef) → job_count (Runner.Isr k) (jobs_of ys) ≡ isr_count k ys
    same [] = refl
    same (y ∷ ys) = ap (λ (n : ℕ). cond (same_isr y k) (suc n) n) (same ys)

-- there are no more entered ISRs than places
entered_few : (core : Core) (xs : List IsrRef) → length core.isrs ≤ ISRS → ((k : IsrRef) → isr_count k xs ≤ entered_limit core k) → length xs ≤ ISRS
entered_few core xs few within = omega (arith, length-jobs_of xs, length-isrs 1 core (jobs_of xs) few (count-jobs_of core xs within))

pub entered_place : (core : Core) (i : IsrRef) (xs : List IsrRef) → length core.isrs ≤ ISRS → is_own_runner core (Runner.Isr i) ≡ true → ((k : IsrRef) → isr_count k xs ≤ entered_limit core k) → length (without_isr i xs) < ISRS
entered_place core i xs few own within = omega (arith, entered_few core (i ∷ without_isr i xs) few (entered_on core i xs own within))

-- if no job of an ISR is pending, there is room for one
pub not_pending : (core : Core) (i : IsrRef) (s : IsrState) → ((k : IsrRef) → isr_count k s.entered ≤ entered_limit core k) → is_own_runner core (Runner.Isr i) ≡ true → is_pending_among i s.entered s.live ≡ false
    → job_count (Runner.Isr i) s.live < interrupt_limit core (Runner.Isr i)
not_pending core i s within own none =
    let most : isr_limit 1 core (Runner.Isr i) ≡ 1 = ap (λ (b : Bool). cond b 1 0) own in
    let room : interrupt_limit core (Runner.Isr i) ≡ 2 = ap (λ (b : Bool). cond b 2 0) own in
    omega (arith, within i, most, room, ltb-false (isr_count i s.entered) (job_count (Runner.Isr i) s.live) none)

-- ---- the running job

own_entered : (core : Core) (isrs : List IsrRef) (js : List Job) (j : Job) → ((r : Runner) → job_count r js ≤ interrupt_limit core r) → oldest_entered isrs js ≡ Some j → is_own_runner core j.runner ≡ true
own_entered core [] js j within e = cc
own_entered core (i ∷ isrs) js j within e = own_from_interrupt core j.runner (omega (arith, within j.runner, oldest_counted (Runner.Isr i) js j e))

pub own_running : (core : Core) (s : JobState) (o : Option Job) → ((r : Runner) → job_count r s.jobs ≤ activation_limit core r) → ((r : Runner) → job_count r s.isrs.live ≤ interrupt_limit core r) → o ≡ running_among s
    → IfSome o (λ j. is_own_runner core j.runner ≡ true)
own_running core s o within within_isrs e = by (oldest_entered s.isrs.entered s.isrs.live) refl e
  where
    by : (b : Option Job) → oldest_entered s.isrs.entered s.isrs.live ≡ b → o ≡ option_or b (oldest_of s.current s.jobs) → IfSome o (λ j. is_own_runner core j.runner ≡ true)
    by None f e = own_current core s.current s.jobs o within e
    by (Some k) f e = subst (λ (p : Option Job). IfSome p (λ j. is_own_runner core j.runner ≡ true)) (sym e) (own_entered core s.isrs.entered s.isrs.live k within_isrs f)

-- if a tick charges a runner, it is one of the core's own
pub own_charged : (core : Core) (s : JobState) → ((r : Runner) → job_count r s.jobs ≤ activation_limit core r) → ((r : Runner) → job_count r s.isrs.live ≤ interrupt_limit core r) → option_map_or (is_own_runner core) (runner_of_job (running_among s)) true ≡ true
own_charged core s within within_isrs = by (running_among s) (own_running core s (running_among s) within within_isrs refl)
  where
    by : (o : Option Job) → IfSome o (λ j. is_own_runner core j.runner ≡ true) → option_map_or (is_own_runner core) (runner_of_job o) true ≡ true
    by None own = refl
    by (Some j) own = own
