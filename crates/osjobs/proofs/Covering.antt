-- Which jobs have to be compared to find the one to run: the best by the configured priorities, the raised job, and the
-- oldest job of each task that holds resources. No other job whose task does not wait beats all of these.
use Rattle.std.proofs.Common.{◌≡◌, ◌⊎◌, inl, inr, ℕ, ◌≤◌, ◌<◌, nat_lt, not, Bool, true, false, cond, IfSome, Option, Some, None, filter, length, List, [], ◌∷◌, refl, ap, sym, subst, ◌∙◌, arith, ◌||◌}
use Rattle.std.specs.{Int.bit_at, List.All, Option.option_map_or}
use Rattle.std.proofs.lemmas.Bool.{eqb-true, cases_eq, cases_lt, false≢true, le-ltb, ltb-false, ltb-true}
use Rattle.std.proofs.{lemmas.List.Elements.All-contains, lemmas.List.Elements.All-nil, lemmas.Nat.Bits.bit_at-zero}
use Rattle.osbase.specs.{declared.references.CoreId.CoreId, declared.references.TaskRef.TaskRef, declared.references.Runner.Runner, declared.histories.Job.Job, declared.histories.HeldResource.HeldResource, declared.limits.TheConstants.TASKS}
use Rattle.osbase.specs.declared.references.Runner.TheVariants as Runner
use Rattle.osbase.specs.History.{first_greatest, is_waiting, greater, greatest_ceiling, oldest, oldest_of, same_job, same_runner}
use Rattle.osbase.proofs.Same.{same_core-true, same_runner-refl, same_runner-true}
use Rattle.oscript.specs.Runners.{Row}
use Rattle.osqueue.specs.declared.ready.Ready.{Ready}
use Rattle.osqueue.specs.Ordered.{IsBest, placed}
use Rattle.osqueue.proofs.Ordering.{all-placed, length-placed, placed-all}
use Rattle.osplan.specs.declared.plans.Core.{Core}
use Rattle.osrunner.specs.Rows.{events_in, held_in, row_at}
use Rattle.osjobs.specs.{Jobs.Ascending, Jobs.Each, Ranking.is_awake_in, Ranking.rank_by}
use Rattle.osjobs.specs.OwnTasks.{OwnTasks, is_own_task, own_tasks, priority_of}
use Rattle.osjobs.specs.Priorities.{highest_of, holds_any, is_preemptable, raised_of, static_priority}
use Rattle.osjobs.specs.Queue.{AreHolders, Beats, IsBestSoFar, IsBetter, OneOf, entry_of, oldest_at, queued}
use Rattle.osjobs.proofs.{Configured.same-priority, Dominating.dominating, Keeping.IsOwn, Keeping.own-task}

-- ---- the greater of two

left-below : (a b : ℕ) → a ≤ greater a b
left-below a b = by (nat_lt a b) refl
  where
    by : (t : Bool) → nat_lt a b ≡ t → a ≤ cond t b a
    by true e = omega (arith, ltb-true a b e)
    by false e = omega arith

right-below : (a b : ℕ) → b ≤ greater a b
right-below a b = by (nat_lt a b) refl
  where
    by : (t : Bool) → nat_lt a b ≡ t → b ≤ cond t b a
    by true e = omega arith
    by false e = omega (arith, ltb-false a b e)

greater-none : (a : ℕ) → greater a 0 ≡ a
greater-none a = ap (λ (t : Bool). cond t 0 a) (le-ltb a 0 (omega arith))

-- ---- what beats what

at-least : (priority : Job → ℕ) (k j : Job) → priority j ≤ priority k → k.stamp ≤ j.stamp → Beats priority k j
at-least priority k j low older = elim (cases_lt (priority j) (priority k)) [
  | inl below ↦ inl below
  | inr above ↦ inr (omega (arith, low, above), older)
]

pub beats-trans : (priority : Job → ℕ) (b k j : Job) → Beats priority b k → Beats priority k j → Beats priority b j
beats-trans priority b k j (inl x) (inl y) = inl (omega (arith, x, y))
beats-trans priority b k j (inl x) (inr y) = inl (omega (arith, x, y.0))
beats-trans priority b k j (inr x) (inl y) = inl (omega (arith, x.0, y))
beats-trans priority b k j (inr x) (inr y) = inr (y.0 ∙ x.0, omega (arith, x.1, y.1))

-- ---- the oldest job of a runner

each-at : (P : Job → Type 0) (js : List Job) (b : Job) → Each P js → OneOf b js → P b
each-at P [] b all one = absurd one
each-at P (j ∷ js) b all (inl same) = subst P same all.0
each-at P (j ∷ js) b all (inr later) = each-at P js b all.1 later

pub record IsOldest (js : List Job) (j o : Job) : Type 0 where
  pub is : oldest j.runner js ≡ Some o
  pub runner : o.runner ≡ j.runner
  pub older : o.stamp ≤ j.stamp

pub oldest-of-one : (js : List Job) (j : Job) → Ascending js → OneOf j js → (o : Job) × IsOldest js j o
oldest-of-one [] j up one = absurd one
oldest-of-one (x ∷ js) j up one = by (same_runner x.runner j.runner) refl one (λ later. oldest-of-one js j up.1 later)
  where
    older : OneOf j (x ∷ js) → x.stamp ≤ j.stamp
    older (inl same) = let e : x.stamp ≡ j.stamp = ap (λ (k : Job). k.stamp) same in omega (arith, e)
    older (inr later) = let h : x.stamp < j.stamp = each-at (λ (k : Job). x.stamp < k.stamp) js j up.0 later in omega (arith, h)

    by : (t : Bool) → same_runner x.runner j.runner ≡ t → OneOf j (x ∷ js) → (OneOf j js → (o : Job) × IsOldest js j o) → (o : Job) × IsOldest (x ∷ js) j o
    by true e there rest =
        (x, record { is = ap (λ (t : Bool). cond t (Some x) (oldest j.runner js)) e; runner = same_runner-true x.runner j.runner e; older = older there })
    by false e (inl same) rest =
        let wrong : same_runner x.runner j.runner ≡ true = ap (λ (k : Job). same_runner x.runner k.runner) (sym same) ∙ same_runner-refl x.runner in
        let never : true ≡ false = sym wrong ∙ e in
        absurd (let bad : ⊥ = cc in bad)
    by false e (inr later) rest =
        let found = rest later in
        (found.0, record { is = ap (λ (t : Bool). cond t (Some x) (oldest j.runner js)) e ∙ found.1.is; runner = found.1.runner; older = found.1.older })

-- ---- lists of jobs

oldest-one : (r : Runner) (js : List Job) (j : Job) → oldest r js ≡ Some j → OneOf j js
oldest-one r [] j e = cc
oldest-one r (x ∷ js) j e = by (same_runner x.runner r) e (λ later. oldest-one r js j later)
  where
    by : (b : Bool) → cond b (Some x) (oldest r js) ≡ Some j → (oldest r js ≡ Some j → OneOf j js) → (x ≡ j) ⊎ OneOf j js
    by true f rest = inl (let same : x ≡ j = cc in same)
    by false f rest = inr (rest f)

module _ (able : Job → Bool) where
  filtered : (js : List Job) (j : Job) → OneOf j js → able j ≡ true → OneOf j (filter able js)
  filtered [] j one a = absurd one
  filtered (x ∷ js) j (inl same) a =
      subst (λ (b : Bool). OneOf j (cond b (x ∷ filter able js) (filter able js))) (sym (ap able same ∙ a)) (inl same)
  filtered (x ∷ js) j (inr later) a = by (able x) (filtered js j later a)
    where
      by : (b : Bool) → OneOf j (filter able js) → OneOf j (cond b (x ∷ filter able js) (filter able js))
      by true rest = inr rest
      by false rest = rest

  each-filtered : (P : Job → Type 0) (js : List Job) → Each P js → Each P (filter able js)
  each-filtered P [] all = tt
  each-filtered P (x ∷ js) all = by (able x) (each-filtered P js all.1)
    where
      by : (b : Bool) → Each P (filter able js) → Each P (cond b (x ∷ filter able js) (filter able js))
      by true rest = (all.0, rest)
      by false rest = rest

  ascending-filtered : (js : List Job) → Ascending js → Ascending (filter able js)
  ascending-filtered [] up = tt
  ascending-filtered (x ∷ js) up = by (able x) (ascending-filtered js up.1)
    where
      by : (b : Bool) → Ascending (filter able js) → Ascending (cond b (x ∷ filter able js) (filter able js))
      by true rest = (each-filtered (λ (k : Job). x.stamp < k.stamp) js up.0, rest)
      by false rest = rest

  each-able : (P : Job → Type 0) (js : List Job) → ((j : Job) → OneOf j js → able j ≡ true → P j) → Each P (filter able js)
  each-able P [] f = tt
  each-able P (x ∷ js) f = by (able x) refl (each-able P js (λ j one a. f j (inr one) a))
    where
      by : (b : Bool) → able x ≡ b → Each P (filter able js) → Each P (cond b (x ∷ filter able js) (filter able js))
      by true e rest = (f x (inl refl) e, rest)
      by false e rest = rest

  -- what holds of each entry in the queue holds of the entry of each job that may run
  entry-in : (tasks : OwnTasks) (P : Ready → Type 0) (js : List Job) (j : Job) → All P (queued tasks able js) → OneOf j js → able j ≡ true → P (entry_of tasks j)
  entry-in tasks P [] j all one a = absurd one
  entry-in tasks P (x ∷ js) j all one a = by (able x) refl all one (λ later rest. entry-in tasks P js j later rest a)
    where
      by : (b : Bool) → able x ≡ b → All P (cond b (placed (entry_of tasks x) (queued tasks able js)) (queued tasks able js)) → (x ≡ j) ⊎ OneOf j js → (All P (queued tasks able js) → OneOf j js → P (entry_of tasks j)) → P (entry_of tasks j)
      by true e all (inl same) rest = subst (λ (k : Job). P (entry_of tasks k)) same (all-placed P (entry_of tasks x) (queued tasks able js) all).0
      by true e all (inr later) rest = rest (all-placed P (entry_of tasks x) (queued tasks able js) all).1 later
      by false e all (inl same) rest = absurd (false≢true (sym e ∙ ap able same ∙ a))
      by false e all (inr later) rest = rest all later

  in-queue : (tasks : OwnTasks) (P : Ready → Type 0) (js : List Job) → ((j : Job) → OneOf j js → able j ≡ true → P (entry_of tasks j)) → All P (queued tasks able js)
  in-queue tasks P [] f = All-nil P
  in-queue tasks P (x ∷ js) f = by (able x) refl (in-queue tasks P js (λ j one a. f j (inr one) a))
    where
      by : (b : Bool) → able x ≡ b → All P (queued tasks able js) → All P (cond b (placed (entry_of tasks x) (queued tasks able js)) (queued tasks able js))
      by true e rest = placed-all P (entry_of tasks x) (queued tasks able js) (f x (inl refl) e) rest
      by false e rest = rest

  -- an empty queue
  none-able : (tasks : OwnTasks) (js : List Job) → queued tasks able js ≡ [] → filter able js ≡ []
  none-able tasks [] e = refl
  none-able tasks (x ∷ js) e = by (able x) e (λ later. none-able tasks js later)
    where
      by : (b : Bool) → cond b (placed (entry_of tasks x) (queued tasks able js)) (queued tasks able js) ≡ [] → (queued tasks able js ≡ [] → filter able js ≡ []) → cond b (x ∷ filter able js) (filter able js) ≡ []
      by true e rest = absurd (omega (arith, length-placed (entry_of tasks x) (queued tasks able js), ap (λ (l : List Ready). length l) e))
      by false e rest = rest e

same-stamp : (js : List Job) (a b : Job) → Ascending js → OneOf a js → OneOf b js → a.stamp ≡ b.stamp → a ≡ b
same-stamp [] a b up one two s = absurd one
same-stamp (x ∷ js) a b up (inl p) (inl q) s = sym p ∙ q
same-stamp (x ∷ js) a b up (inl p) (inr later) s =
    let h : x.stamp < b.stamp = each-at (λ (k : Job). x.stamp < k.stamp) js b up.0 later in
    let e : x.stamp ≡ a.stamp = ap (λ (k : Job). k.stamp) p in
    absurd (omega (arith, h, e, s))
same-stamp (x ∷ js) a b up (inr later) (inl q) s =
    let h : x.stamp < a.stamp = each-at (λ (k : Job). x.stamp < k.stamp) js a up.0 later in
    let e : x.stamp ≡ b.stamp = ap (λ (k : Job). k.stamp) q in
    absurd (omega (arith, h, e, s))
same-stamp (x ∷ js) a b up (inr one) (inr two) s = same-stamp js a b up.1 one two s

-- ---- the jobs to compare

module _ (core : Core) (rows : List Row) (raised : Option Job) (jobs : List Job) (up : Ascending jobs) where
  ceiling : Job → ℕ
  ceiling j = greatest_ceiling (held_in j.runner rows)

  static-below : (j : Job) → static_priority core j.runner ≤ rank_by core rows raised j
  static-below j =
      let base = left-below (static_priority core j.runner) (greatest_ceiling (held_in j.runner rows)) in
      let whole = left-below (greater (static_priority core j.runner) (greatest_ceiling (held_in j.runner rows))) (cond (option_map_or (same_job j) raised false) (highest_of core.tasks) 0) in
      omega (arith, base, whole)

  base-below : (j : Job) → greater (static_priority core j.runner) (greatest_ceiling (held_in j.runner rows)) ≤ rank_by core rows raised j
  base-below j =
      left-below (greater (static_priority core j.runner) (greatest_ceiling (held_in j.runner rows))) (cond (option_map_or (same_job j) raised false) (highest_of core.tasks) 0)

  not-raised : (j : Job) → option_map_or (same_job j) raised false ≡ false → rank_by core rows raised j ≡ greater (static_priority core j.runner) (greatest_ceiling (held_in j.runner rows))
  not-raised j e =
      ap (λ (t : Bool). greater (greater (static_priority core j.runner) (greatest_ceiling (held_in j.runner rows))) (cond t (highest_of core.tasks) 0)) e
      ∙ greater-none (greater (static_priority core j.runner) (greatest_ceiling (held_in j.runner rows)))

  oldest-beats : (j o : Job) → IsOldest jobs j o → option_map_or (same_job j) raised false ≡ false → Beats (rank_by core rows raised) o j
  oldest-beats j o found e =
      let same : greater (static_priority core o.runner) (greatest_ceiling (held_in o.runner rows)) ≡ greater (static_priority core j.runner) (greatest_ceiling (held_in j.runner rows)) = ap (λ (r : Runner). greater (static_priority core r) (greatest_ceiling (held_in r rows))) found.runner in
      at-least (rank_by core rows raised) o j (omega (arith, not-raised j e, same, base-below o)) found.older

  first-beats : (first j : Job) → option_map_or (same_job j) raised false ≡ false → held_in j.runner rows ≡ [] → static_priority core j.runner ≤ static_priority core first.runner → (static_priority core j.runner ≡ static_priority core first.runner → first.stamp ≤ j.stamp) → Beats (rank_by core rows raised) first j
  first-beats first j e none low older =
      let alone : rank_by core rows raised j ≡ static_priority core j.runner = not-raised j e ∙ ap (λ (h : List HeldResource). greater (static_priority core j.runner) (greatest_ceiling h)) none ∙ greater-none (static_priority core j.runner) in
      let most = static-below first in
      elim (cases_lt (static_priority core j.runner) (rank_by core rows raised first)) [
        | inl below ↦ inl (omega (arith, below, alone))
        | inr above ↦ inr (omega (arith, above, alone, most, low), older (omega (arith, above, most, low)))
      ]

-- ---- the best so far

pub owned : (tasks : OwnTasks) (jobs : List Job) (o : Option Job) → Each (λ (j : Job). is_own_task tasks j.runner ≡ true) jobs → IfSome o (λ j. OneOf j jobs) → IfSome o (λ j. is_own_task tasks j.runner ≡ true)
owned tasks jobs None own one = tt
owned tasks jobs (Some j) own one = each-at (λ (k : Job). is_own_task tasks k.runner ≡ true) jobs j own one

pub oldest-own : (tasks : OwnTasks) (jobs : List Job) (r : Runner) → Each (λ (j : Job). is_own_task tasks j.runner ≡ true) jobs → IfSome (oldest r jobs) (λ j. is_own_task tasks j.runner ≡ true)
oldest-own tasks jobs r own = by (oldest r jobs) refl
  where
    by : (o : Option Job) → oldest r jobs ≡ o → IfSome o (λ j. is_own_task tasks j.runner ≡ true)
    by None e = tt
    by (Some j) e = each-at (λ (i : Job). is_own_task tasks i.runner ≡ true) jobs j own (oldest-one r jobs j e)

module _ (core : Core) (rows : List Row) (raised : Option Job) (holders : ℕ) (jobs : List Job) (front : Job) where
  one-of-raised : (best : Job) → IfSome raised (λ j. OneOf j jobs) → raised ≡ Some best → OneOf best jobs
  one-of-raised best all e = subst (λ (o : Option Job). IfSome o (λ j. OneOf j jobs)) e all

  -- no holder is passed yet
  pub begins : (best : Job) → OneOf front jobs → is_awake_in rows front ≡ true → IfSome raised (λ j. OneOf j jobs) → IsBetter (rank_by core rows raised) (is_awake_in rows) front raised best → IsBestSoFar core rows raised holders jobs front best holders
  begins best one able all better = record {
    one = elim better.one [ inl same ↦ subst (λ (j : Job). OneOf j jobs) (sym same) one | inr new ↦ one-of-raised best all new.0 ];
    able = elim better.one [ inl same ↦ ap (is_awake_in rows) same ∙ able | inr new ↦ new.1 ];
    first = better.beats;
    lifted = better.also;
    passed = λ k j bit gone e a. absurd (omega (arith, bit, gone));
  }

  -- one holder more is passed
  pub goes-on : (best chosen : Job) (left rest index : ℕ) → bit_at rest index ≡ 0 → ((k : ℕ) → (k ≡ index → ⊥) → bit_at rest k ≡ bit_at left k)
      → IsBestSoFar core rows raised holders jobs front best left → IsBetter (rank_by core rows raised) (is_awake_in rows) best (oldest_at core jobs index) chosen → IsBestSoFar core rows raised holders jobs front chosen rest
  goes-on best chosen left rest index here others so-far better = record {
    one = elim better.one [ inl same ↦ subst (λ (j : Job). OneOf j jobs) (sym same) so-far.one | inr new ↦ oldest-one _ jobs chosen new.0 ];
    able = elim better.one [ inl same ↦ ap (is_awake_in rows) same ∙ so-far.able | inr new ↦ new.1 ];
    first = beats-trans (rank_by core rows raised) chosen best front better.beats so-far.first;
    lifted = λ j e a. beats-trans (rank_by core rows raised) chosen best j better.beats (so-far.lifted j e a);
    passed = λ k j bit gone e a. elim (cases_eq k index) [
      | inl same ↦ better.also j (ap (oldest_at core jobs) (sym same) ∙ e) a
      | inr other ↦ beats-trans (rank_by core rows raised) chosen best j better.beats (so-far.passed k j bit (sym (others k other) ∙ gone) e a)
    ];
  }

  module _ (best : Job) (up : Ascending jobs) (own : Each (λ (j : Job). is_own_task (own_tasks core) j.runner ≡ true) jobs) (few : length (own_tasks core).priorities ≤ TASKS) (held : AreHolders rows holders) (so-far : IsBestSoFar core rows raised holders jobs front best 0) (lifted-one : IfSome raised (λ j. OneOf j jobs)) (low : (j : Job) → OneOf j jobs → is_awake_in rows j ≡ true → static_priority core j.runner ≤ static_priority core front.runner) (older : (j : Job) → OneOf j jobs → is_awake_in rows j ≡ true → static_priority core j.runner ≡ static_priority core front.runner → front.stamp ≤ j.stamp) where
    when-raised : (j : Job) → OneOf j jobs → is_awake_in rows j ≡ true → (o : Option Job) → raised ≡ o → option_map_or (same_job j) o false ≡ true → Beats (rank_by core rows raised) best j
    when-raised j one able None e is = absurd (false≢true is)
    when-raised j one able (Some r) e is =
        let same : j ≡ r = same-stamp jobs j r up one (one-of-raised r lifted-one e) (eqb-true j.stamp r.stamp is) in
        so-far.lifted j (e ∙ ap (λ (k : Job). Some k) (sym same)) able

    none-held : (held : List HeldResource) → holds_any held ≡ false → held ≡ []
    none-held [] e = refl
    none-held (x ∷ held) e = absurd (false≢true (sym e))

    by-runner : (j : Job) (r : Runner) → j.runner ≡ r → OneOf j jobs → is_awake_in rows j ≡ true → option_map_or (same_job j) raised false ≡ false → is_own_task (own_tasks core) r ≡ true → Beats (rank_by core rows raised) best j
    by-runner j (Runner.Isr i) e one able free is = absurd (false≢true is)
    by-runner j (Runner.Task u) e one able free is = by (holds_any (row_at u.index rows).held) refl
      where
        mine : IsOwn (own_tasks core) u
        mine = own-task (own_tasks core) u is

        at-task : Runner.Task (let t : TaskRef = record { core = core.id; index = u.index } in t) ≡ j.runner
        at-task = ap (λ (c : CoreId). Runner.Task (let t : TaskRef = record { core = c; index = u.index } in t)) (sym (same_core-true u.core core.id mine.here)) ∙ sym e

        by : (b : Bool) → holds_any (row_at u.index rows).held ≡ b → Beats (rank_by core rows raised) best j
        by false h =
            let none : held_in j.runner rows ≡ [] = ap (λ (r : Runner). held_in r rows) e ∙ none-held (row_at u.index rows).held h in
            beats-trans (rank_by core rows raised) best front j so-far.first (first-beats core rows raised jobs up front j free none (low j one able) (older j one able))
        by true h =
            let found = oldest-of-one jobs j up one in
            let is-oldest : oldest_at core jobs u.index ≡ Some found.0 = ap (λ (r : Runner). oldest r jobs) at-task ∙ found.1.is in
            let able-o : is_awake_in rows found.0 ≡ true = ap (λ (r : Runner). not (is_waiting (events_in r rows))) found.1.runner ∙ able in
            beats-trans (rank_by core rows raised) best found.0 j (so-far.passed u.index found.0 (held.each u.index (omega (arith, mine.index, few)) h) (bit_at-zero u.index) is-oldest able-o) (oldest-beats core rows raised jobs up j found.0 found.1 free)

    covered : (j : Job) → OneOf j jobs → is_awake_in rows j ≡ true → Beats (rank_by core rows raised) best j
    covered j one able = by (option_map_or (same_job j) raised false) refl
      where
        by : (b : Bool) → option_map_or (same_job j) raised false ≡ b → Beats (rank_by core rows raised) best j
        by true e = when-raised j one able raised refl e
        by false e = by-runner j j.runner refl one able e (each-at (λ (k : Job). is_own_task (own_tasks core) k.runner ≡ true) jobs j own one)

    pub ends : Some best ≡ first_greatest (rank_by core rows raised) (filter (is_awake_in rows) jobs)
    ends =
        sym (dominating (rank_by core rows raised) (filter (is_awake_in rows) jobs) best (ascending-filtered (is_awake_in rows) jobs up) (filtered (is_awake_in rows) jobs best so-far.one so-far.able) (each-able (is_awake_in rows) (Beats (rank_by core rows raised) best) jobs covered))

-- ---- the front of the queue

module _ (core : Core) (rows : List Row) (jobs : List Job) (x : Ready) (best : IsBest x (queued (own_tasks core) (is_awake_in rows) jobs)) where
  -- the entry is of a live job that may run, with its task's priority
  record IsEntry (y : Ready) : Type 0 where
    one : OneOf y.job jobs
    able : is_awake_in rows y.job ≡ true
    priority : y.priority ≡ static_priority core y.job.runner

  front-entry : IsEntry x
  front-entry =
      All-contains IsEntry (queued (own_tasks core) (is_awake_in rows) jobs) x (in-queue (is_awake_in rows) (own_tasks core) IsEntry jobs (λ j one a. record { one = one; able = a; priority = same-priority core j.runner })) best.there

  pub front-one : OneOf x.job jobs
  front-one = front-entry.one

  pub front-able : is_awake_in rows x.job ≡ true
  front-able = front-entry.able

  pub front-low : (j : Job) → OneOf j jobs → is_awake_in rows j ≡ true → static_priority core j.runner ≤ static_priority core x.job.runner
  front-low j one a =
      let h : priority_of (own_tasks core) j.runner ≤ x.priority = entry-in (is_awake_in rows) (own_tasks core) (λ (y : Ready). y.priority ≤ x.priority) jobs j best.greatest one a in
      omega (arith, h, same-priority core j.runner, front-entry.priority)

  pub front-older : (j : Job) → OneOf j jobs → is_awake_in rows j ≡ true → static_priority core j.runner ≡ static_priority core x.job.runner → x.job.stamp ≤ j.stamp
  front-older j one a e =
      entry-in (is_awake_in rows) (own_tasks core) (λ (y : Ready). y.priority ≡ x.priority → x.job.stamp ≤ y.job.stamp) jobs j best.oldest one a (same-priority core j.runner ∙ e ∙ sym front-entry.priority)

pub none-best : (core : Core) (rows : List Row) (raised : Option Job) (jobs : List Job) → queued (own_tasks core) (is_awake_in rows) jobs ≡ [] → None ≡ first_greatest (rank_by core rows raised) (filter (is_awake_in rows) jobs)
none-best core rows raised jobs e = sym (ap (first_greatest (rank_by core rows raised)) (none-able (is_awake_in rows) (own_tasks core) jobs e))

-- ---- what is asked of the raised job

pub raised-one : (core : Core) (way : Option Runner) (current : Option TaskRef) (js : List Job) → IfSome (raised_of core way (oldest_of current js)) (λ j. OneOf j js)
raised-one core way None js = tt
raised-one core way (Some t) js = by (oldest (Runner.Task t) js) refl
  where
    chosen : (b : Bool) (j : Job) → OneOf j js → IfSome (cond b None (Some j)) (λ k. OneOf k js)
    chosen true j one = tt
    chosen false j one = one

    by : (o : Option Job) → oldest (Runner.Task t) js ≡ o → IfSome (raised_of core way o) (λ j. OneOf j js)
    by None e = tt
    by (Some j) e = chosen (is_preemptable core j.runner || option_map_or (same_runner j.runner) way false) j (oldest-one (Runner.Task t) js j e)

pub own-one : (tasks : OwnTasks) (jobs : List Job) (j : Job) → Each (λ (k : Job). is_own_task tasks k.runner ≡ true) jobs → OneOf j jobs → is_own_task tasks j.runner ≡ true
own-one tasks jobs j own one = each-at (λ (k : Job). is_own_task tasks k.runner ≡ true) jobs j own one
