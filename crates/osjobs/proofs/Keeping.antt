-- What the queue of a core's jobs and the tasks that hold resources are after each call.
use Rattle.std.proofs.Common.{◌≡◌, ℕ, zero, suc, ◌≤◌, ◌<◌, nat_eq, nat_lt, Bool, true, false, cond, not, IfSome, Option, Some, None, is_some, option_map, unwrap_or, List, [], ◌∷◌, ◌++◌, length, drop, refl, ap, sym, subst, ◌∙◌, arith, get_or-set_same, length-set, length-append, replicate}
use Rattle.std.specs.{Int.bit_at, Option.option_map_or}
use Rattle.std.specs.List.{All, Contains, slice_get, slice_set}
use Rattle.std.proofs.lemmas.Bool.{and_from, eq-eqb, eqb-true, false≢true, ltb-true}
use Rattle.std.proofs.{lemmas.List.get_or-replicate, lemmas.List.length-replicate, lemmas.List.Elements.All-contains_itself, lemmas.Option.slice_get_within}
use Rattle.osbase.specs.{declared.references.CoreId.CoreId, declared.references.TaskRef.TaskRef, declared.references.Runner.Runner, declared.histories.Job.Job, declared.histories.HeldResource.HeldResource, declared.limits.TheConstants.RUNNERS, declared.limits.TheConstants.TASKS, Sets.slot_of}
use Rattle.osbase.specs.declared.references.Runner.TheVariants as Runner
use Rattle.osbase.specs.History.{is_waiting, job_count, oldest, same_core, same_runner, same_task, stamped_anew, without_oldest}
use Rattle.osbase.proofs.{Same.same_core-true, Same.same_core-refl, Same.same_runner-true, Places.passes-at}
use Rattle.oscript.specs.Runners.{Row, first_row, holding}
use Rattle.osqueue.specs.declared.ready.Ready.{Ready}
use Rattle.osqueue.specs.Ordered.{ComesBefore, is_same, placed, without}
use Rattle.osqueue.proofs.Ordering.{all-placed, is-apart, without-placed}
use Rattle.osrunner.specs.Rows.{row_at, row_in, with_row}
use Rattle.osjobs.specs.{Jobs.Ascending, Jobs.Each, Priorities.holds_any, Live.IsKept, Ranking.is_awake_in}
use Rattle.osjobs.specs.OwnTasks.{OwnTasks, are_below, is_own_task, priority_in, priority_of}
use Rattle.osjobs.specs.Queue.{AreHolders, AreReady, dequeued, enqueued, entry_of, queued}
use Rattle.osjobs.proofs.Queued.{length-queued, queued-all, queued-less, queued-more}
use Rattle.osjobs.proofs.Stamps.{each-less, each-push, each-weaker}

-- ---- each of some jobs

pub each-of : (P : Job → Type 0) (r : Runner) (js : List Job) (j : Job) → Each P js → oldest r js ≡ Some j → P j
each-of P r [] j all e = cc
each-of P r (x ∷ js) j all e = by (same_runner x.runner r) e (λ later. each-of P r js j all.1 later)
  where
    by : (b : Bool) → cond b (Some x) (oldest r js) ≡ Some j → (oldest r js ≡ Some j → P j) → P j
    by true f rest = let same : x ≡ j = cc in subst P same all.0
    by false f rest = rest f

length-less : (r : Runner) (js : List Job) → length (without_oldest r js) ≤ length js
length-less r [] = omega arith
length-less r (x ∷ js) = by (same_runner x.runner r) (length-less r js)
  where
    by : (b : Bool) → length (without_oldest r js) ≤ length js → length (cond b js (x ∷ without_oldest r js)) ≤ suc (length js)
    by true rest = omega arith
    by false rest = omega (arith, rest)

shorter : (r : Runner) (js : List Job) (j : Job) → oldest r js ≡ Some j → suc (length (without_oldest r js)) ≡ length js
shorter r [] j e = cc
shorter r (x ∷ js) j e = by (same_runner x.runner r) e (λ later. shorter r js j later)
  where
    by : (b : Bool) → cond b (Some x) (oldest r js) ≡ Some j → (oldest r js ≡ Some j → suc (length (without_oldest r js)) ≡ length js) → suc (length (cond b js (x ∷ without_oldest r js))) ≡ suc (length js)
    by true f rest = refl
    by false f rest = ap suc (rest f)

none-less : (r : Runner) (js : List Job) → oldest r js ≡ None → without_oldest r js ≡ js
none-less r [] e = refl
none-less r (x ∷ js) e = by (same_runner x.runner r) e (λ later. none-less r js later)
  where
    by : (b : Bool) → cond b (Some x) (oldest r js) ≡ None → (oldest r js ≡ None → without_oldest r js ≡ js) → cond b js (x ∷ without_oldest r js) ≡ x ∷ js
    by true f rest = cc
    by false f rest = ap (λ (l : List Job). x ∷ l) (rest f)

-- ---- no other job of a runner

none-of : (r : Runner) (js : List Job) → job_count r js ≤ 0 → Each (λ (j : Job). same_runner j.runner r ≡ false) js
none-of r [] few = tt
none-of r (x ∷ js) few = by (same_runner x.runner r) refl few (λ later. none-of r js later)
  where
    by : (b : Bool) → same_runner x.runner r ≡ b → cond b (suc (job_count r js)) (job_count r js) ≤ 0 → (job_count r js ≤ 0 → Each (λ (j : Job). same_runner j.runner r ≡ false) js) → (same_runner x.runner r ≡ false) × Each (λ (j : Job). same_runner j.runner r ≡ false) js
    by true e h rest = absurd (omega (arith, h))
    by false e h rest = (e, rest h)

pub others-of : (r : Runner) (js : List Job) → job_count r js ≤ 1 → Each (λ (j : Job). same_runner j.runner r ≡ false) (without_oldest r js)
others-of r [] few = tt
others-of r (x ∷ js) few = by (same_runner x.runner r) refl few (λ later. others-of r js later)
  where
    by : (b : Bool) → same_runner x.runner r ≡ b → cond b (suc (job_count r js)) (job_count r js) ≤ 1 → (job_count r js ≤ 1 → Each (λ (j : Job). same_runner j.runner r ≡ false) (without_oldest r js)) → Each (λ (j : Job). same_runner j.runner r ≡ false) (cond b js (x ∷ without_oldest r js))
    by true e h rest = none-of r js (omega (arith, h))
    by false e h rest = (e, rest h)

-- ---- the queue for other tests

queued-agree : (tasks : OwnTasks) (a b : Job → Bool) (js : List Job) → Each (λ (j : Job). a j ≡ b j) js → queued tasks a js ≡ queued tasks b js
queued-agree tasks a b [] same = refl
queued-agree tasks a b (j ∷ js) same =
    ap (λ (t : Bool). cond t (placed (entry_of tasks j) (queued tasks a js)) (queued tasks a js)) same.0
    ∙ ap (λ (q : List Ready). cond (b j) (placed (entry_of tasks j) q) q) (queued-agree tasks a b js same.1)

-- if a runner has at most one job, which `a` does not pass, the queue by `a` is the queue by `b` without this job
queued-quiet : (tasks : OwnTasks) (a b : Job → Bool) (r : Runner) (js : List Job) → Each (λ (j : Job). same_runner j.runner r ≡ true → a j ≡ false) js → Each (λ (j : Job). same_runner j.runner r ≡ false → a j ≡ b j) js → job_count r js ≤ 1 → queued tasks a js ≡ queued tasks b (without_oldest r js)
queued-quiet tasks a b r [] quiet same few = refl
queued-quiet tasks a b r (x ∷ js) quiet same few =
    by (same_runner x.runner r) refl few (λ later. queued-quiet tasks a b r js quiet.1 same.1 later)
  where
    agree : (ks : List Job) → Each (λ (j : Job). same_runner j.runner r ≡ false) ks → Each (λ (j : Job). same_runner j.runner r ≡ false → a j ≡ b j) ks → Each (λ (j : Job). a j ≡ b j) ks
    agree [] out in-other = tt
    agree (k ∷ ks) out in-other = (in-other.0 out.0, agree ks out.1 in-other.1)

    by : (t : Bool) → same_runner x.runner r ≡ t → cond t (suc (job_count r js)) (job_count r js) ≤ 1 → (job_count r js ≤ 1 → queued tasks a js ≡ queued tasks b (without_oldest r js)) → queued tasks a (x ∷ js) ≡ queued tasks b (cond t js (x ∷ without_oldest r js))
    by true e h rest =
        ap (λ (u : Bool). cond u (placed (entry_of tasks x) (queued tasks a js)) (queued tasks a js)) (quiet.0 e)
        ∙ queued-agree tasks a b js (agree js (none-of r js (omega (arith, h))) same.1)
    by false e h rest =
        ap (λ (u : Bool). cond u (placed (entry_of tasks x) (queued tasks a js)) (queued tasks a js)) (same.0 e)
        ∙ ap (λ (q : List Ready). cond (b x) (placed (entry_of tasks x) q) q) (rest h)

-- ---- a job taken out of the queue, and one put in

apart-from : (tasks : OwnTasks) (able : Job → Bool) (j : Job) (js : List Job) → Each (λ (k : Job). k.stamp ≡ j.stamp → ⊥) js → All (λ (y : Ready). is_same (entry_of tasks j) y ≡ false) (queued tasks able js)
apart-from tasks able j js all =
    queued-all tasks able (λ (y : Ready). is_same (entry_of tasks j) y ≡ false) js (each-weaker (λ (k : Job). k.stamp ≡ j.stamp → ⊥) (λ (k : Job). is_same (entry_of tasks j) (entry_of tasks k) ≡ false) js (λ k differ. is-apart (entry_of tasks j) (entry_of tasks k) (λ p s. differ (sym s))) all)

others-apart : (r : Runner) (js : List Job) (j : Job) → Ascending js → oldest r js ≡ Some j → Each (λ (k : Job). k.stamp ≡ j.stamp → ⊥) (without_oldest r js)
others-apart r [] j up e = cc
others-apart r (x ∷ js) j up e = by (same_runner x.runner r) e (λ later. others-apart r js j up.1 later)
  where
    by : (b : Bool) → cond b (Some x) (oldest r js) ≡ Some j → (oldest r js ≡ Some j → Each (λ (k : Job). k.stamp ≡ j.stamp → ⊥) (without_oldest r js)) → Each (λ (k : Job). k.stamp ≡ j.stamp → ⊥) (cond b js (x ∷ without_oldest r js))
    by true f rest =
        let same : x ≡ j = cc in
        let s : x.stamp ≡ j.stamp = ap (λ (k : Job). k.stamp) same in
        each-weaker (λ (k : Job). x.stamp < k.stamp) (λ (k : Job). k.stamp ≡ j.stamp → ⊥) js (λ k newer e. omega (arith, newer, e, s)) up.0
    by false f rest =
        let newer : x.stamp < j.stamp = each-of (λ (k : Job). x.stamp < k.stamp) r js j up.0 f in
        ((λ s. omega (arith, s, newer)), rest f)

pub dequeued-less : (tasks : OwnTasks) (able : Job → Bool) (r : Runner) (js : List Job) → Ascending js → dequeued tasks able (oldest r js) (queued tasks able js) ≡ queued tasks able (without_oldest r js)
dequeued-less tasks able r js up = by (oldest r js) refl
  where
    taken : (j : Job) → oldest r js ≡ Some j → (b : Bool) → able j ≡ b → cond b (without (entry_of tasks j) (queued tasks able js)) (queued tasks able js) ≡ queued tasks able (without_oldest r js)
    taken j e true t =
        ap (without (entry_of tasks j)) (queued-less tasks able r js j up e ∙ ap (λ (b : Bool). cond b (placed (entry_of tasks j) (queued tasks able (without_oldest r js))) (queued tasks able (without_oldest r js))) t)
        ∙ without-placed (entry_of tasks j) (queued tasks able (without_oldest r js)) (apart-from tasks able j (without_oldest r js) (others-apart r js j up e))
    taken j e false t =
        queued-less tasks able r js j up e ∙ ap (λ (b : Bool). cond b (placed (entry_of tasks j) (queued tasks able (without_oldest r js))) (queued tasks able (without_oldest r js))) t

    by : (o : Option Job) → oldest r js ≡ o → dequeued tasks able o (queued tasks able js) ≡ queued tasks able (without_oldest r js)
    by None e = ap (queued tasks able) (sym (none-less r js e))
    by (Some j) e = taken j e (able j) refl

placed-there : (x : Ready) (l : List Ready) → Contains (placed x l) x
placed-there x l = (all-placed (Contains (placed x l)) x l (All-contains_itself (placed x l))).0

pub dequeued-there : (tasks : OwnTasks) (able : Job → Bool) (r : Runner) (js : List Job) (j : Job) → Ascending js → oldest r js ≡ Some j → able j ≡ true → Contains (queued tasks able js) (entry_of tasks j)
dequeued-there tasks able r js j up e t =
    let is : queued tasks able js ≡ placed (entry_of tasks j) (queued tasks able (without_oldest r js)) = queued-less tasks able r js j up e ∙ ap (λ (b : Bool). cond b (placed (entry_of tasks j) (queued tasks able (without_oldest r js))) (queued tasks able (without_oldest r js))) t in
    subst (λ (q : List Ready). Contains q (entry_of tasks j)) (sym is) (placed-there (entry_of tasks j) (queued tasks able (without_oldest r js)))

pub all-older : (tasks : OwnTasks) (able : Job → Bool) (js : List Job) (j : Job) → Each (λ (k : Job). k.stamp < j.stamp) js → All (ComesBefore (entry_of tasks j)) (queued tasks able js)
all-older tasks able js j older =
    queued-all tasks able (ComesBefore (entry_of tasks j)) js (each-weaker (λ (k : Job). k.stamp < j.stamp) (λ (k : Job). ComesBefore (entry_of tasks j) (entry_of tasks k)) js (λ k h p. h) older)

-- ---- one row changed

-- what holds of the row as it was, and of the changed row if it is at this place, holds of the row at this place
row-cases : (P : Row → Type 0) (row : Row) (all : List Row) (place k : ℕ) → (k ≡ place → P row) → P (row_at k all) → P (row_at k (slice_set all place row))
row-cases P row [] place k new old = old
row-cases P row (x ∷ all) zero zero new old = new refl
row-cases P row (x ∷ all) zero (suc k) new old = old
row-cases P row (x ∷ all) (suc place) zero new old = old
row-cases P row (x ∷ all) (suc place) (suc k) new old = row-cases P row all place k (λ e. new (ap suc e)) old

module _ (r : Runner) (f : Row → Row) (rows : List Row) where
  -- each job is awake exactly if it was before
  pub same-awake : is_waiting (f (row_in r rows)).events ≡ is_waiting (row_in r rows).events → (j : Job) → is_awake_in (with_row r f rows) j ≡ is_awake_in rows j
  same-awake same j =
      row-cases (λ (row : Row). not (is_waiting row.events) ≡ is_awake_in rows j) (f (row_in r rows)) rows (slot_of r) (slot_of j.runner)
      (λ e. ap (λ (b : Bool). not b) same ∙ ap (λ (k : ℕ). not (is_waiting (row_at k rows).events)) (sym e))
      refl

  pub fewer-holders : (word : ℕ) → AreHolders rows word → (holds_any (f (row_in r rows)).held ≡ true → holds_any (row_in r rows).held ≡ true) → AreHolders (with_row r f rows) word
  fewer-holders word is fewer = record { each = λ k within. row-cases (λ (row : Row). holds_any row.held ≡ true → bit_at word k ≡ 1) (f (row_in r rows)) rows (slot_of r) k (here k within) (is.each k within) }
    where
      here : (k : ℕ) → k < TASKS → k ≡ slot_of r → holds_any (f (row_in r rows)).held ≡ true → bit_at word k ≡ 1
      here k within e h = is.each k within (subst (λ (n : ℕ). holds_any (row_at n rows).held ≡ true) (sym e) (fewer h))

pub raised-holders : (r : Runner) (x : HeldResource) (rows : List Row) (word new : ℕ) → AreHolders rows word → (slot_of r < TASKS → bit_at new (slot_of r) ≡ 1) → ((k : ℕ) → bit_at word k ≡ 1 → bit_at new k ≡ 1)
    → AreHolders (with_row r (holding x) rows) new
raised-holders r x rows word new is mine others = record { each = λ k within. row-cases (λ (row : Row). holds_any row.held ≡ true → bit_at new k ≡ 1) (holding x (row_in r rows)) rows (slot_of r) k (here k within) (λ h. others k (is.each k within h)) }
  where
    here : (k : ℕ) → k < TASKS → k ≡ slot_of r → true ≡ true → bit_at new k ≡ 1
    here k within e h = subst (λ (n : ℕ). bit_at new n ≡ 1) (sym e) (mine (subst (λ (n : ℕ). n < TASKS) e within))

pub dropped-fewer : (held : List HeldResource) → holds_any (drop 1 held) ≡ true → holds_any held ≡ true
dropped-fewer [] h = h
dropped-fewer (x ∷ held) h = refl

-- ---- priorities of the core's own

pub static-within : (tasks : OwnTasks) (bound : ℕ) (r : Runner) → are_below bound tasks.priorities ≡ true → is_own_task tasks r ≡ true → priority_of tasks r < bound
static-within tasks bound (Runner.Isr i) low own = absurd (false≢true own)
static-within tasks bound (Runner.Task t) low own = by (priority_in tasks t) refl own
  where
    listed : (p : ℕ) (b : Bool) → cond b (slice_get tasks.priorities t.index) None ≡ Some p → nat_lt p bound ≡ true
    listed p true e = passes-at (λ (q : ℕ). nat_lt q bound) tasks.priorities t.index p low e
    listed p false e = cc

    by : (o : Option ℕ) → priority_in tasks t ≡ o → is_some o ≡ true → unwrap_or o 0 < bound
    by None e is = absurd (false≢true is)
    by (Some p) e is = ltb-true p bound (listed p (same_core t.core tasks.core) e)

-- an own task is one of this core, and its index is below the number of its tasks
pub record IsOwn (tasks : OwnTasks) (t : TaskRef) : Type 0 where
  pub here : same_core t.core tasks.core ≡ true
  pub index : t.index < length tasks.priorities

pub own-task : (tasks : OwnTasks) (t : TaskRef) → is_own_task tasks (Runner.Task t) ≡ true → IsOwn tasks t
own-task tasks t own = by (same_core t.core tasks.core) (slice_get tasks.priorities t.index) refl refl own
  where
    by : (b : Bool) (o : Option ℕ) → same_core t.core tasks.core ≡ b → slice_get tasks.priorities t.index ≡ o → is_some (cond b o None) ≡ true → IsOwn tasks t
    by true (Some p) e f is = record { here = e; index = slice_get_within tasks.priorities t.index p f }
    by true None e f is = absurd (false≢true is)
    by false o e f is = absurd (false≢true is)

-- two own tasks with the same index are the same task
pub same-index : (tasks : OwnTasks) (t u : TaskRef) → IsOwn tasks t → IsOwn tasks u → u.index ≡ t.index → same_task u t ≡ true
same-index tasks t u mine yours e =
    let one : u.core ≡ t.core = same_core-true u.core tasks.core yours.here ∙ sym (same_core-true t.core tasks.core mine.here) in
    and_from (same_core u.core t.core) (nat_eq u.index t.index) (subst (λ (c : CoreId). same_core u.core c ≡ true) one (same_core-refl u.core)) (eq-eqb u.index t.index e)

module _ (tasks : OwnTasks) (t : TaskRef) (own : IsOwn tasks t) (f : Row → Row) (rows : List Row) where
  pub other-awake : (j : Job) → is_own_task tasks j.runner ≡ true → same_runner j.runner (Runner.Task t) ≡ false → is_awake_in (with_row (Runner.Task t) f rows) j ≡ is_awake_in rows j
  other-awake j mine differ = by j.runner mine differ
    where
      by : (r : Runner) → is_own_task tasks r ≡ true → same_runner r (Runner.Task t) ≡ false → not (is_waiting (row_at (slot_of r) (with_row (Runner.Task t) f rows)).events) ≡ not (is_waiting (row_at (slot_of r) rows).events)
      by (Runner.Isr i) mine differ = absurd (false≢true mine)
      by (Runner.Task u) mine differ =
          row-cases (λ (row : Row). not (is_waiting row.events) ≡ not (is_waiting (row_at u.index rows).events)) (f (row_at t.index rows)) rows t.index u.index
          (λ e. absurd (false≢true (sym differ ∙ same-index tasks t u own (own-task tasks u mine) e)))
          refl

  pub mine-awake : t.index < length rows → (j : Job) → same_runner j.runner (Runner.Task t) ≡ true → is_awake_in (with_row (Runner.Task t) f rows) j ≡ not (is_waiting (f (row_at t.index rows)).events)
  mine-awake within j same =
      ap (λ (r : Runner). not (is_waiting (row_at (slot_of r) (with_row (Runner.Task t) f rows)).events)) (same_runner-true j.runner (Runner.Task t) same)
      ∙ ap (λ (row : Row). not (is_waiting row.events)) (get_or-set_same rows t.index (f (row_at t.index rows)) first_row within)

-- ---- what each call keeps

module _ (priorities room : ℕ) (tasks : OwnTasks) (jobs : List Job) (rows : List Row) (ready : List Ready) (is : AreReady priorities room tasks jobs rows ready) where
  abbrev pub after : Runner → (Row → Row) → List Row
  after r f = with_row r f rows

  places-after : (r : Runner) (f : Row → Row) → length (with_row r f rows) ≡ RUNNERS
  places-after r f = length-set rows (slot_of r) (f (row_in r rows)) ∙ is.places

  pub length-ready : length ready ≤ length jobs
  length-ready = subst (λ (q : List Ready). length q ≤ length jobs) (sym is.queue) (length-queued tasks (is_awake_in rows) jobs)

  agree-all : (others : List Row) → ((j : Job) → is_awake_in others j ≡ is_awake_in rows j) → (js : List Job) → queued tasks (is_awake_in others) js ≡ queued tasks (is_awake_in rows) js
  agree-all others same js = queued-agree tasks (is_awake_in others) (is_awake_in rows) js (all js)
    where
      all : (ks : List Job) → Each (λ (j : Job). is_awake_in others j ≡ is_awake_in rows j) ks
      all [] = tt
      all (k ∷ ks) = (same k, all ks)

  -- a row changes, and the same tasks wait as before
  pub keeps : (r : Runner) (f : Row → Row) → is_waiting (f (row_in r rows)).events ≡ is_waiting (row_in r rows).events → AreReady priorities room tasks jobs (with_row r f rows) ready
  keeps r f same = record {
    few = is.few;
    own = is.own;
    low = is.low;
    narrow = is.narrow;
    within = is.within;
    places = places-after r f;
    queue = is.queue ∙ sym (agree-all (with_row r f rows) (same-awake r f rows same) jobs);
  }

  module _ (j : Job) (place : length jobs < room) (own : is_own_task tasks j.runner ≡ true) (newest : Each (λ (k : Job). k.stamp < j.stamp) jobs) where
    pub behind-all : All (ComesBefore (entry_of tasks j)) ready
    behind-all = subst (All (ComesBefore (entry_of tasks j))) (sym is.queue) (all-older tasks (is_awake_in rows) jobs j newest)

    pub activates : (r : Runner) (f : Row → Row) → is_waiting (f (row_in r rows)).events ≡ is_waiting (row_in r rows).events
        → AreReady priorities room tasks (jobs ++ j ∷ []) (with_row r f rows) (enqueued tasks (cond (is_awake_in (with_row r f rows) j) (Some j) None) ready)
    activates r f same = record {
      few = omega (arith, place, length-append jobs (j ∷ []));
      own = each-push (λ (k : Job). is_own_task tasks k.runner ≡ true) jobs j is.own own;
      low = is.low;
      narrow = is.narrow;
      within = is.within;
      places = places-after r f;
      queue = by (is_awake_in (with_row r f rows) j) ∙ sym (queued-more tasks (is_awake_in (with_row r f rows)) jobs j newest);
    }
      where
        kept : ready ≡ queued tasks (is_awake_in (with_row r f rows)) jobs
        kept = (keeps r f same).queue

        by : (b : Bool) → enqueued tasks (cond b (Some j) None) ready ≡ cond b (placed (entry_of tasks j) (queued tasks (is_awake_in (with_row r f rows)) jobs)) (queued tasks (is_awake_in (with_row r f rows)) jobs)
        by true = ap (placed (entry_of tasks j)) kept
        by false = kept

  module _ (up : Ascending jobs) where
    pub there : (r : Runner) (j : Job) → oldest r jobs ≡ Some j → is_awake_in rows j ≡ true → Contains ready (entry_of tasks j)
    there r j e awake =
        subst (λ (q : List Ready). Contains q (entry_of tasks j)) (sym is.queue) (dequeued-there tasks (is_awake_in rows) r jobs j up e awake)

    less : (r : Runner) → dequeued tasks (is_awake_in rows) (oldest r jobs) ready ≡ queued tasks (is_awake_in rows) (without_oldest r jobs)
    less r = ap (dequeued tasks (is_awake_in rows) (oldest r jobs)) is.queue ∙ dequeued-less tasks (is_awake_in rows) r jobs up

    pub ends : (r : Runner) (f : Row → Row) → is_waiting (f (row_in r rows)).events ≡ is_waiting (row_in r rows).events
        → AreReady priorities room tasks (without_oldest r jobs) (with_row r f rows) (dequeued tasks (is_awake_in rows) (oldest r jobs) ready)
    ends r f same = record {
      few = omega (arith, is.few, length-less r jobs);
      own = each-less (λ (k : Job). is_own_task tasks k.runner ≡ true) r jobs is.own;
      low = is.low;
      narrow = is.narrow;
      within = is.within;
      places = places-after r f;
      queue = less r ∙ sym (agree-all (with_row r f rows) (same-awake r f rows same) (without_oldest r jobs));
    }

    module _ (t : TaskRef) (own : is_own_task tasks (Runner.Task t) ≡ true) (single : job_count (Runner.Task t) jobs ≤ 1) where
      mine : IsOwn tasks t
      mine = own-task tasks t own

      within : t.index < length rows
      within = let known : t.index < TASKS = omega (arith, mine.index, is.within) in omega (arith, known, is.places)

      -- the jobs of other tasks wait as before
      agree-others : (f : Row → Row) (js : List Job) → Each (λ (k : Job). is_own_task tasks k.runner ≡ true) js → Each (λ (k : Job). same_runner k.runner (Runner.Task t) ≡ false → is_awake_in (with_row (Runner.Task t) f rows) k ≡ is_awake_in rows k) js
      agree-others f [] all = tt
      agree-others f (k ∷ js) all = ((λ differ. other-awake tasks t mine f rows k all.0 differ), agree-others f js all.1)

      pub waits : (f : Row → Row) → is_waiting (f (row_at t.index rows)).events ≡ true → AreReady priorities room tasks jobs (with_row (Runner.Task t) f rows) (dequeued tasks (is_awake_in rows) (oldest (Runner.Task t) jobs) ready)
      waits f waiting = record {
        few = is.few;
        own = is.own;
        low = is.low;
        narrow = is.narrow;
        within = is.within;
        places = places-after (Runner.Task t) f;
        queue = less (Runner.Task t) ∙ sym (queued-quiet tasks (is_awake_in (with_row (Runner.Task t) f rows)) (is_awake_in rows) (Runner.Task t) jobs (quiet jobs) (agree-others f jobs is.own) single);
      }
        where
          quiet : (js : List Job) → Each (λ (k : Job). same_runner k.runner (Runner.Task t) ≡ true → is_awake_in (with_row (Runner.Task t) f rows) k ≡ false) js
          quiet [] = tt
          quiet (k ∷ js) = ((λ same. mine-awake tasks t mine f rows within k same ∙ ap (λ (b : Bool). not b) waiting), quiet js)

      -- released: the oldest job goes behind all others
      abbrev restamped : ℕ → Option Job → Option Job
      restamped stamp o = option_map (λ (j : Job). record j { stamp = stamp }) o

      module _ (stamp : ℕ) (newest : Each (λ (k : Job). k.stamp < stamp) jobs) where
        others-older : Each (λ (k : Job). k.stamp < stamp) (without_oldest (Runner.Task t) jobs)
        others-older = each-less (λ (k : Job). k.stamp < stamp) (Runner.Task t) jobs newest

        own-oldest : (j : Job) → oldest (Runner.Task t) jobs ≡ Some j → is_own_task tasks j.runner ≡ true
        own-oldest j e = each-of (λ (k : Job). is_own_task tasks k.runner ≡ true) (Runner.Task t) jobs j is.own e

        pub room-left : IfSome (restamped stamp (oldest (Runner.Task t) jobs)) (λ j. length (dequeued tasks (is_awake_in rows) (oldest (Runner.Task t) jobs) ready) < room)
        room-left = by (oldest (Runner.Task t) jobs) refl
          where
            by : (o : Option Job) → oldest (Runner.Task t) jobs ≡ o → IfSome (restamped stamp o) (λ j. length (dequeued tasks (is_awake_in rows) (oldest (Runner.Task t) jobs) ready) < room)
            by None e = tt
            by (Some j) e =
                let is-less = ap (λ (q : List Ready). length q) (less (Runner.Task t)) in
                omega (arith, is-less, length-queued tasks (is_awake_in rows) (without_oldest (Runner.Task t) jobs), shorter (Runner.Task t) jobs j e, is.few)

        pub own-restamped : IfSome (restamped stamp (oldest (Runner.Task t) jobs)) (λ j. is_own_task tasks j.runner ≡ true)
        own-restamped = by (oldest (Runner.Task t) jobs) refl
          where
            by : (o : Option Job) → oldest (Runner.Task t) jobs ≡ o → IfSome (restamped stamp o) (λ j. is_own_task tasks j.runner ≡ true)
            by None e = tt
            by (Some j) e = own-oldest j e

        pub behind-others : IfSome (restamped stamp (oldest (Runner.Task t) jobs)) (λ j. All (ComesBefore (entry_of tasks j)) (dequeued tasks (is_awake_in rows) (oldest (Runner.Task t) jobs) ready))
        behind-others = by (oldest (Runner.Task t) jobs)
          where
            each-one : (j : Job) → All (ComesBefore (entry_of tasks (record j { stamp = stamp }))) (dequeued tasks (is_awake_in rows) (oldest (Runner.Task t) jobs) ready)
            each-one j =
                subst (All (ComesBefore (entry_of tasks (record j { stamp = stamp })))) (sym (less (Runner.Task t)))
                (all-older tasks (is_awake_in rows) (without_oldest (Runner.Task t) jobs) (record j { stamp = stamp }) others-older)

            by : (o : Option Job) → IfSome (restamped stamp o) (λ j. All (ComesBefore (entry_of tasks j)) (dequeued tasks (is_awake_in rows) (oldest (Runner.Task t) jobs) ready))
            by None = tt
            by (Some j) = each-one j

        module _ (f : Row → Row) (free : is_waiting (f (row_at t.index rows)).events ≡ false) where
          abbrev freed : List Row
          freed = with_row (Runner.Task t) f rows

          agreeing : (js : List Job) → Each (λ (k : Job). is_own_task tasks k.runner ≡ true) js → Each (λ (k : Job). same_runner k.runner (Runner.Task t) ≡ false) js → queued tasks (is_awake_in freed) js ≡ queued tasks (is_awake_in rows) js
          agreeing js owned differ = queued-agree tasks (is_awake_in freed) (is_awake_in rows) js (all js owned differ)
            where
              all : (ks : List Job) → Each (λ (k : Job). is_own_task tasks k.runner ≡ true) ks → Each (λ (k : Job). same_runner k.runner (Runner.Task t) ≡ false) ks → Each (λ (k : Job). is_awake_in freed k ≡ is_awake_in rows k) ks
              all [] owned differ = tt
              all (k ∷ ks) owned differ = (other-awake tasks t mine f rows k owned.0 differ.0, all ks owned.1 differ.1)

          owned-less : Each (λ (k : Job). is_own_task tasks k.runner ≡ true) (without_oldest (Runner.Task t) jobs)
          owned-less = each-less (λ (k : Job). is_own_task tasks k.runner ≡ true) (Runner.Task t) jobs is.own

          agreeing-less : queued tasks (is_awake_in freed) (without_oldest (Runner.Task t) jobs) ≡ queued tasks (is_awake_in rows) (without_oldest (Runner.Task t) jobs)
          agreeing-less = agreeing (without_oldest (Runner.Task t) jobs) owned-less (others-of (Runner.Task t) jobs single)

          runner-of : (js : List Job) (j : Job) → oldest (Runner.Task t) js ≡ Some j → same_runner j.runner (Runner.Task t) ≡ true
          runner-of [] j e = cc
          runner-of (x ∷ js) j e = found (same_runner x.runner (Runner.Task t)) refl e (λ later. runner-of js j later)
            where
              found : (b : Bool) → same_runner x.runner (Runner.Task t) ≡ b → cond b (Some x) (oldest (Runner.Task t) js) ≡ Some j → (oldest (Runner.Task t) js ≡ Some j → same_runner j.runner (Runner.Task t) ≡ true) → same_runner j.runner (Runner.Task t) ≡ true
              found true s g rest = let same : x ≡ j = cc in subst (λ (k : Job). same_runner k.runner (Runner.Task t) ≡ true) same s
              found false s g rest = rest g

          pub releases : AreReady priorities room tasks (stamped_anew (Runner.Task t) stamp jobs) freed (enqueued tasks (restamped stamp (oldest (Runner.Task t) jobs)) (dequeued tasks (is_awake_in rows) (oldest (Runner.Task t) jobs) ready))
          releases = by (oldest (Runner.Task t) jobs) refl
            where
              queue-of : (j : Job) → oldest (Runner.Task t) jobs ≡ Some j → placed (entry_of tasks (record j { stamp = stamp })) (dequeued tasks (is_awake_in rows) (Some j) ready) ≡ queued tasks (is_awake_in freed) (without_oldest (Runner.Task t) jobs ++ record j { stamp = stamp } ∷ [])
              queue-of j e =
                  ap (placed (entry_of tasks (record j { stamp = stamp }))) (ap (λ (o : Option Job). dequeued tasks (is_awake_in rows) o ready) (sym e) ∙ less (Runner.Task t) ∙ sym agreeing-less)
                  ∙ ap (λ (b : Bool). cond b (placed (entry_of tasks (record j { stamp = stamp })) (queued tasks (is_awake_in freed) (without_oldest (Runner.Task t) jobs))) (queued tasks (is_awake_in freed) (without_oldest (Runner.Task t) jobs))) (sym (mine-awake tasks t mine f rows within (record j { stamp = stamp }) (runner-of jobs j e) ∙ ap (λ (b : Bool). not b) free))
                  ∙ sym (queued-more tasks (is_awake_in freed) (without_oldest (Runner.Task t) jobs) (record j { stamp = stamp }) others-older)

              by : (o : Option Job) → oldest (Runner.Task t) jobs ≡ o
                  → AreReady priorities room tasks (option_map_or (λ (j : Job). without_oldest (Runner.Task t) jobs ++ record j { stamp = stamp } ∷ []) o jobs) freed (enqueued tasks (restamped stamp o) (dequeued tasks (is_awake_in rows) o ready))
              by None e = record {
                few = is.few;
                own = is.own;
                low = is.low;
                narrow = is.narrow;
                within = is.within;
                places = places-after (Runner.Task t) f;
                queue = is.queue ∙ sym (agreeing jobs is.own (subst (λ (js : List Job). Each (λ (k : Job). same_runner k.runner (Runner.Task t) ≡ false) js) (none-less (Runner.Task t) jobs e) (others-of (Runner.Task t) jobs single)));
              }
              by (Some j) e = record {
                few = omega (arith, is.few, shorter (Runner.Task t) jobs j e, length-append (without_oldest (Runner.Task t) jobs) ((let k : Job = record j { stamp = stamp } in k) ∷ []));
                own = each-push (λ (k : Job). is_own_task tasks k.runner ≡ true) (without_oldest (Runner.Task t) jobs) (record j { stamp = stamp }) owned-less (own-oldest j e);
                low = is.low;
                narrow = is.narrow;
                within = is.within;
                places = places-after (Runner.Task t) f;
                queue = queue-of j e;
              }

-- ---- all that is kept, if one row changes

pub kept : {priorities room : ℕ} {tasks : OwnTasks} {jobs : List Job} {counts : List ℕ} {ready : List Ready} {holders : ℕ} {isr_jobs : List Job} {isr_counts : List ℕ} {rows : List Row} {running : Option TaskRef} {job : Option Job} → IsKept priorities room tasks jobs counts ready holders isr_jobs isr_counts rows running job
    → (r : Runner) (f : Row → Row) → is_waiting (f (row_in r rows)).events ≡ is_waiting (row_in r rows).events → (holds_any (f (row_in r rows)).held ≡ true → holds_any (row_in r rows).held ≡ true)
    → IsKept priorities room tasks jobs counts ready holders isr_jobs isr_counts (with_row r f rows) running job
kept {priorities} {room} {tasks} {jobs} {ready = ready} {holders = holders} {rows = rows} is r f same fewer = record {
  ascending = is.ascending;
  counted = is.counted;
  isrs_counted = is.isrs_counted;
  queue = keeps priorities room tasks jobs rows ready is.queue r f same;
  holders = fewer-holders r f rows holders is.holders fewer;
  current = is.current;
}

-- what holds of the job, if one is found, holds of the optional job
pub if-found : (P : Job → Type 0) (o : Option Job) → ((j : Job) → o ≡ Some j → P j) → IfSome o P
if-found P None f = tt
if-found P (Some j) f = f j refl

pub if-any : (P : Job → Type 0) (b : Bool) (j : Job) → P j → IfSome (cond b (Some j) None) P
if-any P true j p = p
if-any P false j p = tt

-- ---- before the first job

pub places-new : length (replicate RUNNERS first_row) ≡ RUNNERS
places-new = length-replicate RUNNERS first_row

pub none-held : (k : ℕ) → k < TASKS → holds_any (row_at k (replicate RUNNERS first_row)).held ≡ true → bit_at 0 k ≡ 1
none-held k within h = absurd (false≢true (sym (ap (λ (row : Row). holds_any row.held) (get_or-replicate RUNNERS k first_row first_row (omega (arith, within)))) ∙ h))

-- ---- a runner that holds nothing any more

pub no-holder : (r : Runner) (rows : List Row) (word new : ℕ) → AreHolders rows word → nat_eq (length (row_in r rows).held) 0 ≡ true → ((k : ℕ) → (k ≡ slot_of r → ⊥) → bit_at new k ≡ bit_at word k) → AreHolders rows new
no-holder r rows word new is free others = record { each = λ k within h. others k (apart k h) ∙ is.each k within h }
  where
    nothing : (held : List HeldResource) → nat_eq (length held) 0 ≡ true → holds_any held ≡ true → ⊥
    nothing [] e h = false≢true h
    nothing (x ∷ held) e h = omega (arith, eqb-true (length (x ∷ held)) 0 e)

    apart : (k : ℕ) → holds_any (row_at k rows).held ≡ true → k ≡ slot_of r → ⊥
    apart k h e = nothing (row_in r rows).held free (subst (λ (n : ℕ). holds_any (row_at n rows).held ≡ true) e h)
