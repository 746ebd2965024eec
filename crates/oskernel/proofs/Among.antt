-- A core's history alone, and the same history where another core started it and it passed the second gate with
-- others. Both read the same, but each stamp in the second is later by what came before.
use Rattle.std.proofs.Common.{◌≡◌, ◌&&◌, ◌||◌, ℕ, suc, ◌+◌, nat_eq, nat_lt, Bool, true, false, not, cond, Option, Some, None, option_map, List, [], ◌∷◌, length, map, refl, ap, ◌∙◌, arith}
use Rattle.std.specs.{List.filter, Option.option_map_or, Option.option_or}
use Rattle.std.proofs.{lemmas.Bool.Decides.nat_tests, lemmas.List.map-append}
use Rattle.osbase.specs.{declared.references.IsrRef.IsrRef, declared.references.Runner.Runner, declared.items.CoreSet.CoreSet, declared.items.Item.Item, declared.histories.Job.Job, Sets.numbers_from, declared.limits.TheConstants.RUNNERS, Spins.got_spinlocks, Spins.spins_after}
use Rattle.osbase.specs.History.{History, Entry, Took, course_after, course_of, current_after, current_job, current_task, first_greatest, giving_way, giving_way_after, greater, greatest_ceiling, is_waiting, job_count, live_jobs, marks_of, oldest, open_after, open_call, phase_after, phase_of, same_job, same_runner, stamped_anew, without_oldest}
use Rattle.osbase.specs.Interrupts.{entered_after, entered_isrs, isr_count, isr_jobs, runner_of_job}
use Rattle.oscript.specs.{declared.Op.Op, Runners.Row, Runners.row_after, Runners.row_of}
use Rattle.osplan.specs.{declared.plans.Core.Core, View.View}
use Rattle.osrunner.specs.Rows.{events_in, held_in}
use Rattle.osjobs.specs.Jobs.{has_suspended_interrupts_in}
use Rattle.osjobs.specs.Priorities.{highest_of, is_able_in, is_oldest, is_preemptable, level_by, priority_by, raised_of, static_priority}
use Rattle.osstate.specs.Readings.{best_job, best_task, current_priority, is_able, is_pending, rows_of, runner_at, running, script_of}

-- The entry. If it is the second gate's, it has this set in place of the core's own.
abbrev pub with_set : CoreSet → Entry → Entry
with_set s (Took (Item.Pass2 cores)) = Took (Item.Pass2 s)
with_set s e = e

abbrev pub among : CoreSet → History → History → History
among s base [] = base
among s base (e ∷ k) = with_set s e ∷ among s base k

-- What comes before the history: nothing at the master, and at another core that it was started.
abbrev pub base_of : Bool → History
base_of true = []
base_of false = Took Item.On ∷ []

-- ---- readings that look at no stamp

same-step : {A : Type 0} (step : Entry → A) → ((a b : CoreSet) → step (Took (Item.Pass2 a)) ≡ step (Took (Item.Pass2 b))) → (s : CoreSet) (e : Entry) → step (with_set s e) ≡ step e
same-step step gate s (Took (Item.Pass2 cores)) = gate s cores
same-step step gate s e = refl

pub reads-same : {A : Type 0} (s : CoreSet) (m : Bool) (f : History → A) → ((e : Entry) (k : History) → f (among s (base_of m) k) ≡ f k → f (e ∷ among s (base_of m) k) ≡ f (e ∷ k))
    → ((a b : CoreSet) (h : History) → f (Took (Item.Pass2 a) ∷ h) ≡ f (Took (Item.Pass2 b) ∷ h)) → f (Took Item.On ∷ []) ≡ f [] → (k : History) → f (among s (base_of m) k) ≡ f k
reads-same s true f goes gate on [] = refl
reads-same s false f goes gate on [] = on
reads-same s m f goes gate on (e ∷ k) =
    same-step (λ (d : Entry). f (d ∷ among s (base_of m) k)) (λ a b. gate a b (among s (base_of m) k)) s e
    ∙ goes e k (reads-same s m f goes gate on k)

pub phase-same : (s : CoreSet) (m : Bool) (k : History) → phase_of m (among s (base_of m) k) ≡ phase_of true k
phase-same s true [] = refl
phase-same s false [] = refl
phase-same s m (e ∷ k) =
    same-step (λ (d : Entry). phase_after d (phase_of m (among s (base_of m) k))) (λ a b. refl) s e
    ∙ ap (phase_after e) (phase-same s m k)

-- ---- jobs

-- A job whose stamp is later.
abbrev pub later : ℕ → Job → Job
later d j = record j { stamp = j.stamp + d }

later-without : (d : ℕ) (r : Runner) (js : List Job) → without_oldest r (map (later d) js) ≡ map (later d) (without_oldest r js)
later-without d r [] = refl
later-without d r (j ∷ js) = grind (arith, later-without d r js)

later-oldest : (d : ℕ) (r : Runner) (js : List Job) → oldest r (map (later d) js) ≡ option_map (later d) (oldest r js)
later-oldest d r [] = refl
later-oldest d r (j ∷ js) = grind (arith, later-oldest d r js)

later-anew : (d : ℕ) (r : Runner) (n : ℕ) (js : List Job) → stamped_anew r (n + d) (map (later d) js) ≡ map (later d) (stamped_anew r n js)
later-anew d r n js = grind (arith, later-oldest d r js, later-without d r js, map-append (later d))

later-count : (d : ℕ) (r : Runner) (js : List Job) → job_count r (map (later d) js) ≡ job_count r js
later-count d r [] = refl
later-count d r (j ∷ js) = ap (λ (n : ℕ). cond (same_runner j.runner r) (suc n) n) (later-count d r js)

later-greatest : (d : ℕ) (p : Job → ℕ) (js : List Job) → first_greatest p (map (later d) js) ≡ option_map (later d) (first_greatest (λ (j : Job). p (later d j)) js)
later-greatest d p [] = refl
later-greatest d p (j ∷ js) = grind (arith, later-greatest d p js)

later-filter : (d : ℕ) (p : Job → Bool) (js : List Job) → filter p (map (later d) js) ≡ map (later d) (filter (λ (j : Job). p (later d j)) js)
later-filter d p [] = refl
later-filter d p (j ∷ js) = grind (arith, later-filter d p js)

pub stamp-later : (d a b : ℕ) → nat_eq (a + d) (b + d) ≡ nat_eq a b
stamp-later d a b = grind (arith, nat_tests)

later-same : (d : ℕ) (j : Job) (o : Option Job) → option_map_or (same_job (later d j)) (option_map (later d) o) false ≡ option_map_or (same_job j) o false
later-same d j o = grind (arith, nat_tests)

later-eldest : (d : ℕ) (js : List Job) (j : Job) → is_oldest (map (later d) js) (later d j) ≡ is_oldest js j
later-eldest d js j = ap (λ (o : Option Job). option_map_or (same_job (later d j)) o false) (later-oldest d j.runner js) ∙ later-same d j (oldest j.runner js)

-- The raised job is the same, and so is each job's priority.
later-raised : (d : ℕ) (core : Core) (way : Option Runner) (o : Option Job) → raised_of core way (option_map (later d) o) ≡ option_map (later d) (raised_of core way o)
later-raised d core way None = refl
later-raised d core way (Some j) = by (is_preemptable core j.runner || option_map_or (same_runner j.runner) way false)
  where
    by : (b : Bool) → cond b None (Some (later d j)) ≡ option_map (later d) (cond b None (Some j))
    by true = refl
    by false = refl

later-priority : (d : ℕ) (core : Core) (js : List Job) (rows : List Row) (raised : Option Job) (j : Job)
    → priority_by core (map (later d) js) rows (option_map (later d) raised) (later d j) ≡ priority_by core js rows raised j
later-priority d core js rows raised j =
    λ i. greater (greater (static_priority core j.runner) (greatest_ceiling (cond (later-eldest d js j i) (held_in j.runner rows) []))) (cond (later-same d j raised i) (highest_of core.tasks) 0)

-- Whether the running job has suspended interrupts is the same, and so is the choice of the best one.
later-locked : (d : ℕ) (rows : List Row) (o : Option Job) → has_suspended_interrupts_in rows (option_map (later d) o) ≡ has_suspended_interrupts_in rows o
later-locked d rows None = refl
later-locked d rows (Some j) = refl

later-choice : (d : ℕ) (b : Bool) (running isr task : Option Job)
    → cond b (option_map (later d) running) (option_or (option_map (later d) isr) (option_map (later d) task)) ≡ option_map (later d) (cond b running (option_or isr task))
later-choice d b running isr task = grind arith

abbrev pub delay : Bool → ℕ
delay m = length (base_of m)

length-among : (s : CoreSet) (m : Bool) (k : History) → length (among s (base_of m) k) ≡ length k + delay m
length-among s m [] = omega arith
length-among s m (e ∷ k) = let rest = length-among s m k in omega arith

pub jobs-later : (s : CoreSet) (m : Bool) (k : History) → live_jobs (among s (base_of m) k) ≡ map (later (delay m)) (live_jobs k)
jobs-later s true [] = refl
jobs-later s false [] = refl
jobs-later s m (e ∷ k) = grind (arith, length-among s m k, jobs-later s m k, later-anew (delay m), later-without (delay m), map-append (later (delay m)))

pub isrs-later : (s : CoreSet) (m : Bool) (k : History) → isr_jobs (among s (base_of m) k) ≡ map (later (delay m)) (isr_jobs k)
isrs-later s true [] = refl
isrs-later s false [] = refl
isrs-later s m (e ∷ k) = grind (arith, length-among s m k, isrs-later s m k, later-without (delay m), map-append (later (delay m)))

-- ---- what is read of the history in the world of one alone

module _ (s : CoreSet) (m : Bool) where
  abbrev world : History → History
  world k = among s (base_of m) k

  pub current-same : (k : History) → current_task (world k) ≡ current_task k
  current-same = reads-same s m current_task (λ e k p. ap (current_after e) p) (λ a b h. refl) refl

  giving_way-same : (k : History) → giving_way (world k) ≡ giving_way k
  giving_way-same = reads-same s m giving_way (λ e k p. ap (giving_way_after e) p) (λ a b h. refl) refl

  entered-same : (k : History) → entered_isrs (world k) ≡ entered_isrs k
  entered-same = reads-same s m entered_isrs (λ e k p. ap (entered_after e) p) (λ a b h. refl) refl

  pub course-same : (k : History) → course_of (world k) ≡ course_of k
  course-same = reads-same s m course_of (λ e k p. ap (course_after e) p) (λ a b h. refl) refl

  pub open-same : (k : History) → open_call (world k) ≡ open_call k
  open-same = reads-same s m open_call (λ e k p. ap (open_after e) p) (λ a b h. refl) refl

  -- Which spinlocks the core got depends on the call that was open.
  pub got-same : (k : History) → got_spinlocks (world k) ≡ got_spinlocks k
  got-same = reads-same s m got_spinlocks (λ e k p. λ i. spins_after e (open-same k i) (p i)) (λ a b h. refl) refl

  pub marks-same : (k : History) → marks_of (world k) ≡ marks_of k
  marks-same = reads-same s m marks_of (λ e k p. grind (arith, p)) (λ a b h. refl) refl

  pub pending-same : (i : IsrRef) (k : History) → is_pending i (world k) ≡ is_pending i k
  pending-same i k =
      (λ p. nat_lt (isr_count i (entered-same k p)) (job_count (Runner.Isr i) (isrs-later s m k p)))
      ∙ ap (nat_lt (isr_count i (entered_isrs k))) (later-count (delay m) (Runner.Isr i) (isr_jobs k))

  pub count-same : (r : Runner) (k : History) → job_count r (live_jobs (world k)) ≡ job_count r (live_jobs k)
  count-same r k = ap (job_count r) (jobs-later s m k) ∙ later-count (delay m) r (live_jobs k)

  current-later : (k : History) → current_job (world k) ≡ option_map (later (delay m)) (current_job k)
  current-later k = grind (arith, current-same k, jobs-later s m k, later-oldest (delay m))

  pub running-later : (v : View) (k : History) → running v (world k) ≡ option_map (later (delay m)) (running v k)
  running-later v k = grind (arith, entered-same k, isrs-later s m k, current-later k, later-oldest (delay m))

  -- So the same runner is charged at a tick, and each row is the same.
  pub runner-same : (v : View) (k : History) → runner_of_job (running v (world k)) ≡ runner_of_job (running v k)
  runner-same v k = grind (arith, running-later v k)

  row-same : (script : List Op) (r : Runner) (v : View) (k : History) → row_of script r (world k) ≡ row_of script r k
  row-same script r v = reads-same s m (row_of script r) (λ e k p. λ i. row_after script r (runner-same v k i) e (p i)) (λ a b h. refl) refl

  pub rows-same : (v : View) (k : History) → rows_of v.own (world k) ≡ rows_of v.own k
  rows-same v k = λ i. map (λ (n : ℕ). row-same (script_of v.own (runner_at v.own n)) (runner_at v.own n) v k i) (numbers_from 0 RUNNERS)

  -- Whether a job is able does not depend on its stamp.
  able-later : (v : View) (k : History) → filter (is_able v (world k)) (live_jobs (world k)) ≡ map (later (delay m)) (filter (is_able v k) (live_jobs k))
  able-later v k =
      ap (filter (is_able v (world k))) (jobs-later s m k) ∙ later-filter (delay m) (is_able v (world k)) (live_jobs k)
      ∙ λ i. map (later (delay m)) (filter (λ (j : Job). same j i) (live_jobs k))
    where
      same : (j : Job) → is_able v (world k) (later (delay m) j) ≡ is_able v k j
      same j =
          (λ i. is_able_in (jobs-later s m k i) (rows-same v k i) (later (delay m) j))
          ∙ ap (λ (b : Bool). b && not (is_waiting (events_in j.runner (rows_of v.own k)))) (later-eldest (delay m) (live_jobs k) j)

  best_task-later : (v : View) (k : History) → best_task v (world k) ≡ option_map (later (delay m)) (best_task v k)
  best_task-later v k =
      ap (first_greatest (current_priority v (world k))) (able-later v k) ∙ later-greatest (delay m) (current_priority v (world k)) (filter (is_able v k) (live_jobs k))
      ∙ λ i. option_map (later (delay m)) (first_greatest (λ (j : Job). priority j i) (filter (is_able v k) (live_jobs k)))
    where
      priority : (j : Job) → current_priority v (world k) (later (delay m) j) ≡ current_priority v k j
      priority j =
          (λ i. priority_by v.own (jobs-later s m k i) (rows-same v k i) (raised_of v.own (giving_way-same k i) (current-later k i)) (later (delay m) j))
          ∙ ap (λ (o : Option Job). priority_by v.own (map (later (delay m)) (live_jobs k)) (rows_of v.own k) o (later (delay m) j)) (later-raised (delay m) v.own (giving_way k) (current_job k))
          ∙ later-priority (delay m) v.own (live_jobs k) (rows_of v.own k) (raised_of v.own (giving_way k) (current_job k)) j

  pub best-later : (v : View) (k : History) → best_job v (world k) ≡ option_map (later (delay m)) (best_job v k)
  best-later v k =
      (λ i. cond (locked i) (running-later v k i) (option_or (isr i) (best_task-later v k i)))
      ∙ later-choice (delay m) (has_suspended_interrupts_in (rows_of v.own k) (running v k)) (running v k) (first_greatest (level_by v.own) (isr_jobs k)) (best_task v k)
    where
      locked : has_suspended_interrupts_in (rows_of v.own (world k)) (running v (world k)) ≡ has_suspended_interrupts_in (rows_of v.own k) (running v k)
      locked = (λ i. has_suspended_interrupts_in (rows-same v k i) (running-later v k i)) ∙ later-locked (delay m) (rows_of v.own k) (running v k)

      isr : first_greatest (level_by v.own) (isr_jobs (world k)) ≡ option_map (later (delay m)) (first_greatest (level_by v.own) (isr_jobs k))
      isr = ap (first_greatest (level_by v.own)) (isrs-later s m k) ∙ later-greatest (delay m) (level_by v.own) (isr_jobs k)
