-- What an entry does to the state is what it does to each reading of the history.
use Rattle.std.proofs.Common.{◌≡◌, ◌&&◌, ℕ, zero, suc, ◌+◌, ◌-◌, ◌≤◌, ◌<◌, nat_eq, nat_lt, Bool, true, false, cond, Option, Some, None, is_some, List, ◌∷◌, length, map, refl, ap, sym, subst, ◌∙◌, arith, add-one, slice_index, []}
use Rattle.std.specs.{List.slice_get, List.slice_set, Option.option_map_or}
use Rattle.std.proofs.lemmas.Bool.{and_from, and_parts, eqb-true, lt-ltb, ltb-true, ltb-false, false_from_ne_true, cond-true, cond-false, false≢true}
use Rattle.std.proofs.{lemmas.Bool.Decides.nat_tests, lemmas.List.set_past}
use Rattle.osbase.specs.{declared.references.CoreId.CoreId, declared.references.IsrRef.IsrRef, declared.references.TaskRef.TaskRef, declared.references.Runner.Runner, declared.items.Item.Item, Interrupts.running_job, Interrupts.runner_of_job, Sets.core_ids, Sets.numbers_from, Sets.slot_of}
use Rattle.osbase.specs.declared.limits.TheConstants.{CORES, ISRS, RUNNERS, TASKS}
use Rattle.osbase.specs.History.{History, Entry, Took, Noted, Queued, same_core, same_runner, queued_count, received_count}
use Rattle.osbase.proofs.Same.{same_core-true, same_core-refl, same_runner-true, same_runner-refl}
use Rattle.osbase.proofs.Tables.{table-at, table-set}
use Rattle.oscript.specs.Runners.{Row, first_row, row_by, row_of, row_step, runner_of}
use Rattle.osplan.specs.{declared.plans.Core.Core, Clocked.are_clocks_within, View.View, View.own_isr}
use Rattle.osrunner.specs.Rows.{rows_by}
use Rattle.osclock.specs.Clocks.{is_setting_granted}
use Rattle.osclock.proofs.Law.{after}
use Rattle.ostable.proofs.Law.{after as tables-after}
use Rattle.osjobs.specs.{Jobs.jobs_by, Priorities.is_own_runner}
use Rattle.osprogress.specs.Border.{one_more, queued_after, received_after}
use Rattle.osstate.specs.Readings.{isr_ref, rows_of, runner_at, script_of, task_ref}
use Rattle.osstate.specs.State.{KernelState, Stands, border_of, progress_of, state_of, tasks_of}
use Rattle.osstate.specs.Steps.{has_place, is_placed, rows_after, runner_by, script_for, state_after, tasks_after}
use Rattle.osstate.specs.Sound.{IsSound}

-- ---- counts by core number

abbrev core_at : ℕ → CoreId
core_at n = record { number = n }

-- a core's place has what is counted for it
pub count_at : (count : CoreId → ℕ) (c : CoreId) → c.number < CORES → slice_index (map count core_ids) c.number ≡ count c
count_at count c known = table-at (λ n. count (core_at n)) 0 CORES c.number c.number 0 (omega arith) known

-- one more at a core's place is one more for that core
counts_one : (count : CoreId → ℕ) (c : CoreId) → c.number < CORES → one_more c (map count core_ids) ≡ map (λ (d : CoreId). cond (same_core c d) (suc (count d)) (count d)) core_ids
counts_one count c known =
    ap (λ n. slice_set (map count core_ids) c.number n) (ap (λ n. n + 1) (count_at count c known) ∙ add-one (count c) ∙ sym (cond-true (same_core c c) (suc (count c)) (count c) (same_core-refl c)))
    ∙ table-set (λ n. count (core_at n)) (λ n. cond (same_core c (core_at n)) (suc (count (core_at n))) (count (core_at n))) 0 CORES c.number c.number (omega arith) known others
  where
    others : (m : ℕ) → (m ≡ c.number → ⊥) → count (core_at m) ≡ cond (same_core c (core_at m)) (suc (count (core_at m))) (count (core_at m))
    others m apart = sym (cond-false (same_core c (core_at m)) (suc (count (core_at m))) (count (core_at m)) (false_from_ne_true (nat_eq c.number m) (λ e. apart (sym (eqb-true c.number m e)))))

-- Two tables that agree at every number below a bound.
table-below : {A : Type 0} (F G : ℕ → A) (first count : ℕ) → ((n : ℕ) → n < first + count → F n ≡ G n) → map F (numbers_from first count) ≡ map G (numbers_from first count)
table-below F G first zero same = refl
table-below F G first (suc count) same =
    ap (λ x. x ∷ map F (numbers_from (first + 1) count)) (same first (omega arith))
    ∙ ap (λ xs. G first ∷ xs) (table-below F G (first + 1) count (λ n h. same n (omega (arith, h))))

-- One more for a number that no core has is counted nowhere.
counts_none : (count : CoreId → ℕ) (c : CoreId) → CORES ≤ c.number → one_more c (map count core_ids) ≡ map (λ (d : CoreId). cond (same_core c d) (suc (count d)) (count d)) core_ids
counts_none count c beyond =
    set_past (map count core_ids) c.number (slice_index (map count core_ids) c.number + 1) beyond
    ∙ table-below (λ n. count (core_at n)) (λ n. cond (same_core c (core_at n)) (suc (count (core_at n))) (count (core_at n))) 0 CORES others
  where
    others : (n : ℕ) → n < 0 + CORES → count (core_at n) ≡ cond (same_core c (core_at n)) (suc (count (core_at n))) (count (core_at n))
    others n inside = sym (cond-false (same_core c (core_at n)) (suc (count (core_at n))) (count (core_at n)) (false_from_ne_true (nat_eq c.number n) (λ e. omega (arith, inside, beyond, eqb-true c.number n e))))

-- So one more is counted for any core.
counts_any : (count : CoreId → ℕ) (c : CoreId) → one_more c (map count core_ids) ≡ map (λ (d : CoreId). cond (same_core c d) (suc (count d)) (count d)) core_ids
counts_any count c = by (nat_lt c.number CORES) refl
  where
    by : (b : Bool) → nat_lt c.number CORES ≡ b → one_more c (map count core_ids) ≡ map (λ (d : CoreId). cond (same_core c d) (suc (count d)) (count d)) core_ids
    by true e = counts_one count c (ltb-true c.number CORES e)
    by false e = counts_none count c (ltb-false c.number CORES e)

-- ---- rows by place

place-some : {A : Type 0} (xs : List A) (i : ℕ) → is_some (slice_get xs i) ≡ true → i < length xs
place-some [] i h = absurd (false≢true h)
place-some (x ∷ xs) zero h = omega arith
place-some (x ∷ xs) (suc i) h = omega (arith, place-some xs i h)

-- an own ISR has its index
pub own_isr_place : (core : Core) (i : IsrRef) → is_some (own_isr core i) ≡ true → (i ≡ isr_ref core i.index) × (i.index < length core.isrs)
own_isr_place core i h = cases (same_core i.core core.id) refl h
  where
    cases : (b : Bool) → same_core i.core core.id ≡ b → is_some (cond b (slice_get core.isrs i.index) None) ≡ true → (i ≡ isr_ref core i.index) × (i.index < length core.isrs)
    cases true e h = (ap (λ (c : CoreId). let r : IsrRef = record { core = c; index = i.index } in r) (same_core-true i.core core.id e), place-some core.isrs i.index h)
    cases false e h = absurd (false≢true h)

-- each own runner has a place
own-place : (core : Core) (r : Runner) → length core.tasks ≤ TASKS → length core.isrs ≤ ISRS → is_own_runner core r ≡ true → has_place core r ≡ true
own-place core (Runner.Task t) few few_isrs own = by (same_core t.core core.id) own
  where
    by : (b : Bool) → is_some (cond b (slice_get core.tasks t.index) None) ≡ true → b && nat_lt t.index TASKS ≡ true
    by true e = lt-ltb t.index TASKS (omega (arith, place-some core.tasks t.index e, few))
    by false e = absurd (false≢true e)
own-place core (Runner.Isr i) few few_isrs own = by (same_core i.core core.id) own
  where
    by : (b : Bool) → is_some (cond b (slice_get core.isrs i.index) None) ≡ true → b && nat_lt i.index ISRS ≡ true
    by true e = lt-ltb i.index ISRS (omega (arith, place-some core.isrs i.index e, few_isrs))
    by false e = absurd (false≢true e)

-- a runner that has a place is at it
record HasSlot (core : Core) (r : Runner) : Type 0 where
  pub is : r ≡ runner_at core (slot_of r)
  pub within : slot_of r < RUNNERS

place-slot : (core : Core) (r : Runner) → has_place core r ≡ true → HasSlot core r
place-slot core (Runner.Task t) e =
    let parts = and_parts (same_core t.core core.id) (nat_lt t.index TASKS) e in
    record {
      is =
          ap (λ (c : CoreId). Runner.Task (let q : TaskRef = record { core = c; index = t.index } in q)) (same_core-true t.core core.id parts.0)
          ∙ ap (λ (b : Bool). cond b (Runner.Task (task_ref core t.index)) (Runner.Isr (isr_ref core (t.index - TASKS)))) (sym parts.1);
      within = omega (arith, ltb-true t.index TASKS parts.1);
    }
place-slot core (Runner.Isr i) e =
    let parts = and_parts (same_core i.core core.id) (nat_lt i.index ISRS) e in
    let high : nat_lt (TASKS + i.index) TASKS ≡ false = grind (arith, nat_tests) in
    let back : i.index ≡ TASKS + i.index - TASKS = omega arith in
    record {
      is =
          ap (λ (c : CoreId). Runner.Isr (let q : IsrRef = record { core = c; index = i.index } in q)) (same_core-true i.core core.id parts.0)
          ∙ ap (λ (n : ℕ). Runner.Isr (isr_ref core n)) back
          ∙ ap (λ (b : Bool). cond b (Runner.Task (task_ref core (TASKS + i.index))) (Runner.Isr (isr_ref core (TASKS + i.index - TASKS)))) (sym high);
      within = omega (arith, ltb-true i.index ISRS parts.1);
    }

-- and it is at no other place
apart : (core : Core) (r : Runner) (m : ℕ) → (m ≡ slot_of r → ⊥) → same_runner r (runner_at core m) ≡ false
apart core r m other =
    false_from_ne_true (same_runner r (runner_at core m)) (λ q. other (slot-at m ∙ ap slot_of (sym (same_runner-true r (runner_at core m) q))))
  where
    slot-at : (n : ℕ) → n ≡ slot_of (runner_at core n)
    slot-at n = cases (nat_lt n TASKS) refl
      where
        cases : (b : Bool) → nat_lt n TASKS ≡ b → n ≡ slot_of (cond b (Runner.Task (task_ref core n)) (Runner.Isr (isr_ref core (n - TASKS))))
        cases true e = refl
        cases false e = omega (arith, ltb-false n TASKS e)

-- and the runner at each place has a place
runner-place : (core : Core) (n : ℕ) → n < RUNNERS → has_place core (runner_at core n) ≡ true
runner-place core n inside = by (nat_lt n TASKS) refl
  where
    by : (b : Bool) → nat_lt n TASKS ≡ b → has_place core (cond b (Runner.Task (task_ref core n)) (Runner.Isr (isr_ref core (n - TASKS)))) ≡ true
    by true e = and_from _ _ (same_core-refl core.id) e
    by false e = and_from _ _ (same_core-refl core.id) (lt-ltb (n - TASKS) ISRS (omega (arith, inside, ltb-false n TASKS e)))

module _ (core : Core) (e : Entry) (h : History) where
  -- The row of the runner at a place, in the history and in one with an entry that changes the row of this runner.
  abbrev row-now : ℕ → Row
  row-now n = row_of (script_of core (runner_at core n)) (runner_at core n) h

  abbrev row-then : Option Runner → ℕ → Row
  row-then who n = row_by (script_of core (runner_at core n)) (runner_at core n) e who (row-now n)

  one-changed : (r : Runner) → HasSlot core r → rows_by (script_of core r) e (Some r) (rows_of core h) ≡ map (row-then (Some r)) (numbers_from 0 RUNNERS)
  one-changed r p =
      let here = runner_at core (slot_of r) in
      ap (slice_set (rows_of core h) (slot_of r))
      (ap (row_step (script_of core r) e) (table-at row-now 0 RUNNERS (slot_of r) (slot_of r) first_row (omega arith) p.within)
      ∙ ap (λ (q : Runner). row_step (script_of core q) e (row-now (slot_of r))) p.is
      ∙ sym (cond-true (same_runner r here) (row_step (script_of core here) e (row-now (slot_of r))) (row-now (slot_of r)) (subst (λ (q : Runner). same_runner r q ≡ true) p.is (same_runner-refl r))))
      ∙ table-set row-now (row-then (Some r)) 0 RUNNERS (slot_of r) (slot_of r) (omega arith) p.within
      (λ m other. sym (cond-false (same_runner r (runner_at core m)) (row_step (script_of core (runner_at core m)) e (row-now m)) (row-now m) (apart core r m other)))

  -- A runner with no place has no row, so an entry of it changes none.
  none-changed : (r : Runner) → has_place core r ≡ false → rows_of core h ≡ map (row-then (Some r)) (numbers_from 0 RUNNERS)
  none-changed r none =
      table-below row-now (row-then (Some r)) 0 RUNNERS
      (λ n inside. sym (cond-false (same_runner r (runner_at core n)) (row_step (script_of core (runner_at core n)) e (row-now n)) (row-now n) (elsewhere n inside)))
    where
      elsewhere : (n : ℕ) → n < 0 + RUNNERS → same_runner r (runner_at core n) ≡ false
      elsewhere n inside = false_from_ne_true (same_runner r (runner_at core n)) (λ q. false≢true (sym none ∙ ap (has_place core) (same_runner-true r (runner_at core n) q) ∙ runner-place core n (omega (arith, inside))))

  rows-law : (who : Option Runner) → rows_after core e who (rows_of core h) ≡ map (row-then who) (numbers_from 0 RUNNERS)
  rows-law None = refl
  rows-law (Some r) = by (has_place core r) refl
    where
      by : (b : Bool) → has_place core r ≡ b → cond b (rows_by (script_of core r) e (Some r) (rows_of core h)) (rows_of core h) ≡ map (row-then (Some r)) (numbers_from 0 RUNNERS)
      by true on = one-changed r (place-slot core r on)
      by false off = none-changed r off

-- An entry does to the rows what it does to each runner's row of the history.
rows-stand : (core : Core) (e : Entry) (h : History) → rows_after core e (runner_of (runner_of_job (running_job h)) e) (rows_of core h) ≡ rows_of core (e ∷ h)
rows-stand core e h = rows-law core e h (runner_of (runner_of_job (running_job h)) e)

-- ---- the whole state

queued-stand : (e : Entry) (h : History) → queued_after e (map (λ (d : CoreId). queued_count d h) core_ids) ≡ map (λ (d : CoreId). queued_count d (e ∷ h)) core_ids
queued-stand (Noted (Queued to x)) h = counts_any (λ (d : CoreId). queued_count d h) to
queued-stand e h = refl

received-stand : (e : Entry) (h : History) → received_after e (map (λ (s : CoreId). received_count s h) core_ids) ≡ map (λ (s : CoreId). received_count s (e ∷ h)) core_ids
received-stand (Took (Item.Received from number m)) h = counts_any (λ (s : CoreId). received_count s h) from
received-stand e h = refl

-- the state after any entry is that of the history with that entry
pub state-stands : (v : View) (e : Entry) (h : History) → are_clocks_within v.own ≡ true → state_after e (state_of v h) ≡ state_of v (e ∷ h)
state-stands v e h within = λ i. record {
  view = v;
  progress = record (progress_of v (e ∷ h)) { entries = add-one (length h) i };
  tasks = record (tasks_of v (e ∷ h)) { rows = rows-stand v.own e h i };
  clocks = after v.own e h within i;
  tables = tables-after v.own e h within i;
  border = record (border_of (e ∷ h)) { queued = queued-stand e h i; received = received-stand e h i };
}

-- ---- an entry of a runner that has a place

-- The state after an entry, if all rows change as the entry says.
abbrev pub state_by : Entry → KernelState → KernelState
state_by e s = record (state_after e s) { tasks = jobs_by (script_for s.view.own (runner_by e s.tasks)) e s.progress.entries s.tasks }

-- If the runner is the core's own, all rows change as the entry says.
pub own-step : {priorities room : ℕ} {old new : KernelState} (e : Entry) → IsSound priorities room old → option_map_or (is_own_runner old.view.own) (runner_by e old.tasks) true ≡ true → new ≡ state_by e old → new ≡ state_after e old
own-step {old = old} e sound own is = is ∙ ap (λ (b : Bool). rows-if b) (sym (placed (runner_by e old.tasks) own))
  where
    rows-if : Bool → KernelState
    rows-if b = record (state_after e old) { tasks = record (tasks_after old.view.own e old.progress.entries old.tasks) { rows = cond b (rows_by (script_for old.view.own (runner_by e old.tasks)) e (runner_by e old.tasks) old.tasks.rows) old.tasks.rows } }

    placed : (who : Option Runner) → option_map_or (is_own_runner old.view.own) who true ≡ true → is_placed old.view.own who ≡ true
    placed None own = refl
    placed (Some r) own = own-place old.view.own r sound.tasks.tasks sound.tasks.isrs own

-- ---- the state after an entry stands for the history with it

pub stands-next : {e : Entry} {old new : KernelState} → new ≡ state_after e old → are_clocks_within old.view.own ≡ true → is_setting_granted old.view.own e ≡ true → (v : View) (h : History) → Stands v h old → Stands v (e ∷ h) new
stands-next {e} is within granted v h stands =
    record {
      is = is ∙ ap (state_after e) stands.is ∙ state-stands v e h (subst (λ (s : KernelState). are_clocks_within s.view.own ≡ true) stands.is within);
      granted = and_from (is_setting_granted v.own e) _ (subst (λ (s : KernelState). is_setting_granted s.view.own e ≡ true) stands.is granted) stands.granted;
    }
