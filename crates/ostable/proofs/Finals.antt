-- A table that repeats has no point where its period ends.
use Rattle.std.proofs.Common.{◌≡◌, ℕ, suc, ◌-◌, ◌<◌, ◌≤◌, ◌&&◌, ◌||◌, Bool, true, false, cond, not, nat_eq, nat_le, Option, Some, None, is_none, is_some, option_and_then, option_map, List, [], ◌∷◌, map, refl, ap, sym, ◌∙◌, arith}
use Rattle.std.specs.{List.list_all, List.slice_get, Option.option_map_or}
use Rattle.std.proofs.lemmas.Bool.{and_parts, eqb-true, false≢true, leb-true, ne_eqb}
use Rattle.osbase.specs.{declared.references.CounterRef.CounterRef, declared.references.TableRef.TableRef, History.History, Objects.counter_object}
use Rattle.osbase.specs.Counting.{TableState, Stopped, NextOf, Running, counted_once, table_state}
use Rattle.osplan.specs.{declared.plans.Core.Core, declared.plans.Counter.Counter, declared.plans.ExpiryPoint.ExpiryPoint, declared.plans.Table.Table as TablePlan, Clocked.are_clocks_within, Clocked.own_table_sizes, Objects.is_own_object, View.own_counter, View.own_table}
use Rattle.osplan.specs.Limits.{counter_sizes, final_delay, is_between, is_counter_within, is_delay, is_final, is_table_timed, last_offset, point_sizes}
use Rattle.osplan.specs.Limits as limits
use Rattle.osplan.proofs.{Clocked.clock-parts, Within.between, Counters.counter-is, Counters.counter-place}
use Rattle.osbase.proofs.Places.{passes-at, some-at}
use Rattle.ostable.specs.{declared.table.Due.Due, Periods.count_in_period, Periods.counts_run, Periods.number_of_point, Ahead.due_at, Ahead.due_in, Ahead.if_any, Waiting.ends_alone}
use Rattle.ostable.specs.Tables.{AreTables, TableStates, due_by, due_table, due_table_by, due_tables_by, due_tables_in, is_timed_by, next_by, table_refs}
use Rattle.ostable.proofs.{Asked.dues-read, Asked.made-passes, Law.attached, Timed.none-later, Timed.own-passes, Timed.timed}

-- ---- the final delay

-- the least delay that a counter of a core admits is at least 1
record Steps (core : Core) (c : CounterRef) : Type 0 where
  counter : Counter
  is : own_counter core c ≡ Some counter
  least : 1 ≤ counter.min

steps : (core : Core) (c : CounterRef) → are_clocks_within core ≡ true → is_own_object core (counter_object c) ≡ true → Steps core c
steps core c within own = by (slice_get core.counters c.index) refl (some-at core.counters c.index (counter-place core c own).inside)
  where
    by : (o : Option Counter) → slice_get core.counters c.index ≡ o → is_some o ≡ true → Steps core c
    by None e some = absurd (false≢true some)
    by (Some k) e some =
        let fits = passes-at (λ (x : Counter). is_counter_within (counter_sizes x)) core.counters c.index k (clock-parts core within).bounds e in
        record {
          counter = k;
          is = counter-is core c own ∙ e;
          least = (between 1 k.max k.min (and_parts (is_between 1 1000000000 (Some k.max)) (is_between 1 k.max (Some k.min)) fits).1).0;
        }

-- the last point of a table that repeats comes before the end of the period
last-before : (core : Core) (s : TableRef) (t : TablePlan) → are_clocks_within core ≡ true → own_table core s ≡ Some t → t.repeating ≡ true → last_offset (map point_sizes t.points) < t.duration
last-before core s t within own repeating =
    let k = steps core t.counter within (attached core s t within own) in
    let order = own-passes core (λ (x : TablePlan). is_table_timed (own_table_sizes core x)) s t (clock-parts core within).timed own in
    let admits : option_map_or (limits.is_timed_by (own_table_sizes core t)) (option_map counter_sizes (own_counter core t.counter)) true ≡ true = (and_parts _ _ order).1 in
    let fits : limits.is_timed_by (own_table_sizes core t) (counter_sizes k.counter) ≡ true =
    ap (λ (o : Option Counter). option_map_or (limits.is_timed_by (own_table_sizes core t)) (option_map counter_sizes o) true) (sym k.is) ∙ admits in
    let end : is_final (own_table_sizes core t) (counter_sizes k.counter) ≡ true = (and_parts _ _ fits).1 in
    let delay : is_delay (counter_sizes k.counter) (final_delay (own_table_sizes core t)) ≡ true =
    ap (λ (b : Bool). not b || is_delay (counter_sizes k.counter) (final_delay (own_table_sizes core t))) (sym repeating)
    ∙ (and_parts (nat_le (final_delay (own_table_sizes core t)) k.counter.max) (not t.repeating || is_delay (counter_sizes k.counter) (final_delay (own_table_sizes core t))) end).1 in
    let least : k.counter.min ≤ t.duration - last_offset (map point_sizes t.points) =
    leb-true k.counter.min (t.duration - last_offset (map point_sizes t.points)) (and_parts (nat_le k.counter.min (final_delay (own_table_sizes core t))) (nat_le (final_delay (own_table_sizes core t)) k.counter.max) delay).0 in
    omega (arith, k.least, least)

none-at : (points : List ExpiryPoint) (most count : ℕ) → list_all (λ (point : ExpiryPoint). nat_le point.offset most) points ≡ true → most < count → number_of_point count points ≡ None
none-at [] most count all later = refl
none-at (p ∷ points) most count all later =
    let both = and_parts (nat_le p.offset most) (list_all (λ (point : ExpiryPoint). nat_le point.offset most) points) all in
    ap (λ (b : Bool). cond b (Some 0) (option_map suc (number_of_point count points))) (ne_eqb p.offset count (λ e. omega (arith, e, leb-true p.offset most both.0, later)))
    ∙ ap (option_map suc) (none-at points most count both.1 later)

pub none-at-end : (core : Core) (s : TableRef) (t : TablePlan) → are_clocks_within core ≡ true → own_table core s ≡ Some t → t.repeating ≡ true → number_of_point t.duration t.points ≡ None
none-at-end core s t within own repeating =
    let before = last-before core s t within own repeating in
    none-at t.points (last_offset (map point_sizes t.points)) t.duration (none-later t.points (last_offset (map point_sizes t.points)) (timed core s t within own).ascending (omega arith)) before

-- ---- what is due

-- `b` says that the table repeats
abbrev alone : Bool → Due → Bool
alone b due = not (due.ends && b) || is_none due.point

module _ (t : TablePlan) (b : Bool) (so : b ≡ true → number_of_point t.duration t.points ≡ None) where
  alone-in : (count : ℕ) → alone b (due_in t count) ≡ true
  alone-in count = by (nat_eq count t.duration) b refl so
    where
      by : (e d : Bool) → nat_eq count t.duration ≡ e → (d ≡ true → number_of_point t.duration t.points ≡ None) → (not (e && d) || is_none (number_of_point count t.points)) ≡ true
      by false d e none = refl
      by true false e none = refl
      by true true e none = ap (λ (o : Option ℕ). is_none o) (ap (λ (n : ℕ). number_of_point n t.points) (eqb-true count t.duration e) ∙ none refl)

  alone-any : (due : Due) → alone b due ≡ true → option_map_or (alone b) (if_any due) true ≡ true
  alone-any due is = by (is_some due.point || due.ends)
    where
      by : (d : Bool) → option_map_or (alone b) (cond d (Some due) None) true ≡ true
      by true = is
      by false = refl

  alone-run : (o : Option ℕ) → option_map_or (alone b) (option_and_then (λ (n : ℕ). if_any (due_in t (count_in_period t.duration n))) o) true ≡ true
  alone-run None = refl
  alone-run (Some n) = alone-any (due_in t (count_in_period t.duration n)) (alone-in (count_in_period t.duration n))

  alone-at : (state : TableState) → option_map_or (alone b) (due_at t state) true ≡ true
  alone-at Stopped = refl
  alone-at (NextOf s) = refl
  alone-at (Running run) = alone-run (counts_run run)

-- a table that repeats has no point where its period ends
alone-by : (core : Core) (s : TableRef) (h : History) → are_clocks_within core ≡ true → (o : Option TablePlan) → own_table core s ≡ o
    → option_map_or (alone (option_map_or (λ (x : TablePlan). x.repeating) o false)) (option_map_or (λ (t : TablePlan). due_at t (counted_once (table_state t.counter s h))) o None) true ≡ true
alone-by core s h within None own = refl
alone-by core s h within (Some t) own = alone-at t t.repeating (λ repeating. none-at-end core s t within own repeating) (counted_once (table_state t.counter s h))

alone-table : (core : Core) (s : TableRef) (next : Option TableRef) (o : Option Due) → option_map_or (alone (option_map_or (λ (x : TablePlan). x.repeating) (own_table core s) false)) o true ≡ true
    → option_map_or (ends_alone core) (option_map (due_table s next) o) true ≡ true
alone-table core s next None is = refl
alone-table core s next (Some due) is = is

-- no table of a counter that is due and repeats has a point where its period ends
pub ends-alone-by : (core : Core) (c : CounterRef) (h : History) → are_clocks_within core ≡ true → list_all (ends_alone core) (due_tables_by core c h) ≡ true
ends-alone-by core c h within =
    made-passes (is_timed_by core c) (due_table_by core h) (ends_alone core) (table_refs core)
    (λ s on. alone-table core s (next_by core s h) (due_by core s h) (alone-by core s h within (own_table core s) refl))

-- The same for the state of the tables.
pub ends-alone-in : (core : Core) (c : CounterRef) (x : TableStates) → AreTables core x → list_all (ends_alone core) (due_tables_in core c x) ≡ true
ends-alone-in core c x are =
    ap (λ (y : TableStates). list_all (ends_alone core) (due_tables_in core c y)) are.is
    ∙ ap (list_all (ends_alone core)) (dues-read core c are.history are.within)
    ∙ ends-alone-by core c are.history are.within
