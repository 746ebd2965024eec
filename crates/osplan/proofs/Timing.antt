-- The limits of a core's tables, by name: their numbers, their points, and what their counter admits.
use Rattle.std.proofs.Common.{◌≡◌, ℕ, is_some, ◌-◌, ◌≤◌, Bool, true, not, ◌&&◌, ◌||◌, nat_le, nat_lt, List, [], ◌∷◌, length, map, Option, Some, None, refl, sym, ap, subst, ◌∙◌, arith}
use Rattle.std.specs.List.{list_all, slice_get}
use Rattle.std.proofs.{lemmas.Bool.and_parts, lemmas.Bool.and_from, lemmas.Bool.false≢true, lemmas.Bool.leb-true, lemmas.Bool.le-leb, lemmas.Bool.ltb-true, lemmas.List.length-map, lemmas.List.Folds.list_all-map}
use Rattle.osbase.specs.{declared.references.CounterRef.CounterRef, declared.references.TableRef.TableRef, History.same_core, Objects.counter_object}
use Rattle.osplan.specs.{declared.plans.Core.Core, declared.plans.Counter.Counter, declared.plans.ExpiryPoint.ExpiryPoint, declared.plans.Table.Table, declared.plans.TableStart.TableStart, Clocked.are_clocks_within, Clocked.is_table_attached, Clocked.own_table_sizes, Objects.is_own_object, View.own_counter, View.own_table}
use Rattle.osplan.specs.Limits.{TableSizes, are_ascending, counter_sizes, delays, final_delay, first_offset, is_counter_within, is_delay, is_initial, is_point_within, is_table_timed, is_table_within, is_timed_by, last_offset, point_sizes, table_sizes}
use Rattle.osplan.proofs.{Clocked.clock-parts, Counters.counter-is, Counters.counter-place, Within.between}
use Rattle.osbase.proofs.Places.{own-passes, passes-at, some-at}

-- ---- if all of a core's tables pass a test, each does

module _ (core : Core) (s : TableRef) (table : Table) (within : are_clocks_within core ≡ true) (is : own_table core s ≡ Some table) where
  pub own-table-within : is_table_within (own_table_sizes core table) ≡ true
  own-table-within = own-passes (λ (t : Table). is_table_within (own_table_sizes core t)) core.tables (same_core s.core core.id) s.index table (clock-parts core within).sizes is

  pub own-table-timed : is_table_timed (own_table_sizes core table) ≡ true
  own-table-timed = own-passes (λ (t : Table). is_table_timed (own_table_sizes core t)) core.tables (same_core s.core core.id) s.index table (clock-parts core within).timed is

  -- The table's counter is one of the core's own.
  pub own-table-attached : is_own_object core (counter_object table.counter) ≡ true
  own-table-attached = own-passes (is_table_attached core) core.tables (same_core s.core core.id) s.index table (clock-parts core within).tables_attached is

-- ---- points by ascending offset come no later than the last

pub points-within : (most : ℕ) (points : List ExpiryPoint) → are_ascending (map point_sizes points) ≡ true → last_offset (map point_sizes points) ≤ most → list_all (λ (point : ExpiryPoint). nat_le point.offset most) points ≡ true
points-within most [] up last = refl
points-within most (point ∷ []) up last = and_from _ _ (le-leb point.offset most last) refl
points-within most (point ∷ next ∷ points) up last =
    let parts = and_parts (nat_lt point.offset next.offset) (are_ascending (map point_sizes (next ∷ points))) up in
    let later = points-within most (next ∷ points) parts.1 last in
    let second = leb-true next.offset most (and_parts (nat_le next.offset most) _ later).0 in
    and_from _ _ (le-leb point.offset most (omega (arith, second, ltb-true point.offset next.offset parts.0))) later

-- ---- what holds of one table

pub record TableParts (table : Table) : Type 0 where
  pub lasting : 1 ≤ table.duration
  pub duration : table.duration ≤ 1000000000
  pub some : 1 ≤ length table.points
  pub few : length table.points ≤ 16
  pub ascending : are_ascending (map point_sizes table.points) ≡ true
  pub offsets : list_all (λ (point : ExpiryPoint). nat_le point.offset table.duration) table.points ≡ true
  pub actions : list_all (λ (point : ExpiryPoint). nat_le 1 (length point.actions) && nat_le (length point.actions) 8) table.points ≡ true

pub table-parts : (core : Core) (table : Table) → is_table_within (own_table_sizes core table) ≡ true → is_table_timed (own_table_sizes core table) ≡ true → TableParts table
table-parts core table within timed =
    let told = simp (list_all-map is_point_within) at within in
    let up : are_ascending (map point_sizes table.points) ≡ true = grind arith in
    let last : last_offset (map point_sizes table.points) ≤ table.duration = grind arith in
    let offsets = points-within table.duration table.points up last in
    grind (arith, length-map table.points point_sizes)

-- ---- what holds of one table by its counter

pub record DelayParts (table : Table) (counter : Counter) : Type 0 where
  pub first : first_offset (map point_sizes table.points) ≤ counter.max
  pub delays : list_all (λ delay. nat_le counter.min delay && nat_le delay counter.max) (delays (map point_sizes table.points)) ≡ true
  pub last : table.duration - last_offset (map point_sizes table.points) ≤ counter.max
  pub again : table.repeating ≡ true → counter.min ≤ table.duration - last_offset (map point_sizes table.points)

-- What a counter admits: the first offset, the delays between, and the final delay of a table, whether it repeats or
-- not.
admitted : (counter : Counter) (first final : ℕ) (between repeats : Bool)
    → (is_initial (counter_sizes counter) first && between && (nat_le final counter.max && (not repeats || is_delay (counter_sizes counter) final))) ≡ true
    → (first ≤ counter.max) × (between ≡ true) × (final ≤ counter.max) × (repeats ≡ true → counter.min ≤ final)
admitted counter first final between repeats h = (grind arith, grind arith, grind arith, λ again. grind arith)

module _ (core : Core) (table : Table) (counter : Counter) (found : own_counter core table.counter ≡ Some counter) where
  abbrev seen : TableSizes
  seen = table_sizes (λ (c : CounterRef). Some counter) table

  pub delay-parts : is_table_timed (own_table_sizes core table) ≡ true → DelayParts table counter
  delay-parts timed =
      let told = and_parts _ (is_timed_by seen (counter_sizes counter)) (subst (λ (o : Option Counter). is_table_timed (table_sizes (λ (c : CounterRef). o) table) ≡ true) found timed) in
      let parts = admitted counter (first_offset seen.points) (final_delay seen) (list_all (is_delay (counter_sizes counter)) (delays seen.points)) table.repeating told.1 in
      record { first = parts.0; delays = parts.1; last = parts.2; again = parts.3 }

  -- An autostart table begins after at least 1 count, and so early that its first point is within the counter's values.
  pub table-start-bounds : (auto : TableStart) → is_table_within (own_table_sizes core table) ≡ true → table.auto ≡ Some auto → (1 ≤ auto.offset) × (auto.offset ≤ counter.max - first_offset (map point_sizes table.points))
  table-start-bounds auto within starts =
      let told : is_table_within seen ≡ true = subst (λ (o : Option Counter). is_table_within (table_sizes (λ (c : CounterRef). o) table) ≡ true) found within in
      grind arith

-- ---- one of the core's own counters

pub record OwnCounter (core : Core) (c : CounterRef) : Type 0 where
  pub counter : Counter
  pub found : own_counter core c ≡ Some counter
  pub some : 1 ≤ counter.min
  pub least : counter.min ≤ counter.max
  pub most : counter.max ≤ 1000000000

pub own-counter-there : (core : Core) (c : CounterRef) → are_clocks_within core ≡ true → is_own_object core (counter_object c) ≡ true → OwnCounter core c
own-counter-there core c within own = by (slice_get core.counters c.index) refl
  where
    there : own_counter core c ≡ slice_get core.counters c.index
    there = counter-is core c own

    by : (o : Option Counter) → slice_get core.counters c.index ≡ o → OwnCounter core c
    by None none = absurd (false≢true (ap (λ (o : Option Counter). is_some o) (sym none) ∙ some-at core.counters c.index (counter-place core c own).inside))
    by (Some counter) e =
        let sizes = passes-at (λ (k : Counter). is_counter_within (counter_sizes k)) core.counters c.index counter (clock-parts core within).bounds e in
        record { counter = counter; found = there ∙ e; some = grind arith; least = grind arith; most = grind arith }
