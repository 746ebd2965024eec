-- The objects of one kind on a core that use its counters: its alarms or its schedule tables.
use Rattle.std.specs.Prelude.{◌≡◌, ◌<◌, ◌&&◌, nat_lt, ℕ, Bool, false, IsTrue, Option, Some, List, filter, map, option_map}
use Rattle.std.specs.Option.{option_map_or}
use Rattle.osbase.specs.{declared.objects.Place.Place, declared.references.CoreId.CoreId, declared.references.CounterRef.CounterRef, Counting.same_counter, History.same_core, Objects.counter_place, Sets.numbers_from}

-- The place is on the core, and its index is below this count.
abbrev pub is_place_on : CoreId → ℕ → Place → Bool
is_place_on core count p = same_core p.core core && nat_lt p.index count

-- A counter of a core by its index.
abbrev pub counter_at : CoreId → ℕ → CounterRef
counter_at core index = record { core = core; index = index }

-- A core's objects of one kind, with references `R` and configurations `X`: the configuration of each object, the
-- counter of a configuration, the reference of each index, and the number of objects.
pub record Family (R X : Type 0) : Type 0 where
  pub own : R → Option X
  pub counter : X → CounterRef
  pub ref : ℕ → R
  pub count : ℕ

-- References to all objects of the family, in index order.
abbrev pub refs_of : {R X : Type 0} → Family R X → List R
refs_of f = map f.ref (numbers_from 0 f.count)

-- The reference is to one of the core's own objects, and that object's configuration refers to this counter.
-- [AUTOSAR SWS OS 4.x, OsAlarmCounterRef and OsScheduleTableCounterRef]
abbrev pub goes_by : {R X : Type 0} → Family R X → CounterRef → R → Bool
goes_by {R} {X} f c r = option_map_or (λ (x : X). same_counter c (f.counter x)) (f.own r) false

-- References to the family's objects that use this counter, in index order.
abbrev pub those_by : {R X : Type 0} → Family R X → CounterRef → List R
those_by f c = filter (goes_by f c) (refs_of f)

-- `r` is the reference of index `n`, and the configuration of its object refers to `counter`. That counter is on the
-- core and has an index below `counters`.
pub record IsObjectOf {R X : Type 0} (core : CoreId) (counters : ℕ) (f : Family R X) (n : ℕ) (counter : CounterRef) (r : R) : Type 0 where
  pub here : r ≡ f.ref n
  pub refers : option_map f.counter (f.own (f.ref n)) ≡ Some counter
  pub own : IsTrue (is_place_on core counters (counter_place counter))
  pub inside : counter.index < counters
