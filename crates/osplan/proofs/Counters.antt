-- A core's own counters, by place.
use Rattle.std.proofs.Common.{◌≡◌, ℕ, ◌<◌, true, false, length}
use Rattle.std.specs.List.{slice_get}
use Rattle.osbase.specs.{declared.references.CounterRef.CounterRef, Counting.same_counter, Objects.counter_object, Objects.counter_place}
use Rattle.osbase.proofs.Places.{CounterPlace, apart, elsewhere, own-at, place-of-counter, there}
use Rattle.osplan.specs.{declared.plans.Core.Core, Counters.counter_ref, Objects.is_own_object, View.own_counter}

pub counter-place : (core : Core) (c : CounterRef) → is_own_object core (counter_object c) ≡ true → CounterPlace core.id (length core.counters) c
counter-place core c own = place-of-counter core.id (length core.counters) c own

pub counter-is : (core : Core) (c : CounterRef) → is_own_object core (counter_object c) ≡ true → own_counter core c ≡ slice_get core.counters c.index
counter-is core c own = there core.id (length core.counters) core.counters (counter_place c) own

pub counter-own : (core : Core) (n : ℕ) → n < length core.counters → is_own_object core (counter_object (counter_ref core n)) ≡ true
counter-own core n inside = own-at core.id (length core.counters) n inside

pub counter-apart : (core : Core) (c d : CounterRef) → is_own_object core (counter_object c) ≡ false → is_own_object core (counter_object d) ≡ true → same_counter c d ≡ false
counter-apart core c d other own = apart core.id (length core.counters) (counter_place c) (counter_place d) other own

pub counter-other : (core : Core) (c : CounterRef) (m : ℕ) → (m ≡ c.index → ⊥) → same_counter c (counter_ref core m) ≡ false
counter-other core c m other = elsewhere core.id (counter_place c) m other
