-- What holds of the clocks of a core within its limits.
use Rattle.std.proofs.Common.{◌≡◌, ℕ, suc, ◌+◌, ◌-◌, ◌<◌, ◌≤◌, ◌^◌, ◌%◌, Bool, true, false, cond, ◌&&◌, nat_le, All, IfSome, Option, Some, None, List, [], length, refl, ap, sym, subst, ◌∙◌, arith, get_or}
use Rattle.std.specs.{List.slice_get, Option.option_map_or}
use Rattle.std.proofs.{Math.Nat.mod-eq_of_lt, Math.Nat.mod-lt, lemmas.Bool.and_parts, lemmas.Bool.leb-true, lemmas.List.Elements.All-same}
use Rattle.osbase.specs.{declared.references.AlarmRef.AlarmRef, declared.references.CounterRef.CounterRef, Objects.alarm_object, Objects.counter_object, declared.limits.TheConstants.COUNTERS}
use Rattle.osbase.specs.Counting.{AlarmSetting, alarm_of, counts_left, counts_of, counts_to, is_in_turn, will_be_due}
use Rattle.osplan.specs.{declared.plans.Alarm.Alarm as AlarmValue, declared.plans.Core.Core, declared.plans.Counter.Counter as CounterValue, Clocked.are_clocks_within, Objects.is_own_object, View.own_alarm}
use Rattle.osplan.proofs.{Clocked.clock-parts, Counters.counter-is, Counters.counter-place}
use Rattle.osbase.proofs.Places.{passes-at}
use Rattle.osattached.proofs.{Members.list-at as own-list, Own.own-inside, Own.those-inside, Ranges.length-table}
use Rattle.oscount.specs.{declared.alarms.Alarm.Alarm, declared.alarms.Expiry.Expiry, declared.counters.Counter.Counter}
use Rattle.oscount.specs.Clocks.{IsExpiryOf, counter_at, expiry_at}
use Rattle.osclock.specs.Clocks.{AreClocks, ClockState, IsBounded, IsCounterOf, IsWithinTurn, alarm_by, alarm_family, alarm_in, alarm_ref, attached_to, counter_by, counter_for, counter_in, counter_ref, max_for, max_of, no_counter, unset}
use Rattle.osclock.proofs.{Attached.attached-all, Attached.attached-max, Attached.attached-own, Places.placed}
use Rattle.osclock.proofs.Law.{alarm-at, attached, counter-at, read}

-- ---- limits

pub max-few : (core : Core) (c : CounterRef) → are_clocks_within core ≡ true → is_own_object core (counter_object c) ≡ true → max_of core c < 2 ^ 31
max-few core c within own =
    subst (λ (o : Option CounterValue). option_map_or (λ (x : CounterValue). x.max) o 0 < 2 ^ 31) (sym (counter-is core c own)) (by (slice_get core.counters c.index) refl)
  where
    by : (o : Option CounterValue) → slice_get core.counters c.index ≡ o → option_map_or (λ (x : CounterValue). x.max) o 0 < 2 ^ 31
    by None e = omega arith
    by (Some x) e = omega (arith, leb-true x.max 1000000000 (and_parts (nat_le 1 x.max) (nat_le x.max 1000000000) (passes-at (λ (y : CounterValue). nat_le 1 y.max && nat_le y.max 1000000000) core.counters c.index x (clock-parts core within).maxima e)).1)

-- ---- lengths

pub counters-length : (core : Core) (s : ClockState) → AreClocks core s → length s.counters ≡ length core.counters
counters-length core s clocks =
    ap (λ (t : ClockState). length t.counters) clocks.is
    ∙ length-table (λ (n : ℕ). counter_by core (counter_ref core n) clocks.history) (length core.counters)

pub alarms-length : (core : Core) (s : ClockState) → AreClocks core s → length s.alarms ≡ length core.alarms
alarms-length core s clocks =
    ap (λ (t : ClockState). length t.alarms) clocks.is
    ∙ length-table (λ (n : ℕ). alarm_by core (alarm_ref core n) clocks.history) (length core.alarms)

pub lists-length : (core : Core) (s : ClockState) → AreClocks core s → length s.attached ≡ length core.counters
lists-length core s clocks =
    ap (λ (t : ClockState). length t.attached) clocks.is
    ∙ length-table (λ (n : ℕ). attached_to core (counter_ref core n)) (length core.counters)

pub counter-inside : (core : Core) (s : ClockState) (c : CounterRef) → AreClocks core s → is_own_object core (counter_object c) ≡ true → c.index < length s.counters
counter-inside core s c clocks own = omega (arith, counters-length core s clocks, (counter-place core c own).inside)

pub alarm-inside : (core : Core) (s : ClockState) (a : AlarmRef) → AreClocks core s → is_own_object core (alarm_object a) ≡ true → a.index < length s.alarms
alarm-inside core s a clocks own = omega (arith, alarms-length core s clocks, own-inside (placed core) a own)

pub counter-few : (core : Core) (s : ClockState) (c : CounterRef) → AreClocks core s → is_own_object core (counter_object c) ≡ true → c.index < COUNTERS
counter-few core s c clocks own = omega (arith, (counter-place core c own).inside, (clock-parts core clocks.within).counters)

-- the list that is kept for a counter has the alarms that are attached to it
pub list-at : (core : Core) (s : ClockState) (c : CounterRef) → AreClocks core s → is_own_object core (counter_object c) ≡ true → get_or s.attached c.index [] ≡ attached_to core c
list-at core s c clocks own =
    ap (λ (t : ClockState). get_or t.attached c.index []) clocks.is ∙ own-list core.id (alarm_family core) (length core.counters) c (counter-place core c own)

-- ---- values

pub counter-within : (core : Core) (s : ClockState) (c : CounterRef) → AreClocks core s → is_own_object core (counter_object c) ≡ true → IsCounterOf (max_of core c) (counter_in c s)
counter-within core s c clocks own =
    subst (IsCounterOf (max_of core c)) (sym (ap (counter_in c) clocks.is ∙ counter-at core c clocks.history own)) (record { max = refl; within = record { max = max-few core c clocks.within own; value = omega (arith, below) } })
  where
    below : counts_of c clocks.history % suc (max_of core c) < suc (max_of core c)
    below = mod-lt (counts_of c clocks.history) (omega arith)

-- the counts to a value are within a turn
pub turn-within : (max value start : ℕ) → counts_to max value start ≤ suc max
turn-within max value start =
    let less : (start + max - value) % suc max < suc max = mod-lt (start + max - value) (omega arith) in
    omega (arith, less)

pub counts-within : (max value start : ℕ) → IsWithinTurn max (counts_to max value start)
counts-within max value start = record { later = omega arith; turn = turn-within max value start }

-- the counter of an own alarm
pub counter-of : (core : Core) (s : ClockState) (a : AlarmRef) → AreClocks core s → is_own_object core (alarm_object a) ≡ true → IsCounterOf (max_for core a) (counter_for core a s)
counter-of core s a clocks own = by (own_alarm core a) refl
  where
    by : (o : Option AlarmValue) → own_alarm core a ≡ o → IsCounterOf (option_map_or (λ (x : AlarmValue). max_of core x.counter) o 0) (option_map_or (λ (x : AlarmValue). counter_in x.counter s) o no_counter)
    by None e = record { max = refl; within = record { max = omega arith; value = omega arith } }
    by (Some x) e = counter-within core s x.counter clocks (attached core a x clocks.within e)

bounded-at : (max count : ℕ) (x : Option AlarmSetting) → IfSome (expiry_at max count x) (IsExpiryOf max)
bounded-at max count None = tt
bounded-at max count (Some x) = by (is_in_turn max x) (will_be_due x) refl
  where
    below : (count + counts_left x) % suc max < suc max
    below = mod-lt (count + counts_left x) (omega arith)

    by : (turn due : Bool) → is_in_turn max x ≡ turn → IfSome {T = Expiry} (cond (turn && due) (Some (record { value = (count + counts_left x) % suc max; cycle = x.cycle })) None) (IsExpiryOf max)
    by false due e = tt
    by true false e = tt
    by true true e = record { value = omega (arith, below); cycle = leb-true x.cycle max (and_parts _ (nat_le x.cycle max) e).1 }

-- an own alarm's expiry is within its counter's values
pub alarm-within : (core : Core) (s : ClockState) (a : AlarmRef) → AreClocks core s → is_own_object core (alarm_object a) ≡ true → IsBounded (max_for core a) (alarm_in a s)
alarm-within core s a clocks own =
    subst (IsBounded (max_for core a)) (sym (ap (alarm_in a) clocks.is ∙ alarm-at core a clocks.history own)) (by (own_alarm core a))
  where
    by : (o : Option AlarmValue) → IsBounded (option_map_or (λ (x : AlarmValue). max_of core x.counter) o 0) (option_map_or (read core a clocks.history) o unset)
    by None = tt
    by (Some x) = bounded-at (max_of core x.counter) (counts_of x.counter clocks.history) (alarm_of x.counter a clocks.history)

-- a counter whose value is at most its greatest is the counter after that many counts
pub counter-stands : (counter : Counter) → counter.value ≤ counter.max → counter ≡ counter_at counter.max counter.value
counter-stands counter value = ap (λ v. let k : Counter = record { max = counter.max; value = v } in k) (sym (mod-eq_of_lt (omega (arith, value))))

-- what a count and a query of the due alarms require of the counter's own alarms
pub attached-inside : (core : Core) (c : CounterRef) (t s : ClockState) (list : List AlarmRef) → t ≡ s → AreClocks core s → is_own_object core (counter_object c) ≡ true → list ≡ get_or t.attached c.index []
    → All (λ (a : AlarmRef). a.index < length t.alarms) list
attached-inside core c t s list same clocks own own_list =
    subst (λ (u : ClockState). All (λ (a : AlarmRef). a.index < length u.alarms) list) (sym same)
    (All-same (λ (a : AlarmRef). a.index < length s.alarms) list (attached_to core c) (own_list ∙ ap (λ (u : ClockState). get_or u.attached c.index []) same ∙ list-at core s c clocks own)
    (those-inside (placed core) c (length s.alarms) (alarms-length core s clocks)))

pub attached-bounded : (core : Core) (c : CounterRef) (t s : ClockState) (counter : Counter) (list : List AlarmRef) → t ≡ s → AreClocks core s → is_own_object core (counter_object c) ≡ true → counter ≡ counter_in c s → list ≡ get_or t.attached c.index []
    → All (λ (a : AlarmRef). IsBounded counter.max (alarm_in a t)) list
attached-bounded core c t s counter list same clocks own value own_list =
    subst (λ (u : ClockState). All (λ (a : AlarmRef). IsBounded counter.max (alarm_in a u)) list) (sym same)
    (All-same (λ (a : AlarmRef). IsBounded counter.max (alarm_in a s)) list (attached_to core c) (own_list ∙ ap (λ (u : ClockState). get_or u.attached c.index []) same ∙ list-at core s c clocks own)
    (attached-all core c (λ (a : AlarmRef). IsBounded counter.max (alarm_in a s))
    (λ a on. subst (λ (m : ℕ). IsBounded m (alarm_in a s)) (attached-max core c a on ∙ sym (ap (λ (k : Counter). k.max) value ∙ (counter-within core s c clocks own).max)) (alarm-within core s a clocks (attached-own core c a on)))))

-- what a query of the counts that are left requires of the alarm
pub value-within : (max : ℕ) (alarm : Alarm) → IsBounded max alarm → IfSome alarm.expiry (λ x. x.value ≤ max)
value-within max alarm bounded = by alarm.expiry bounded
  where
    by : (o : Option Expiry) → IfSome o (IsExpiryOf max) → IfSome o (λ x. x.value ≤ max)
    by None h = tt
    by (Some x) h = h.value
