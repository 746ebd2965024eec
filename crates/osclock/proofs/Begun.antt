-- The clocks of a core that counted nothing yet.
use Rattle.std.proofs.Common.{◌≡◌, ℕ, ◌+◌, Option, Some, None, List, [], length, map, replicate, refl, ap, sym, ◌∙◌, arith}
use Rattle.std.specs.{List.slice_get, Option.option_map_or}
use Rattle.std.proofs.lemmas.Bool.{cond-true}
use Rattle.osbase.specs.{declared.references.AlarmRef.AlarmRef, History.same_core}
use Rattle.osbase.proofs.Same.{same_core-refl}
use Rattle.osplan.specs.{declared.plans.Alarm.Alarm as AlarmValue, declared.plans.Core.Core, declared.plans.Counter.Counter as CounterValue, View.own_alarm, Counters.each_by}
use Rattle.osattached.proofs.Ranges.{listed, repeated}
use Rattle.oscount.specs.{declared.alarms.Alarm.Alarm, declared.counters.Counter.Counter, Clocks.counter_at}
use Rattle.osclock.specs.Clocks.{ClockState, alarm_by, alarm_family, alarm_ref, alarm_refs, clocks_of, counter_by, counter_ref, unset}
use Rattle.osclock.proofs.Law.{both, read}

counter-begun : (core : Core) (k : ℕ) (x : CounterValue) → slice_get core.counters k ≡ Some x → counter_at x.max 0 ≡ counter_by core (counter_ref core (0 + k)) []
counter-begun core k x at =
    ap (λ (o : Option CounterValue). counter_at (option_map_or (λ (y : CounterValue). y.max) o 0) 0) (sym at ∙ sym (cond-true (same_core core.id core.id) (slice_get core.counters k) None (same_core-refl core.id)))
    ∙ ap (λ (n : ℕ). counter_by core (counter_ref core n) []) (let none : k ≡ 0 + k = omega arith in none)

alarm-begun : (core : Core) (a : AlarmRef) → unset ≡ alarm_by core a []
alarm-begun core a = by (own_alarm core a)
  where
    by : (o : Option AlarmValue) → unset ≡ option_map_or (read core a []) o unset
    by None = refl
    by (Some x) = refl

pub begun : (core : Core) (counters : List Counter) (alarms : List Alarm) (lists : List (List AlarmRef)) (count : ℕ) → counters ≡ map (λ (c : CounterValue). counter_at c.max 0) core.counters → count ≡ length core.alarms → alarms ≡ replicate count unset
    → lists ≡ each_by core (alarm_family core) (alarm_refs core) → (let s : ClockState = record { counters = counters; alarms = alarms; attached = lists } in s) ≡ clocks_of core []
begun core counters alarms lists count is few are attached =
    both
    (is ∙ listed (λ (c : CounterValue). counter_at c.max 0) (λ n. counter_by core (counter_ref core n) []) 0 core.counters (λ k x at. counter-begun core k x at))
    (are ∙ ap (λ (n : ℕ). replicate n unset) few ∙ repeated unset (λ n. alarm_by core (alarm_ref core n) []) 0 (length core.alarms) (λ n. alarm-begun core (alarm_ref core n)))
    attached
