-- An autostarted alarm is set within its counter's values.
use Rattle.std.proofs.Common.{◌≡◌, ℕ, suc, ◌<◌, ◌≤◌, true, Option, Some, None, is_some, refl, ap, sym, ◌∙◌, arith}
use Rattle.std.specs.Option.{option_map_or}
use Rattle.std.proofs.lemmas.Bool.{false≢true}
use Rattle.osbase.specs.{declared.references.AlarmRef.AlarmRef, History.same_core}
use Rattle.osplan.specs.{declared.plans.Alarm.Alarm, declared.plans.AlarmStart.AlarmStart, declared.plans.Core.Core, declared.plans.Counter.Counter, Clocked.are_clocks_within, Limits.alarm_sizes, Limits.is_alarm_within, View.own_alarm, View.own_counter}
use Rattle.osplan.proofs.{Clocked.clock-parts, Clocked.start-bounds, Counters.counter-is, Counters.counter-place}
use Rattle.osbase.proofs.{Places.some-at, Places.own-passes}
use Rattle.osclock.specs.Clocks.{max_for, max_of}
use Rattle.osclock.proofs.Law.{attached}

-- What setting an alarm asks of its first count and its cycle.
pub record StartsWithin (max : ℕ) (auto : AlarmStart) : Type 0 where
  pub later : 0 < auto.start
  pub turn : auto.start ≤ suc max
  pub cycle : auto.cycle ≤ max

own-start : (core : Core) (a : AlarmRef) (alarm : Alarm) → are_clocks_within core ≡ true → own_alarm core a ≡ Some alarm → is_alarm_within (alarm_sizes (own_counter core) alarm) ≡ true
own-start core a alarm within is = own-passes (λ (x : Alarm). is_alarm_within (alarm_sizes (own_counter core) x)) core.alarms (same_core a.core core.id) a.index alarm (clock-parts core within).starts is

pub starts-within : (core : Core) (a : AlarmRef) (alarm : Alarm) (auto : AlarmStart) → are_clocks_within core ≡ true → own_alarm core a ≡ Some alarm → alarm.auto ≡ Some auto → StartsWithin (max_for core a) auto
starts-within core a alarm auto within is starts = by (own_counter core alarm.counter) refl
  where
    by : (o : Option Counter) → own_counter core alarm.counter ≡ o → StartsWithin (max_for core a) auto
    by None none =
        let own = attached core a alarm within is in
        absurd (false≢true (ap (λ (o : Option Counter). is_some o) (sym none ∙ counter-is core alarm.counter own) ∙ some-at core.counters alarm.counter.index (counter-place core alarm.counter own).inside))
    by (Some counter) found =
        let max : max_for core a ≡ counter.max = ap (λ (o : Option Alarm). option_map_or (λ (x : Alarm). max_of core x.counter) o 0) is ∙ ap (λ (o : Option Counter). option_map_or (λ (x : Counter). x.max) o 0) found in
        let bounds = start-bounds core alarm auto counter (own-start core a alarm within is) starts found in
        record { later = omega (arith, bounds.0); turn = omega (arith, bounds.1, max); cycle = omega (arith, bounds.2, max) }
