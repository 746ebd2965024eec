-- The services of alarms, as the alarm's core does them.
use Rattle.std.specs.Prelude.{ℕ, pos, suc, ◌<◌, ◌≤◌, ◌&&◌, nat_le, not, Bool, false, Option, Some, None, option_map, List, [], ◌∷◌}
use Rattle.std.specs.Option.{option_map_or}
use Rattle.osbase.specs.{declared.statuses.Status.TheVariants.EOsNofunc, declared.statuses.Status.TheVariants.EOsState, declared.statuses.Status.TheVariants.EOsValue, declared.references.AlarmRef.AlarmRef, History.AlarmCancelled, History.AlarmSet}
use Rattle.osplan.specs.{declared.plans.Alarm.Alarm, declared.plans.Core.Core, declared.plans.Counter.Counter, Limits.counter_sizes, Limits.is_cycle, View.own_alarm, View.own_counter}
use Rattle.osacts.specs.{Acts.Acts, Acts.nothing, Acts.notes, Seen.Seen}
use Rattle.osservice.specs.{Checks.Check, Service.Service, Service.without_value}

-- The counter of one of the core's alarms, as it is configured; none for an alarm that is not the core's own.
abbrev pub counter_for : Core → AlarmRef → Option Counter
counter_for core a = option_map_or (λ (x : Alarm). own_counter core x.counter) (own_alarm core a) None

-- The increment is at least 1 and at most the counter's greatest value. [OSEK/VDX OS 2.2.3, section 13.6.3.3]
abbrev pub is_increment : ℕ → Counter → Bool
is_increment increment counter = nat_le 1 increment && nat_le increment counter.max

-- The start is a value of the counter. [OSEK/VDX OS 2.2.3, section 13.6.3.4]
abbrev pub is_start : ℕ → Counter → Bool
is_start start counter = nat_le start counter.max

-- The alarm's counter passes the test `admits`, and the cycle is 0, or from the counter's least cycle to its greatest
-- value.
abbrev pub is_setting : (Counter → Bool) → ℕ → Core → AlarmRef → Bool
is_setting admits cycle core a = option_map_or (λ (x : Counter). admits x && is_cycle (counter_sizes x) (Some cycle)) (counter_for core a) false

-- What SetRelAlarm and SetAbsAlarm check on the alarm's core: that the alarm is not in use, and then that its counter
-- admits the setting.
-- [OSEK/VDX OS 2.2.3, section 13.6.3.3 and 13.6.3.4]
abbrev pub setting_checks : Seen → AlarmRef → Bool → List Check
setting_checks s a is_admitted = (s.is_in_use a, EOsState) ∷ (not is_admitted, EOsValue) ∷ []

-- What the core's state requires of a setting, if `max` is the counter's greatest value: the alarm first expires after
-- at least 1 count and at most a full turn, and the cycle is at most `max`.
pub record IsWithin (max first cycle : ℕ) : Type 0 where
  pub later : 0 < first
  pub turn : first ≤ suc max
  pub values : cycle ≤ max

-- The alarm is set to expire after `first` counts of its counter, and again after each cycle, unless that is 0.
-- [OSEK/VDX OS 2.2.3, section 9.2]
abbrev pub sets_alarm : AlarmRef → ℕ → ℕ → Acts
sets_alarm a first cycle = notes (AlarmSet a first cycle)

-- SetRelAlarm, on the alarm's own core. If the alarm is not in use, and its counter admits the increment and the cycle,
-- the alarm is set: it first expires after as many counts as the increment says.
-- [OSEK/VDX OS 2.2.3, section 13.6.3.3]
abbrev pub relative_setting : AlarmRef → ℕ → ℕ → Seen → Service
relative_setting a increment cycle s =
    without_value (setting_checks s a (is_setting (is_increment increment) cycle s.core a)) (sets_alarm a increment cycle)

-- SetAbsAlarm, on the alarm's own core. If the alarm is not in use, and its counter admits the start and the cycle, the
-- alarm is set: it first expires when the counter has the value `start`. If the counter has it now, this is after a
-- full turn. [OSEK/VDX OS 2.2.3, section 13.6.3.4; the full turn: own]
abbrev pub absolute_setting : AlarmRef → ℕ → ℕ → Seen → Service
absolute_setting a start cycle s =
    without_value (setting_checks s a (is_setting (is_start start) cycle s.core a)) (sets_alarm a (s.counts_to a start) cycle)

-- What CancelAlarm and GetAlarm check on the alarm's core: that the alarm is in use. [OSEK/VDX OS 2.2.3, section
-- 13.6.3.2 and 13.6.3.5]
abbrev pub use_checks : Seen → AlarmRef → List Check
use_checks s a = (not (s.is_in_use a), EOsNofunc) ∷ []

-- CancelAlarm, on the alarm's own core: if the alarm is in use, it is then no longer in use.
-- [OSEK/VDX OS 2.2.3, section 13.6.3.5]
abbrev pub cancellation : AlarmRef → Seen → Service
cancellation a s = without_value (use_checks s a) (notes (AlarmCancelled a))

-- GetAlarm, on the alarm's own core: if the alarm is in use, the value is the number of counts left until it expires.
-- [OSEK/VDX OS 2.2.3, section 13.6.3.2]
abbrev pub inquiry : AlarmRef → Seen → Service
inquiry a s = record { checks = use_checks s a; effect = nothing; value = option_map pos (s.counts_left a) }
