-- The value of a counter, and the value at which an alarm is due next, each as a function of the counts so far.
use Rattle.std.specs.Prelude.{ℕ, suc, ◌+◌, ◌-◌, ◌<◌, ◌≤◌, ◌^◌, ◌%◌, ◌==◌, ◌&&◌, nat_le, nat_lt, Bool, false, if◌then◌else◌, Option, Some, None}
use Rattle.std.specs.Option.{option_map_or}
use Rattle.osbase.specs.Counting.{AlarmSetting, counts_left, is_in_turn, value_after, will_be_due}
use Rattle.oscount.specs.{declared.counters.Counter.Counter, declared.alarms.Expiry.Expiry, declared.alarms.Alarm.Alarm}

-- ---- as functions of the counts so far

-- The counter with this greatest value, after `count` counts.
abbrev pub counter_at : ℕ → ℕ → Counter
counter_at max count = record { max = max; value = value_after max count }

-- The value at which an alarm with this setting is due next, after `count` counts of its counter, and its cycle. There
-- is none if the alarm is not in use, or if no service grants its setting.
abbrev pub expiry_at : ℕ → ℕ → Option AlarmSetting → Option Expiry
expiry_at max count None = None
expiry_at max count (Some setting) =
    if is_in_turn max setting && will_be_due setting then Some (record { value = (count + counts_left setting) % suc max; cycle = setting.cycle }) else None

-- The alarm with this setting, after `count` counts of its counter.
abbrev pub alarm_at : ℕ → ℕ → Option AlarmSetting → Alarm
alarm_at max count setting = record { expiry = expiry_at max count setting }

-- The setting of an alarm when it is set: no count has passed.
abbrev pub setting_of : ℕ → ℕ → AlarmSetting
setting_of first cycle = record { first = first; cycle = cycle; counts = 0 }

-- ---- what the code requires

-- A counter of a configuration. Its greatest value is below 2^31, so that one turn more still fits in 32 bits. Its
-- value is at most the greatest. [own]
pub record IsCounter (counter : Counter) : Type 0 where
  pub max : counter.max < 2 ^ 31
  pub value : counter.value ≤ counter.max

-- An expiry on a counter with the greatest value `max`: its value and its cycle are at most `max`.
pub record IsExpiryOf (max : ℕ) (expiry : Expiry) : Type 0 where
  pub value : expiry.value ≤ max
  pub cycle : expiry.cycle ≤ max

-- ---- what the code does

-- An alarm that is due next at this value of its counter, and again after each cycle, unless `cycle` is 0.
abbrev pub alarm_due : ℕ → ℕ → Alarm
alarm_due value cycle = record { expiry = Some (record { value = value; cycle = cycle }) }

-- A value, less a full turn, `max + 1`, if it is beyond the greatest value `max`.
abbrev pub wrapped : ℕ → ℕ → ℕ
wrapped max value = if nat_le value max then value else value - suc max

-- The counter after one count more.
abbrev pub advanced : Counter → Counter
advanced counter = record counter { value = wrapped counter.max (suc counter.value) }

-- The expiry of an alarm after the count at which it is due: a cycle later or, without a cycle, none.
abbrev pub due_again : Counter → Expiry → Option Expiry
due_again counter expiry = if expiry.cycle == 0 then None else Some (record expiry { value = wrapped counter.max (expiry.value + expiry.cycle) })

-- The value of the expiry is the next value of the counter.
abbrev pub is_next_value : Counter → Expiry → Bool
is_next_value counter expiry = expiry.value == (advanced counter).value

-- The expiry of an alarm after the next count of its counter.
abbrev pub expiry_beyond : Counter → Option Expiry → Option Expiry
expiry_beyond counter None = None
expiry_beyond counter (Some expiry) = if is_next_value counter expiry then due_again counter expiry else Some expiry

-- The alarm after the next count of its counter.
abbrev pub alarm_beyond : Counter → Alarm → Alarm
alarm_beyond counter alarm = record { expiry = expiry_beyond counter alarm.expiry }

-- The alarm is due at the next count of its counter.
abbrev pub is_due_next : Counter → Alarm → Bool
is_due_next counter alarm = option_map_or (is_next_value counter) alarm.expiry false

-- How many counts lead from the counter's value to that of the expiry. If both are equal, this is a full turn.
abbrev pub counts_until : Counter → Expiry → ℕ
counts_until counter expiry = if nat_lt counter.value expiry.value then expiry.value - counter.value else suc counter.max + expiry.value - counter.value
