-- What a core's history says about its counters, alarms and schedule tables: how often a counter was advanced, when an
-- alarm is due, and how long a table runs.
use Rattle.std.specs.Prelude.{ℕ, suc, ◌+◌, ◌-◌, ◌%◌, ◌==◌, ◌&&◌, ◌||◌, nat_le, nat_lt, Bool, true, false, if◌then◌else◌, Option, Some, None, option_map, [], ◌∷◌}
use Rattle.std.specs.Option.{option_map_or}
use Rattle.osbase.specs.{declared.references.CounterRef.CounterRef, declared.references.AlarmRef.AlarmRef, declared.references.TableRef.TableRef}
use Rattle.osbase.specs.History.{History, Entry, Noted, CounterIncremented, AlarmSet, AlarmCancelled, TableStarted, TableStopped, TableNext, same_core}

-- Equality of references.
abbrev pub same_counter : CounterRef → CounterRef → Bool
same_counter a b = same_core a.core b.core && (a.index == b.index)

abbrev pub same_alarm : AlarmRef → AlarmRef → Bool
same_alarm a b = same_core a.core b.core && (a.index == b.index)

abbrev pub same_table : TableRef → TableRef → Bool
same_table a b = same_core a.core b.core && (a.index == b.index)

-- ---- counters

-- How often the counter was incremented, with this entry counted too; `count` is the number before the entry. [OSEK/VDX
-- OS 2.2.3, section 9.1]
abbrev pub counts_after : CounterRef → Entry → ℕ → ℕ
counts_after c (Noted (CounterIncremented d)) count = if same_counter d c then suc count else count
counts_after c e count = count

-- How often the counter was incremented in this history.
abbrev pub counts_of : CounterRef → History → ℕ
counts_of c [] = 0
counts_of c (e ∷ h) = counts_after c e (counts_of c h)

-- The value of a counter after `count` counts. It begins at 0, and after its greatest value, `max`, it is 0 again.
-- [AUTOSAR SWS OS 4.x, OsCounterMaxAllowedValue; the code keeps the value, and no number of counts]
abbrev pub value_after : ℕ → ℕ → ℕ
value_after max count = count % suc max

-- How many counts lead from the counter's value to `start`. If the value is `start` already, they are a full turn.
-- [OSEK/VDX OS 2.2.3, section 13.6.3.4; the full turn: own]
abbrev pub counts_to : ℕ → ℕ → ℕ → ℕ
counts_to max value start = (start + max - value) % suc max + 1

-- ---- alarms

-- The last setting of an alarm: the count at which it expires first, its cycle (0 for an alarm that expires once), and
-- the number of counts of its counter since it was set.
pub record AlarmSetting : Type 0 where
  pub first : ℕ
  pub cycle : ℕ
  pub counts : ℕ

-- The setting after one more count of the alarm's counter.
abbrev pub one_count_more : AlarmSetting → AlarmSetting
one_count_more setting = record setting { counts = suc setting.counts }

-- What an entry does to the setting of an alarm with this counter: the alarm is set anew or cancelled, or one more
-- count has passed since it was set. [OSEK/VDX OS 2.2.3, section 9.2 and 13.6.3.3 to 13.6.3.5]
abbrev pub alarm_after : CounterRef → AlarmRef → Entry → Option AlarmSetting → Option AlarmSetting
alarm_after c a (Noted (AlarmSet b first cycle)) setting = if same_alarm b a then Some (record { first = first; cycle = cycle; counts = 0 }) else setting
alarm_after c a (Noted (AlarmCancelled b)) setting = if same_alarm b a then None else setting
alarm_after c a (Noted (CounterIncremented d)) setting = if same_counter d c then option_map one_count_more setting else setting
alarm_after c a e setting = setting

-- The last setting of an alarm with this counter, and the counts since; none if the alarm was never set, or was
-- cancelled since.
abbrev pub alarm_of : CounterRef → AlarmRef → History → Option AlarmSetting
alarm_of c a [] = None
alarm_of c a (e ∷ h) = alarm_after c a e (alarm_of c a h)

-- A setting that a service or an autostart may make: the first count is at least 1 and at most a full turn of the
-- counter, and the cycle is at most `max`, the counter's greatest value. [OSEK/VDX OS 2.2.3, section 13.6.3.3 and
-- 13.6.3.4]
abbrev pub is_in_turn : ℕ → AlarmSetting → Bool
is_in_turn max setting = nat_lt 0 setting.first && nat_le setting.first (suc max) && nat_le setting.cycle max

-- The alarm is not set, or its setting is one that a service or an autostart may make.
abbrev pub is_granted : ℕ → Option AlarmSetting → Bool
is_granted max setting = option_map_or (is_in_turn max) setting true

-- The alarm is due at the count that it has reached. That is the first count or, if it has a cycle, the first plus a
-- multiple of the cycle.
-- [OSEK/VDX OS 2.2.3, section 9.2 and 13.6.3.3]
abbrev pub is_due_count : AlarmSetting → Bool
is_due_count setting = (setting.counts == setting.first) || (nat_lt 0 setting.cycle && nat_lt setting.first setting.counts && ((setting.counts - setting.first) % setting.cycle == 0))

-- The alarm is set, and is due at the count that it has reached.
abbrev pub is_due : Option AlarmSetting → Bool
is_due setting = option_map_or is_due_count setting false

-- The alarm will be due again: it has a cycle, or has not reached its first count. [OSEK/VDX OS 2.2.3, section 9.2]
abbrev pub will_be_due : AlarmSetting → Bool
will_be_due setting = nat_lt 0 setting.cycle || nat_lt setting.counts setting.first

-- The alarm is in use: it is set and will be due again. An alarm without a cycle is no longer in use once it has
-- reached the count at which it is due. Its line `alarm A` comes after that count.
abbrev pub is_in_use : Option AlarmSetting → Bool
is_in_use setting = option_map_or will_be_due setting false

-- How many counts are left until the alarm is due next. [OSEK/VDX OS 2.2.3, section 13.6.3.2]
abbrev pub counts_left : AlarmSetting → ℕ
counts_left setting = if nat_lt setting.counts setting.first then setting.first - setting.counts else setting.cycle - (setting.counts - setting.first) % setting.cycle

-- The counts that are left until the alarm is due next; none if the alarm is not in use.
abbrev pub left_of : Option AlarmSetting → Option ℕ
left_of None = None
left_of (Some setting) = if will_be_due setting then Some (counts_left setting) else None

-- ---- schedule tables

-- A running table: `wait` is the number of counts from its start to its first period, and `counts` is the number of
-- counts of its counter since its start.
pub record TableRun : Type 0 where
  pub wait : ℕ
  pub counts : ℕ

-- A table is stopped, waits for the end of a period of another table, or runs. [AUTOSAR SWS OS 4.x,
-- ScheduleTableStatusType]
pub data TableState : Type 0 where
  Stopped : TableState
  NextOf : TableRef → TableState
  Running : TableRun → TableState

-- The state of a table at its start: its first period begins after `wait` counts.
abbrev pub started_after : ℕ → TableState
started_after wait = Running (record { wait = wait; counts = 0 })

-- The state of a table after one more count of its counter. Only the state of a table that runs changes.
abbrev pub counted_once : TableState → TableState
counted_once (Running run) = Running (record run { counts = suc run.counts })
counted_once state = state

-- What an entry does to the state of a table with this counter. If one table begins to wait for another, only the state
-- of the waiting table changes. [AUTOSAR SWS OS 4.x, section 7.3]
abbrev pub table_after : CounterRef → TableRef → Entry → TableState → TableState
table_after c s (Noted (TableStarted t wait)) state = if same_table t s then started_after wait else state
table_after c s (Noted (TableStopped t)) state = if same_table t s then Stopped else state
table_after c s (Noted (TableNext t u)) state = if same_table u s then NextOf t else state
table_after c s (Noted (CounterIncremented d)) state = if same_counter d c then counted_once state else state
table_after c s e state = state

-- The state of a table: the last entry that starts it, stops it or lets it wait decides. Without such an entry it is
-- stopped. If it runs, its state has the counts since its start. [AUTOSAR SWS OS 4.x, section 7.3]
abbrev pub table_state : CounterRef → TableRef → History → TableState
table_state c s [] = Stopped
table_state c s (e ∷ h) = table_after c s e (table_state c s h)
