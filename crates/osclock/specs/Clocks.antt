-- The counters and alarms of a core: what is read off its history, and what each entry does to it.
use Rattle.std.specs.Prelude.{◌≡◌, ℕ, suc, Bool, true, if◌then◌else◌, IsTrue, IfSome, ◌<◌, ◌≤◌, ◌-◌, All, is_some, Option, Some, None, List, [], filter, length, map, option_map, slice_index_or}
use Rattle.std.specs.{List.list_all, List.slice_set, Option.option_map_or}
use Rattle.osbase.specs.{declared.objects.Object.Object, declared.references.AlarmRef.AlarmRef, declared.references.CounterRef.CounterRef, Objects.alarm_object, Objects.counter_object, Sets.numbers_from}
use Rattle.osbase.specs.History.{History, Entry, Noted, CounterIncremented, AlarmSet, AlarmCancelled}
use Rattle.osbase.specs.Counting.{AlarmSetting, alarm_of, counts_of, counts_to, is_due, is_in_turn, is_in_use, left_of, one_count_more, value_after}
use Rattle.osplan.specs.{declared.plans.Alarm.Alarm as AlarmValue, declared.plans.Core.Core, declared.plans.Counter.Counter as CounterValue, Clocked.are_clocks_within, Objects.is_own_object, View.own_alarm, View.own_counter, Counters.each_by}
pub use Rattle.osplan.specs.Counters.{counter_ref}
use Rattle.osattached.specs.Attached.{all_changed, each_changed}
use Rattle.osbase.specs.Families.{Family, goes_by, refs_of, those_by}
use Rattle.oscount.specs.{declared.counters.Counter.Counter, declared.alarms.Alarm.Alarm}
use Rattle.oscount.specs.Clocks.{IsCounter, IsExpiryOf, advanced, alarm_at, alarm_beyond, counter_at, counts_until, is_due_next, setting_of}

-- The value of each counter, when each alarm is due next, and the alarms of each counter, in index order.
pub record ClockState : Type 0 where
  pub counters : List Counter
  pub alarms : List Alarm
  pub attached : List (List AlarmRef)

-- A reference to the core's alarm of this index.
abbrev pub alarm_ref : Core → ℕ → AlarmRef
alarm_ref core index = record { core = core.id; index = index }

-- The core's alarms, as a family of objects that use its counters.
abbrev pub alarm_family : Core → Family AlarmRef AlarmValue
alarm_family core = record { own = own_alarm core; counter = λ (x : AlarmValue). x.counter; ref = alarm_ref core; count = length core.alarms }

-- The greatest value of one of the core's counters; 0 for any other counter.
abbrev pub max_of : Core → CounterRef → ℕ
max_of core c = option_map_or (λ (x : CounterValue). x.max) (own_counter core c) 0

-- The greatest value of the counter of one of the core's alarms; 0 for any other alarm.
abbrev pub max_for : Core → AlarmRef → ℕ
max_for core a = option_map_or (λ (x : AlarmValue). max_of core x.counter) (own_alarm core a) 0

-- An alarm that is not in use.
abbrev pub unset : Alarm
unset = record { expiry = None }

-- What stands for a counter that does not exist.
abbrev pub no_counter : Counter
no_counter = record { max = 0; value = 0 }

-- References to the core's alarms, each of which uses one counter, in index order. [AUTOSAR SWS OS 4.x,
-- OsAlarmCounterRef]
abbrev pub alarm_refs : Core → List AlarmRef
alarm_refs core = refs_of (alarm_family core)

-- The alarm is one of the core's, and uses this counter.
abbrev pub is_attached : Core → CounterRef → AlarmRef → Bool
is_attached core c a = goes_by (alarm_family core) c a

-- The core's alarms that use this counter, in index order.
abbrev pub attached_to : Core → CounterRef → List AlarmRef
attached_to core c = those_by (alarm_family core) c

-- ---- what is read off a history

-- A counter of the core after a history: its greatest value, and its value after the counts so far.
abbrev pub counter_by : Core → CounterRef → History → Counter
counter_by core c h = counter_at (max_of core c) (counts_of c h)

-- An alarm after a history: its setting and the counts of its counter decide when it is due. An alarm that is not the
-- core's own is not in use.
abbrev pub alarm_by : Core → AlarmRef → History → Alarm
alarm_by core a h = option_map_or (λ (x : AlarmValue). alarm_at (max_of core x.counter) (counts_of x.counter h) (alarm_of x.counter a h)) (own_alarm core a) unset

-- After a history: the value of each counter of the core, when each alarm in use is due next, and the alarms of each
-- counter, in index order.
abbrev pub clocks_of : Core → History → ClockState
clocks_of core h = record {
  counters = map (λ (n : ℕ). counter_by core (counter_ref core n) h) (numbers_from 0 (length core.counters));
  alarms = map (λ (n : ℕ). alarm_by core (alarm_ref core n) h) (numbers_from 0 (length core.alarms));
  attached = each_by core (alarm_family core) (alarm_refs core);
}

-- The last setting of an alarm; none if the alarm was never set, was cancelled since, or is not the core's own. The
-- setting says whether the alarm is in use, and when it is due. [OSEK/VDX OS 2.2.3, section 9.2 and 13.6.3.2]
abbrev pub setting_by : Core → AlarmRef → History → Option AlarmSetting
setting_by core a h = option_map_or (λ (x : AlarmValue). alarm_of x.counter a h) (own_alarm core a) None

-- The value of a counter after a history.
abbrev pub value_by : Core → CounterRef → History → ℕ
value_by core c h = value_after (max_of core c) (counts_of c h)

-- After the history, the alarm is in use.
abbrev pub is_in_use_by : Core → AlarmRef → History → Bool
is_in_use_by core a h = is_in_use (setting_by core a h)

-- How many counts are left until the alarm is due; none if the alarm is not in use.
abbrev pub left_by : Core → AlarmRef → History → Option ℕ
left_by core a h = left_of (setting_by core a h)

-- The alarm is due at the next count of its counter.
abbrev pub is_due_by : Core → AlarmRef → History → Bool
is_due_by core a h = is_due (option_map one_count_more (setting_by core a h))

-- If the entry sets an alarm, a service may make this setting: `first` is 1 to a full turn of the alarm's counter, and
-- `cycle` is at most the counter's greatest value. [OSEK/VDX OS 2.2.3, section 13.6.3.3 and 13.6.3.4]
abbrev pub is_setting_granted : Core → Entry → Bool
is_setting_granted core (Noted (AlarmSet a first cycle)) = is_in_turn (max_for core a) (setting_of first cycle)
is_setting_granted core e = true

-- Each setting of an alarm in the history is one that a service may make.
abbrev pub are_settings_granted : Core → History → Bool
are_settings_granted core h = list_all (is_setting_granted core) h

-- After how many counts a counter has the value `start`; for its present value, a full turn. [OSEK/VDX OS 2.2.3,
-- section 13.6.3.4; AUTOSAR SWS OS 4.x, SWS_Os_00351]
abbrev pub counts_to_value_by : Core → CounterRef → ℕ → History → ℕ
counts_to_value_by core c start h = counts_to (max_of core c) (value_by core c h) start

-- After how many counts the counter of an alarm has the value `start`; for its present value, a full turn. If the alarm
-- is not the core's own, 0.
abbrev pub counts_to_by : Core → AlarmRef → ℕ → History → ℕ
counts_to_by core a start h = option_map_or (λ (x : AlarmValue). counts_to_value_by core x.counter start h) (own_alarm core a) 0

-- The alarms of a counter that are due at its next count, in index order: the order in which they expire at that count.
-- [own]
abbrev pub due_by : Core → CounterRef → History → List AlarmRef
due_by core c h = filter (λ (a : AlarmRef). is_due_by core a h) (attached_to core c)

-- ---- what an entry does to the state

-- A counter as the state has it.
abbrev pub counter_in : CounterRef → ClockState → Counter
counter_in c s = slice_index_or s.counters c.index no_counter

-- An alarm as the state has it.
abbrev pub alarm_in : AlarmRef → ClockState → Alarm
alarm_in a s = slice_index_or s.alarms a.index unset

-- The counter of one of the core's alarms, as the state has it.
abbrev pub counter_for : Core → AlarmRef → ClockState → Counter
counter_for core a s = option_map_or (λ (x : AlarmValue). counter_in x.counter s) (own_alarm core a) no_counter

-- The alarms after a count of the counter `c`, whose value was that of `counter`: each of its alarms moves on, and no
-- other alarm changes. [OSEK/VDX OS 2.2.3, section 9.2]
abbrev pub all_passed : Core → CounterRef → Counter → List Alarm → List Alarm
all_passed core c counter alarms = all_changed (alarm_family core) c (λ (a : AlarmRef). alarm_beyond counter) unset alarms

-- The state after a count of this counter.
abbrev pub counted : Core → CounterRef → ClockState → ClockState
counted core c s = record s { counters = slice_set s.counters c.index (advanced (counter_in c s)); alarms = all_passed core c (counter_in c s) s.alarms }

-- The alarms after a count of `counter`: those in `attached`, which use it, move on one after another, as in the code.
abbrev pub all_beyond : Counter → List AlarmRef → List Alarm → List Alarm
all_beyond counter attached alarms = each_changed (λ (a : AlarmRef). a.index) (λ (a : AlarmRef). alarm_beyond counter) unset attached alarms

-- An alarm that is due `first` counts after its counter's present value, and again after each cycle, unless `cycle` is
-- 0. [OSEK/VDX OS 2.2.3, section 13.6.3.3]
abbrev pub due_after : Counter → ℕ → ℕ → Alarm
due_after counter first cycle = alarm_at counter.max counter.value (Some (setting_of first cycle))

abbrev pub with_alarm : AlarmRef → Alarm → ClockState → ClockState
with_alarm a alarm s = record s { alarms = slice_set s.alarms a.index alarm }

-- The state after an entry. An entry for an object that is not the core's own changes nothing.
abbrev pub clocks_by : Core → Entry → ClockState → ClockState
clocks_by core (Noted (CounterIncremented c)) s = if is_own_object core (counter_object c) then counted core c s else s
clocks_by core (Noted (AlarmSet a first cycle)) s = if is_own_object core (alarm_object a) then with_alarm a (due_after (counter_for core a s) first cycle) s else s
clocks_by core (Noted (AlarmCancelled a)) s = if is_own_object core (alarm_object a) then with_alarm a unset s else s
clocks_by core e s = s

-- ---- what is asked of the state

-- The alarm is in use.
abbrev pub is_used : Alarm → Bool
is_used alarm = is_some alarm.expiry

-- How many counts are left until the alarm is due; none if the alarm is not in use.
abbrev pub left_in : Core → AlarmRef → ClockState → Option ℕ
left_in core a s = option_map (counts_until (counter_for core a s)) (alarm_in a s).expiry

-- The alarm is due at the next count of its counter.
abbrev pub is_due_in : Core → AlarmRef → ClockState → Bool
is_due_in core a s = is_due_next (counter_for core a s) (alarm_in a s)

-- The alarms of a counter that are due at its next count, in index order.
abbrev pub due_in : Core → CounterRef → ClockState → List AlarmRef
due_in core c s = filter (λ (a : AlarmRef). is_due_in core a s) (attached_to core c)

-- After how many counts a counter has the value `start`; for its present value, a full turn.
abbrev pub counts_to_value_in : CounterRef → ℕ → ClockState → ℕ
counts_to_value_in c start s = counts_to (counter_in c s).max (counter_in c s).value start

-- After how many counts the counter of an alarm has the value `start`; for its present value, a full turn.
abbrev pub counts_to_in : Core → AlarmRef → ℕ → ClockState → ℕ
counts_to_in core a start s = counts_to (counter_for core a s).max (counter_for core a s).value start

-- The greatest value of the counter is `most`, and the counter is within the bounds of `IsCounter`.
pub record IsCounterOf (most : ℕ) (counter : Counter) : Type 0 where
  pub max : counter.max ≡ most
  pub within : IsCounter counter

-- If the alarm is in use, its cycle and the value at which it is due next are at most `max`.
abbrev pub IsBounded : ℕ → Alarm → Type 0
IsBounded max alarm = IfSome alarm.expiry (IsExpiryOf max)

-- Each alarm of `attached` has a place in the list `alarms`. If it is in use, its cycle and the value at which it is
-- due next are at most `max`, the greatest value of its counter.
pub record AreAlarmsOf (max : ℕ) (attached : List AlarmRef) (alarms : List Alarm) : Type 0 where
  pub places : All (λ (a : AlarmRef). a.index < length alarms) attached
  pub bounded : All (λ (a : AlarmRef). IsBounded max (slice_index_or alarms a.index unset)) attached

-- The counts are at least one, and at most a full turn of a counter with this greatest value.
pub record IsWithinTurn (max counts : ℕ) : Type 0 where
  pub later : 0 < counts
  pub turn : counts ≤ suc max

-- `s` is what `clocks_of` gives for some history of the core, and the core's counters, alarms and tables are within
-- their limits. So each value is at most its counter's greatest. [own]
pub record AreClocks (core : Core) (s : ClockState) : Type 0 where
  pub within : IsTrue (are_clocks_within core)
  pub history : History
  pub is : s ≡ clocks_of core history

-- `s` is a state of the core's counters and alarms, as `AreClocks` says, and `object` is one of the core's own.
pub record AreClocksWith (core : Core) (object : Object) (s : ClockState) : Type 0 where
  pub clocks : AreClocks core s
  pub own : IsTrue (is_own_object core object)

-- For the next `counts` counts of its counter, the alarm is not due.
abbrev pub IsQuiet : ℕ → Counter → Alarm → Type 0
IsQuiet counts counter alarm = IfSome alarm.expiry (λ x. counts ≤ counts_until counter x - 1)

-- For as many counts of each counter as `quiet` says, none of the counter's alarms is due. [own]
pub record AreQuiet (quiet : List ℕ) (s : ClockState) : Type 0 where
  pub at : (n : ℕ) → All (λ (a : AlarmRef). IsQuiet (slice_index_or quiet n 0) (slice_index_or s.counters n no_counter) (alarm_in a s)) (slice_index_or s.attached n [])
