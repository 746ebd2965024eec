-- The limits of a configuration's numbers. One test judges a text that is read, the configuration that it means, and
-- the text that is written for it. Also here: each reference of a configuration names an object of it.
-- Each limit is a test, so that a literal configuration passes it by computation.
use Rattle.std.specs.Prelude.{ℕ, ◌-◌, ◌==◌, ◌&&◌, ◌||◌, if◌then◌else◌, nat_le, nat_lt, Bool, true, false, not, Option, Some, None, is_some, option_map, unwrap_or, List, [], ◌∷◌, length, map, sum_by}
use Rattle.std.specs.{List.list_all, List.list_any, Option.option_map_or}
use Rattle.osbase.specs.declared.limits.TheConstants.{ACTIONS, ALARMS, CORES, COUNTERS, FIRST_CORES, GREATEST_BUDGET, GREATEST_DURATION, GREATEST_VALUE, ISRS, JOBS, LEVELS, MAILBOX, MODES, OPERATIONS, POINTS, POSTED, RESOURCES, SPINLOCKS, TABLES, TASKS}
use Rattle.osbase.specs.{declared.references.CoreId.CoreId, declared.references.CounterRef.CounterRef, declared.references.ModeId.ModeId, declared.references.SpinlockId.SpinlockId, declared.messages.RemoteCall.RemoteCall, declared.objects.Object.Object, declared.objects.ObjectKind.ObjectKind, Objects.counter_object, Objects.object_of_call, declared.items.CoreMode.CoreMode, declared.items.CoreMode.TheVariants.Named, declared.items.CoreMode.TheVariants.DontCare}
use Rattle.oscript.specs.{declared.Op.Op, Calls.is_action, Rows.refers_to_own_only, Rows.objects_of}
use Rattle.osplan.specs.{declared.plans.Alarm.Alarm, declared.plans.AlarmStart.AlarmStart, declared.plans.ExpiryPoint.ExpiryPoint, declared.plans.Plan.Plan, declared.plans.Core.Core, declared.plans.Counter.Counter, declared.plans.Isr.Isr, declared.plans.Resource.Resource, declared.plans.Spinlock.Spinlock, declared.plans.Table.Table, declared.plans.TableStart.TableStart, declared.plans.Task.Task, Naming.is_on, Naming.names_other, Spinlocks.are_links_ordered, Spinlocks.links_of, View.core_of, View.counter_in}
use Rattle.osplan.specs.Objects.{alarm_modes, core_scripts, has_index, is_common, most_posts_per_tick, table_actions, table_modes}

-- ---- the numbers that have limits. A number below 0 in a text counts as none.

-- The numbers of a task that have limits, and whether the task is extended: the limit of its activations depends on
-- that.
pub record TaskSizes : Type 0 where
  pub priority : Option ℕ
  pub activations : Option ℕ
  pub extended : Bool
  pub budget : Option ℕ

-- The numbers of an ISR that have limits.
pub record IsrSizes : Type 0 where
  pub level : Option ℕ
  pub budget : Option ℕ

-- The numbers of a resource that have limits: its ceiling and its lock budget.
pub record ResourceSizes : Type 0 where
  pub ceiling : Option ℕ
  pub lock : Option ℕ

-- The numbers of a counter that have limits: its greatest value, and the least cycle of an alarm.
pub record CounterSizes : Type 0 where
  pub max : Option ℕ
  pub min : Option ℕ

-- The numbers of an alarm's autostart that have limits. If the alarm refers to exactly one counter, `counter` has this
-- counter's sizes.
pub record StartSizes : Type 0 where
  pub start : Option ℕ
  pub cycle : Option ℕ
  pub counter : Option CounterSizes

-- The offset of an expiry point, and how many actions it has.
pub record PointSizes : Type 0 where
  pub offset : Option ℕ
  pub actions : ℕ

-- The sizes of a schedule table. If the table is autostarted, `auto` has the offset of its start. If the table refers
-- to exactly one counter, `counter` has this counter's sizes.
pub record TableSizes : Type 0 where
  pub duration : Option ℕ
  pub repeating : Bool
  pub points : List PointSizes
  pub auto : Option (Option ℕ)
  pub counter : Option CounterSizes

-- The sizes of a core: its number, the numbers in its start list, and the sizes of its objects. Only an autostarted
-- alarm has sizes. `posted` is how many letters the alarms and tables may add to the outbox at once. The size of a
-- script is the number of its operations.
pub record CoreSizes : Type 0 where
  pub number : Option ℕ
  pub start : List (Option ℕ)
  pub tasks : List TaskSizes
  pub isrs : List IsrSizes
  pub resources : List ResourceSizes
  pub counters : List CounterSizes
  pub alarms : List (Option StartSizes)
  pub tables : List TableSizes
  pub posted : ℕ
  pub scripts : List ℕ

-- The sizes of a configuration: the version, the number of modes and of spinlocks, the mailboxes' size, and the cores'
-- sizes.
pub record Sizes : Type 0 where
  pub version : Option ℕ
  pub modes : ℕ
  pub spinlocks : ℕ
  pub cap : Option ℕ
  pub cores : List CoreSizes

-- How many objects of a kind a core has, by its sizes.
abbrev pub count_in : ObjectKind → CoreSizes → ℕ
count_in ObjectKind.Mode s = 0
count_in ObjectKind.Spinlock s = 0
count_in ObjectKind.Task s = length s.tasks
count_in ObjectKind.Isr s = length s.isrs
count_in ObjectKind.Resource s = length s.resources
count_in ObjectKind.Counter s = length s.counters
count_in ObjectKind.Alarm s = length s.alarms
count_in ObjectKind.Table s = length s.tables

-- ---- how many objects of each kind there may be at most, on a core or common to all cores, and how many cores [own]

-- How many cores there may be at most.
abbrev pub most_cores : ℕ
most_cores = CORES

-- How many objects of a kind there may be at most: on each core, or in common to all cores.
abbrev pub most_of : ObjectKind → ℕ
most_of ObjectKind.Mode = MODES
most_of ObjectKind.Spinlock = SPINLOCKS
most_of ObjectKind.Task = TASKS
most_of ObjectKind.Isr = ISRS
most_of ObjectKind.Resource = RESOURCES
most_of ObjectKind.Counter = COUNTERS
most_of ObjectKind.Alarm = ALARMS
most_of ObjectKind.Table = TABLES

-- The most letters that alarms and tables may add to a core's outbox at once.
abbrev pub most_posted : ℕ
most_posted = POSTED

-- ---- their limits

-- There is a number, and it is within these bounds.
abbrev pub is_between : ℕ → ℕ → Option ℕ → Bool
is_between low high None = false
is_between low high (Some n) = nat_le low n && nat_le n high

-- The most jobs of a task at once: one for an extended task, 64 for any other [OSEK/VDX OS 2.2.3, section 4.3; the 64
-- is own].
abbrev pub most_activations : Bool → ℕ
most_activations true = 1
most_activations false = 64

-- A budget in ticks, of execution or of a lock, is 0 to 1,000,000,000; 0 means none [AUTOSAR SWS OS 4.x,
-- OsTaskExecutionBudget and OsTaskResourceLockBudget; the most is own].
abbrev pub is_budget : Option ℕ → Bool
is_budget budget = is_between 0 GREATEST_BUDGET budget

-- The task's priority is 0 to 31, 0 the lowest [OSEK/VDX OS 2.2.3, section 4.5; the highest is own]. Its activations
-- [OSEK/VDX OS 2.2.3, section 4.3] and its budget are within their limits.
abbrev pub is_task_within : TaskSizes → Bool
is_task_within s = is_between 0 31 s.priority && is_between 1 (most_activations s.extended) s.activations && is_budget s.budget

-- The ISR's level is 1 to 16 [AUTOSAR SWS OS 4.x, OsIsr; the levels are own], and its budget is within its limit; 0
-- means none [OsIsrExecutionBudget].
abbrev pub is_isr_within : IsrSizes → Bool
is_isr_within s = is_between 1 LEVELS s.level && is_budget s.budget

-- There are at most 16 ISRs, and each is within its limits. [own]
abbrev pub are_isrs_within : List IsrSizes → Bool
are_isrs_within isrs = nat_le (length isrs) (most_of ObjectKind.Isr) && list_all is_isr_within isrs

-- A script has at most 256 operations, of any kind. [own]
abbrev pub is_short : ℕ → Bool
is_short operations = nat_le operations OPERATIONS

-- A number in a start list, of a core that is configured or not: 0 to 255 [AUTOSAR SWS OS 4.x, StartCore; the most is
-- own].
abbrev pub is_start : Option ℕ → Bool
is_start number = is_between 0 255 number

-- A resource's ceiling, among the priorities: 0 to 31 [OSEK/VDX OS 2.2.3, section 8.5; the highest is own].
abbrev pub is_ceiling : Option ℕ → Bool
is_ceiling number = is_between 0 31 number

-- A resource's ceiling and its lock budget are within their limits [AUTOSAR SWS OS 4.x, OsTaskResourceLockBudget; that
-- all its holders have one is own].
abbrev pub is_resource_within : ResourceSizes → Bool
is_resource_within s = is_ceiling s.ceiling && is_budget s.lock

-- A counter's greatest value is 1 to 1,000,000,000, and its least cycle is 1 to the greatest value [AUTOSAR SWS OS 4.x,
-- OsCounterMaxAllowedValue and OsCounterMinCycle; the most is own].
abbrev pub is_counter_within : CounterSizes → Bool
is_counter_within s = is_between 1 GREATEST_VALUE s.max && is_between 1 (unwrap_or s.max 0) s.min

-- There are at most 8 counters, and each is within its limits. [own]
abbrev pub are_counters_within : List CounterSizes → Bool
are_counters_within counters = nat_le (length counters) (most_of ObjectKind.Counter) && list_all is_counter_within counters

-- An alarm's cycle: 0 if the alarm expires once, or the counter's least cycle to its greatest value [OSEK/VDX OS 2.2.3,
-- section 13.6.3.3].
abbrev pub is_cycle : CounterSizes → Option ℕ → Bool
is_cycle counter cycle = is_between 0 0 cycle || is_between (unwrap_or counter.min 0) (unwrap_or counter.max 0) cycle

-- An autostarted alarm first expires after at least 1 count, and after at most its counter's greatest value. Its cycle
-- is one that the counter allows [AUTOSAR SWS OS 4.x, OsAlarmAlarmTime and OsAlarmCycleTime; that it is relative is
-- own].
abbrev pub is_start_by : StartSizes → CounterSizes → Bool
is_start_by s counter = is_between 1 (unwrap_or counter.max 0) s.start && is_cycle counter s.cycle

-- The alarm's start is within the limits of its counter. If the counter is not known, any start is.
abbrev pub is_start_within : StartSizes → Bool
is_start_within s = option_map_or (is_start_by s) s.counter true

-- The alarm's start is within the limits, or the alarm is not autostarted.
abbrev pub is_alarm_within : Option StartSizes → Bool
is_alarm_within auto = option_map_or is_start_within auto true

-- There are at most 32 alarms, and each is within its limits.
abbrev pub are_alarms_within : List (Option StartSizes) → Bool
are_alarms_within alarms = nat_le (length alarms) (most_of ObjectKind.Alarm) && list_all is_alarm_within alarms

-- The offset of a table's first point; 0 if there is no point, or if the offset is below 0 (which is out of order).
abbrev pub first_offset : List PointSizes → ℕ
first_offset [] = 0
first_offset (point ∷ points) = unwrap_or point.offset 0

-- An autostarted table begins after at least 1 count, and early enough that its first point is within the counter's
-- values [AUTOSAR SWS OS 4.x, OsScheduleTableStartValue and SWS_Os_00276; that it is relative is own].
abbrev pub is_table_start : TableSizes → CounterSizes → Option ℕ → Bool
is_table_start s counter offset = is_between 1 (unwrap_or counter.max 0 - first_offset s.points) offset

-- The table's start at this offset is within the limits of its counter. If the counter is not known, any start is.
abbrev pub is_table_start_within : TableSizes → Option ℕ → Bool
is_table_start_within s offset = option_map_or (λ (counter : CounterSizes). is_table_start s counter offset) s.counter true

-- A point has 1 to 8 actions. [AUTOSAR SWS OS 4.x, SWS_Os_00407; the most is own]
abbrev pub is_point_within : PointSizes → Bool
is_point_within s = is_between 1 ACTIONS (Some s.actions)

-- A table has a duration of 1 to 1,000,000,000 and 1 to 16 points. Its points and its start are within limits. [own]
abbrev pub is_table_within : TableSizes → Bool
is_table_within s =
    is_between 1 GREATEST_DURATION s.duration && is_between 1 POINTS (Some (length s.points)) && list_all is_point_within s.points
    && option_map_or (is_table_start_within s) s.auto true

-- There are at most 8 schedule tables, and each is within its limits.
abbrev pub are_tables_within : List TableSizes → Bool
are_tables_within tables = nat_le (length tables) (most_of ObjectKind.Table) && list_all is_table_within tables

-- How many jobs of the task there may be at once. A task without that number, which is not within its limits anyhow,
-- counts as 0.
abbrev pub jobs_of : TaskSizes → ℕ
jobs_of s = unwrap_or s.activations 0

-- The core's number is 0 to 15, and its tasks have at most 64 jobs at once. Its start list, tasks, ISRs, resources,
-- counters, alarms and tables are within their limits. So is the number of letters that its alarms and tables may post
-- at once. [own]
abbrev pub is_core_numbered : CoreSizes → Bool
is_core_numbered s =
    is_between 0 15 s.number && list_all is_start s.start
    && nat_le (length s.tasks) (most_of ObjectKind.Task) && list_all is_task_within s.tasks && nat_le (sum_by jobs_of s.tasks) JOBS
    && are_isrs_within s.isrs && nat_le (length s.resources) (most_of ObjectKind.Resource) && list_all is_resource_within s.resources
    && are_counters_within s.counters && are_alarms_within s.alarms && are_tables_within s.tables && nat_le s.posted most_posted

-- All numbers of the core are within their limits (`is_core_numbered`), and none of its scripts is too long.
abbrev pub is_core_within : CoreSizes → Bool
is_core_within s = is_core_numbered s && list_all is_short s.scripts

-- There are 1 to 8 modes, at most 16 spinlocks, 1 to 16 envelopes a mailbox and 1 to 16 cores, and each core passes the
-- test. [own]
abbrev pub is_within_by : (CoreSizes → Bool) → Sizes → Bool
is_within_by test s =
    is_between 1 (most_of ObjectKind.Mode) (Some s.modes) && nat_le s.spinlocks (most_of ObjectKind.Spinlock) && is_between 1 MAILBOX s.cap
    && is_between 1 most_cores (Some (length s.cores)) && list_all test s.cores

-- The version of the format is the second. [own]
abbrev pub is_second_version : Option ℕ → Bool
is_second_version None = false
is_second_version (Some version) = version == 2

-- How many cores a version allows, numbered from 0: the first allows 8, the second 16; a number that is no version
-- allows as many as the first. [own]
abbrev pub cores_by : Option ℕ → ℕ
cores_by version = if is_second_version version then CORES else FIRST_CORES

-- The format's version is 1 or 2. The version allows this many cores, and it allows the number of each core. [own]
abbrev pub is_versioned : Sizes → Bool
is_versioned s =
    is_between 1 2 s.version && is_between 1 (cores_by s.version) (Some (length s.cores))
    && list_all (λ (core : CoreSizes). is_between 0 (cores_by s.version - 1) core.number) s.cores

-- The configuration is within the limits of its version, and within those of all versions.
abbrev pub is_within : Sizes → Bool
is_within s = is_versioned s && is_within_by is_core_within s

-- ---- the points of schedule tables

-- Both offsets are given, and the first is less than the second. [AUTOSAR SWS OS 4.x, OsScheduleTblExpPointOffset]
abbrev pub is_before : Option ℕ → Option ℕ → Bool
is_before (Some a) (Some b) = nat_lt a b
is_before a b = false

-- Each point has an offset, which is greater than that of the point before.
abbrev pub are_ascending : List PointSizes → Bool
are_ascending [] = true
are_ascending (point ∷ []) = is_some point.offset
are_ascending (point ∷ next ∷ points) = is_before point.offset next.offset && are_ascending (next ∷ points)

-- The offset of a table's last point; 0 if there is no point, or if the offset is below 0.
abbrev pub last_offset : List PointSizes → ℕ
last_offset [] = 0
last_offset (point ∷ []) = unwrap_or point.offset 0
last_offset (point ∷ next ∷ points) = last_offset (next ∷ points)

-- The delays between neighbouring points.
abbrev pub delays : List PointSizes → List ℕ
delays [] = []
delays (point ∷ []) = []
delays (point ∷ next ∷ points) = (unwrap_or next.offset 0 - unwrap_or point.offset 0) ∷ delays (next ∷ points)

-- The delay from the last point to the end of the period.
abbrev pub final_delay : TableSizes → ℕ
final_delay s = unwrap_or s.duration 0 - last_offset s.points

-- The counter admits the delay: it is the counter's least cycle to its greatest value. [AUTOSAR SWS OS 4.x,
-- SWS_Os_00403, SWS_Os_00408 and SWS_Os_00443]
abbrev pub is_delay : CounterSizes → ℕ → Bool
is_delay counter delay = nat_le (unwrap_or counter.min 0) delay && nat_le delay (unwrap_or counter.max 0)

-- The counter admits the initial offset, which may be 0. [AUTOSAR SWS OS 4.x, SWS_Os_00400 and SWS_Os_00440]
abbrev pub is_initial : CounterSizes → ℕ → Bool
is_initial counter offset = (offset == 0) || is_delay counter offset

-- The final delay is at most the counter's `max`; if the table repeats, it is also at least `min`. [AUTOSAR SWS OS 4.x,
-- SWS_Os_00427 and SWS_Os_00444]
abbrev pub is_final : TableSizes → CounterSizes → Bool
is_final s counter = nat_le (final_delay s) (unwrap_or counter.max 0) && (not s.repeating || is_delay counter (final_delay s))

-- The counter admits the initial offset of the table's points, the delays between them, and the final delay.
abbrev pub is_timed_by : TableSizes → CounterSizes → Bool
is_timed_by s counter = is_initial counter (first_offset s.points) && list_all (is_delay counter) (delays s.points) && is_final s counter

-- The points come in order, none past the period's end. If the table's counter is known, it admits the initial offset
-- and all delays.
abbrev pub is_table_timed : TableSizes → Bool
is_table_timed s =
    are_ascending s.points && nat_le (last_offset s.points) (unwrap_or s.duration 0) && option_map_or (is_timed_by s) s.counter true

-- ---- numbers of cores

-- Both numbers are given, and they are the same. [own]
abbrev pub same_number : Option ℕ → Option ℕ → Bool
same_number None other = false
same_number (Some n) None = false
same_number (Some n) (Some m) = n == m

-- There is a number, and it is one of these numbers of cores.
abbrev pub has_number : List (Option ℕ) → Option ℕ → Bool
has_number numbers number = list_any (λ other. same_number other number) numbers

-- No number of the list is one of those after it: no two cores have the same number.
abbrev pub are_numbers_distinct : List (Option ℕ) → Bool
are_numbers_distinct [] = true
are_numbers_distinct (number ∷ numbers) = not (has_number numbers number) && are_numbers_distinct numbers

-- ---- the numbers of a configuration

abbrev pub task_sizes : Task → TaskSizes
task_sizes task = record { priority = Some task.priority; activations = Some task.activations; extended = task.extended; budget = Some task.budget }

abbrev pub isr_sizes : Isr → IsrSizes
isr_sizes isr = record { level = Some isr.level; budget = Some isr.budget }

abbrev pub resource_sizes : Resource → ResourceSizes
resource_sizes resource = record { ceiling = Some resource.ceiling; lock = Some resource.lock }

abbrev pub number_of : CoreId → Option ℕ
number_of id = Some id.number

-- The numbers of these cores.
abbrev pub numbers_of : List Core → List (Option ℕ)
numbers_of cores = map (λ (c : Core). number_of c.id) cores

abbrev pub counter_sizes : Counter → CounterSizes
counter_sizes counter = record { max = Some counter.max; min = Some counter.min }

-- The sizes of an alarm's autostart; `counter` has those of the alarm's counter.
abbrev pub start_sizes : Option CounterSizes → AlarmStart → StartSizes
start_sizes counter auto = record { start = Some auto.start; cycle = Some auto.cycle; counter = counter }

-- The sizes of an alarm's autostart, if the alarm is autostarted; `find_counter` looks up its counter.
abbrev pub alarm_sizes : (CounterRef → Option Counter) → Alarm → Option StartSizes
alarm_sizes find_counter alarm = option_map (start_sizes (option_map counter_sizes (find_counter alarm.counter))) alarm.auto

abbrev pub point_sizes : ExpiryPoint → PointSizes
point_sizes point = record { offset = Some point.offset; actions = length point.actions }

-- The sizes of a table; `find_counter` looks up its counter.
abbrev pub table_sizes : (CounterRef → Option Counter) → Table → TableSizes
table_sizes find_counter table = record {
  duration = Some table.duration;
  repeating = table.repeating;
  points = map point_sizes table.points;
  auto = option_map (λ (auto : TableStart). Some auto.offset) table.auto;
  counter = option_map counter_sizes (find_counter table.counter);
}

-- The sizes of a core. The counters of its alarms and tables are looked up in the whole configuration, also those of
-- other cores.
abbrev pub core_sizes : Plan → Core → CoreSizes
core_sizes plan core = record {
  number = number_of core.id;
  start = map number_of core.start;
  tasks = map task_sizes core.tasks;
  isrs = map isr_sizes core.isrs;
  resources = map resource_sizes core.resources;
  counters = map counter_sizes core.counters;
  alarms = map (alarm_sizes (counter_in plan)) core.alarms;
  tables = map (table_sizes (counter_in plan)) core.tables;
  posted = most_posts_per_tick core;
  scripts = map (λ (script : List Op). length script) (core_scripts core);
}

abbrev pub sizes_of : Plan → Sizes
sizes_of plan = record { version = Some plan.version; modes = length plan.modes; spinlocks = length plan.spinlocks; cap = Some plan.cap; cores = map (core_sizes plan) plan.cores }

-- ---- its references

-- The object exists: it is one of a configured core's, or one that all cores have in common.
abbrev pub is_object : Plan → Object → Bool
is_object plan object = option_map_or (λ (c : Core). has_index c object) (core_of plan object.place.core) (is_common plan object)

-- Each object that the operation names exists; the invalid identifier names none.
abbrev pub is_op_known : Plan → Op → Bool
is_op_known plan op = list_all (is_object plan) (objects_of op)

-- The mode exists.
abbrev pub is_mode : Plan → ModeId → Bool
is_mode plan m = nat_lt m.index (length plan.modes)

-- The core's mode exists, or it is DONOTCARE.
abbrev pub is_core_mode : Plan → CoreMode → Bool
is_core_mode plan (Named m) = is_mode plan m
is_core_mode plan DontCare = true

-- The spinlock exists.
abbrev pub is_spinlock : Plan → SpinlockId → Bool
is_spinlock plan l = nat_lt l.index (length plan.spinlocks)

-- If the spinlock has a successor, that spinlock exists.
abbrev pub is_spinlock_known : Plan → Spinlock → Bool
is_spinlock_known plan spinlock = option_map_or (is_spinlock plan) spinlock.next true

-- Each object that the script names exists.
abbrev pub is_script_known : Plan → List Op → Bool
is_script_known plan script = list_all (is_op_known plan) script

-- Each mode in which the task is autostarted exists.
abbrev pub is_task_known : Plan → Task → Bool
is_task_known plan task = list_all (is_mode plan) task.auto

-- The call is one that an alarm or a table may make, and its object exists. [AUTOSAR SWS OS 4.x, OsAlarmAction and
-- OsScheduleTableExpiryPoint]
abbrev pub is_action_known : Plan → RemoteCall → Bool
is_action_known plan action = is_action action && is_object plan (object_of_call action)

-- The alarm's counter exists, and so do the modes in which it is autostarted. Its action is one that an alarm may do,
-- on an object that exists.
abbrev pub is_alarm_known : Plan → Alarm → Bool
is_alarm_known plan alarm =
    is_object plan (counter_object alarm.counter) && is_action_known plan alarm.action && list_all (is_mode plan) (alarm_modes alarm)

-- The table's counter exists, and so do the modes in which it is autostarted. Its actions are such as a table may do,
-- on objects that exist.
abbrev pub is_table_known : Plan → Table → Bool
is_table_known plan table =
    is_object plan (counter_object table.counter) && list_all (is_action_known plan) (table_actions table) && list_all (is_mode plan) (table_modes table)

-- The core's mode exists, and so does all that its scripts, tasks, alarms and tables name. Each action is one that an
-- alarm or a table may do.
abbrev pub is_core_known : Plan → Core → Bool
is_core_known plan core =
    is_core_mode plan core.mode && list_all (is_script_known plan) (core_scripts core) && list_all (is_task_known plan) core.tasks && list_all (is_alarm_known plan) core.alarms
    && list_all (is_table_known plan) core.tables

-- If the operation may name only objects of its own core, it names no object of a core other than this one.
abbrev pub is_local_to : CoreId → Op → Bool
is_local_to id op = not (refers_to_own_only op && names_other id op)

-- The alarm's counter is on the core of this number. [own]
abbrev pub is_alarm_local : CoreId → Alarm → Bool
is_alarm_local id alarm = is_on id (counter_object alarm.counter)

-- The table's counter is on the core of this number.
abbrev pub is_table_local : CoreId → Table → Bool
is_table_local id table = is_on id (counter_object table.counter)

-- No operation of the core's scripts names another core's object where only its own are allowed. The counter of each of
-- its alarms and tables is on the core. [own]
abbrev pub has_local_references : Core → Bool
has_local_references core =
    list_all (list_all (is_local_to core.id)) (core_scripts core) && list_all (is_alarm_local core.id) core.alarms
    && list_all (is_table_local core.id) core.tables

-- The points of each of the core's tables come in order, at delays that the table's counter admits.
abbrev pub is_core_timed : Plan → Core → Bool
is_core_timed plan core = list_all (λ (table : Table). is_table_timed (table_sizes (counter_in plan) table)) core.tables

-- All numbers of the configuration are within the limits. No two cores have the same number, and the master is
-- configured. Each named object exists, and is the core's own where no other is allowed. The tables' points come in
-- order, at delays that the tables' counters admit. No spinlock comes after itself.
abbrev pub is_within_limits : Plan → Bool
is_within_limits plan =
    is_within (sizes_of plan) && are_numbers_distinct (numbers_of plan.cores) && is_some (core_of plan plan.master)
    && list_all (is_core_known plan) plan.cores && list_all has_local_references plan.cores && list_all (is_core_timed plan) plan.cores
    && list_all (is_spinlock_known plan) plan.spinlocks && are_links_ordered (links_of plan.spinlocks)
