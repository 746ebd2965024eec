-- The objects of a configuration and of each core, kind by kind, its scripts, and what its alarms and schedule tables
-- name.
use Rattle.std.specs.Prelude.{ℕ, ◌+◌, ◌&&◌, ◌||◌, nat_lt, Bool, not, List, [], ◌∷◌, ◌++◌, count_by, flat_map, length, map, sum_by}
use Rattle.std.specs.Option.{option_map_or}
use Rattle.osbase.specs.{declared.objects.ObjectKind.ObjectKind, declared.objects.Object.Object, declared.objects.TheConstants.NOBODY, declared.limits.TheConstants.CALLS_AT_ONCE, declared.messages.RemoteCall.RemoteCall, declared.references.ModeId.ModeId, History.greater, History.same_core, Objects.object_of_call}
use Rattle.osbase.specs.declared.objects.ObjectKind.TheVariants.{Mode, Spinlock, Task, Isr, Resource, Counter, Alarm, Table}
use Rattle.oscript.specs.{declared.Op.Op, Calls.is_action}
use Rattle.osplan.specs.{declared.plans.Alarm.Alarm as AlarmValue, declared.plans.AlarmStart.AlarmStart, declared.plans.Core.Core, declared.plans.Counter.Counter as CounterValue, declared.plans.ExpiryPoint.ExpiryPoint, declared.plans.Isr.Isr as IsrValue, declared.plans.Plan.Plan, declared.plans.Resource.Resource as ResourceValue, declared.plans.Spinlock.Spinlock as SpinlockValue, declared.plans.Table.Table as TableValue, declared.plans.TableStart.TableStart, declared.plans.Task.Task as TaskValue}

-- ---- the objects that all cores have in common

-- The names of the objects of a kind that all cores have in common, in their order. Only modes and spinlocks are
-- common. [own]
abbrev pub common_names : ObjectKind → Plan → List (List ℕ)
common_names Mode plan = plan.modes
common_names Spinlock plan = map (λ (spinlock : SpinlockValue). spinlock.name) plan.spinlocks
common_names kind plan = []

-- The object is one that all cores have in common.
abbrev pub is_common : Plan → Object → Bool
is_common plan object = same_core object.place.core NOBODY && nat_lt object.place.index (length (common_names object.kind plan))

-- ---- the objects of a core

-- How many objects of a kind a core has.
abbrev pub object_count : ObjectKind → Core → ℕ
object_count Mode core = 0
object_count Spinlock core = 0
object_count Task core = length core.tasks
object_count Isr core = length core.isrs
object_count Resource core = length core.resources
object_count Counter core = length core.counters
object_count Alarm core = length core.alarms
object_count Table core = length core.tables

-- The names of a core's objects of a kind, in their order. A core has no modes and no spinlocks of its own. [own]
abbrev pub names_in : ObjectKind → Core → List (List ℕ)
names_in Mode core = []
names_in Spinlock core = []
names_in Task core = map (λ (task : TaskValue). task.name) core.tasks
names_in Isr core = map (λ (isr : IsrValue). isr.name) core.isrs
names_in Resource core = map (λ (resource : ResourceValue). resource.name) core.resources
names_in Counter core = map (λ (counter : CounterValue). counter.name) core.counters
names_in Alarm core = map (λ (alarm : AlarmValue). alarm.name) core.alarms
names_in Table core = map (λ (table : TableValue). table.name) core.tables

-- The core has an object of this kind at the object's index.
abbrev pub has_index : Core → Object → Bool
has_index core object = nat_lt object.place.index (object_count object.kind core)

-- The object is one of the core's own.
abbrev pub is_own_object : Core → Object → Bool
is_own_object core object = same_core object.place.core core.id && has_index core object

-- A script, an alarm or a table of the core may name the object: it is not on this core, or it is one of the core's
-- own.
abbrev pub may_name : Core → Object → Bool
may_name core object = not (same_core object.place.core core.id) || is_own_object core object

-- ---- scripts

-- The scripts of a core: those of its tasks, and then those of its ISRs. [own]
abbrev pub core_scripts : Core → List (List Op)
core_scripts core = map (λ (task : TaskValue). task.script) core.tasks ++ map (λ (isr : IsrValue). isr.script) core.isrs

-- ---- alarms

-- The modes in which an alarm is autostarted; none if it never is. [AUTOSAR SWS OS 4.x, OsAlarmAutostart]
abbrev pub alarm_modes : AlarmValue → List ModeId
alarm_modes alarm = option_map_or (λ (auto : AlarmStart). auto.modes) alarm.auto []

-- ---- schedule tables

-- The modes in which a table is autostarted; none if it never is. [AUTOSAR SWS OS 4.x, OsScheduleTableAutostart]
abbrev pub table_modes : TableValue → List ModeId
table_modes table = option_map_or (λ (auto : TableStart). auto.modes) table.auto []

-- The actions of a table, point by point.
abbrev pub table_actions : TableValue → List RemoteCall
table_actions table = flat_map (λ (point : ExpiryPoint). point.actions) table.points

-- ---- both

-- The actions of a core's alarms, and then those of its tables.
abbrev pub core_actions : Core → List RemoteCall
core_actions core = map (λ (alarm : AlarmValue). alarm.action) core.alarms ++ flat_map table_actions core.tables

-- An alarm or a table of the core may make the call: it is an action, on an object that the core may name.
-- [AUTOSAR SWS OS 4.x, OsAlarmAction and OsScheduleTableExpiryPoint]
abbrev pub may_act : Core → RemoteCall → Bool
may_act core action = is_action action && may_name core (object_of_call action)

-- The action is for another core's object.
abbrev pub is_posting : Core → RemoteCall → Bool
is_posting core action = not (same_core (object_of_call action).place.core core.id)

-- How many actions of an expiry point are for other cores.
abbrev pub posted_at : Core → ExpiryPoint → ℕ
posted_at core point = count_by (is_posting core) point.actions

-- The greatest of the numbers; 0 if there is none.
abbrev pub greatest_of : List ℕ → ℕ
greatest_of [] = 0
greatest_of (n ∷ ns) = greater n (greatest_of ns)

-- The most actions for other cores that any point of the table has.
abbrev pub most_posts_of_table : Core → TableValue → ℕ
most_posts_of_table core table = greatest_of (map (posted_at core) table.points)

-- How many letters the core's alarms and tables may add to its outbox at once: one for each alarm that acts on another
-- core, and for each table as many as any of its points may add. [own]
abbrev pub most_posts_per_tick : Core → ℕ
most_posts_per_tick core = count_by (λ (alarm : AlarmValue). is_posting core alarm.action) core.alarms + sum_by (most_posts_of_table core) core.tables

-- How many places a core's outbox needs at least: for all that its alarms and schedule tables, and its calls, may post
-- at once. [own]
abbrev pub outbox_needed : Core → ℕ
outbox_needed core = CALLS_AT_ONCE + most_posts_per_tick core
