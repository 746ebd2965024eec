-- The JSON data that a configuration is written as: every member, in ascending order of names. [own]
use Rattle.std.specs.Prelude.{ℕ, Option, Some, None, List, map, codes}
use Rattle.std.specs.List.{join_by}
use Rattle.serde_json.specs.Data.{unsigned, Data, null, boolean, number, string, array, object, no_members, member}
use Rattle.serde_json.specs.View.{items_of}
use Rattle.osbase.specs.{Objects.counter_place, declared.items.CoreMode.TheVariants.DontCare, declared.items.CoreMode.TheVariants.Named}
use Rattle.osbase.specs.declared.{items.CoreMode.CoreMode, messages.RemoteCall.RemoteCall, objects.ObjectKind.ObjectKind, references.CoreId.CoreId, references.ModeId.ModeId, references.SpinlockId.SpinlockId}
use Rattle.oscript.specs.{declared.Op.Op, Calls.op_of_call}
use Rattle.osplan.specs.declared.plans.{Alarm.Alarm, AlarmStart.AlarmStart, Core.Core, Counter.Counter, ExpiryPoint.ExpiryPoint, Isr.Isr, Plan.Plan, Resource.Resource, Spinlock.Spinlock, Table.Table, TableStart.TableStart, Task.Task}
use Rattle.ossyntax.specs.Operation as forms
use Rattle.osplan.specs.{Representable.dont_care, Names.name_of_mode, Names.name_of, Names.spinlock_name, Protection.protection_word}

-- ---- scripts

-- The text of an operation: its words, divided by one space.
abbrev pub op_text : Plan → Op → List ℕ
op_text plan op = forms.op_text (name_of plan) op

-- The text of a script: its operations, divided by `;`.
abbrev pub script_text : Plan → List Op → List ℕ
script_text plan script = join_by (op_text plan) (codes ";") script

-- ---- members

-- The data of a whole number.
abbrev pub whole_data : ℕ → Data
whole_data n = number (unsigned n)

-- The data of a list: an array that has the data `f x` of each element `x`.
abbrev pub list_data : {X : Type 0} → (X → Data) → List X → Data
list_data f xs = array (items_of (map f xs))

-- The data of an optional part: null if there is none.
abbrev pub or_null_data : {X : Type 0} → (X → Data) → Option X → Data
or_null_data f None = null
or_null_data f (Some x) = f x

-- The data of a core's identifier: its number.
abbrev pub id_data : CoreId → Data
id_data id = whole_data id.number

-- The data of a name: a string.
abbrev pub name_data : List ℕ → Data
name_data name = string name

-- The data of an application mode: its name.
abbrev pub mode_data : Plan → ModeId → Data
mode_data plan mode = string (name_of_mode plan mode)

-- The word for a core's mode: the mode's name, or DONOTCARE if any mode will do. [AUTOSAR SWS OS 4.x, DONOTCARE]
abbrev pub core_mode_word : Plan → CoreMode → List ℕ
core_mode_word plan (Named mode) = name_of_mode plan mode
core_mode_word plan DontCare = dont_care

-- The data of a task: its activation limit, the modes of its autostart, its execution budget, whether it is extended,
-- its name, whether it can be preempted, its priority and its script.
abbrev pub task_data : Plan → Task → Data
task_data plan task = object
    (member (codes "activations") (whole_data task.activations)
    (member (codes "auto") (list_data (mode_data plan) task.auto)
    (member (codes "budget") (whole_data task.budget)
    (member (codes "extended") (boolean task.extended)
    (member (codes "name") (string task.name)
    (member (codes "preemptable") (boolean task.preemptable)
    (member (codes "prio") (whole_data task.priority)
    (member (codes "script") (string (script_text plan task.script)) no_members))))))))

-- The data of an ISR: its execution budget, level, name and script.
abbrev pub isr_data : Plan → Isr → Data
isr_data plan isr = object
    (member (codes "budget") (whole_data isr.budget)
    (member (codes "level") (whole_data isr.level)
    (member (codes "name") (string isr.name)
    (member (codes "script") (string (script_text plan isr.script)) no_members))))

-- The data of a resource: its ceiling, lock budget and name.
abbrev pub resource_data : Resource → Data
resource_data resource = object
    (member (codes "ceiling") (whole_data resource.ceiling)
    (member (codes "lock") (whole_data resource.lock)
    (member (codes "name") (string resource.name) no_members)))

-- The data of a counter: its greatest value, its least cycle, its name, and whether software alone advances it.
abbrev pub counter_data : Counter → Data
counter_data counter = object
    (member (codes "max") (whole_data counter.max)
    (member (codes "min") (whole_data counter.min)
    (member (codes "name") (string counter.name)
    (member (codes "software") (boolean counter.software) no_members))))

-- The data of how an alarm is autostarted: its cycle, in which modes, and when it first expires.
abbrev pub start_data : Plan → AlarmStart → Data
start_data plan auto = object
    (member (codes "cycle") (whole_data auto.cycle)
    (member (codes "modes") (list_data (mode_data plan) auto.modes)
    (member (codes "start") (whole_data auto.start) no_members)))

-- The data of an alarm: the text of its action, how it is autostarted (null if it is not), the name of its counter, and
-- its own name. The action has the text of the operation that makes the same call.
abbrev pub alarm_data : Plan → Alarm → Data
alarm_data plan alarm = object
    (member (codes "action") (string (op_text plan (op_of_call alarm.action)))
    (member (codes "auto") (or_null_data (start_data plan) alarm.auto)
    (member (codes "counter") (string (name_of plan ObjectKind.Counter (counter_place alarm.counter)))
    (member (codes "name") (string alarm.name) no_members))))

-- The data of an expiry point's action: the text of the operation that makes the same call.
abbrev pub action_data : Plan → RemoteCall → Data
action_data plan action = string (op_text plan (op_of_call action))

-- The data of an expiry point of a schedule table: its actions and its offset.
abbrev pub point_data : Plan → ExpiryPoint → Data
point_data plan point = object
    (member (codes "actions") (list_data (action_data plan) point.actions)
    (member (codes "offset") (whole_data point.offset) no_members))

-- The data of how a schedule table is autostarted: in which modes, and after how many counts.
abbrev pub table_start_data : Plan → TableStart → Data
table_start_data plan auto = object
    (member (codes "modes") (list_data (mode_data plan) auto.modes)
    (member (codes "offset") (whole_data auto.offset) no_members))

-- The data of a schedule table: how it is autostarted (null if it is not), the name of its counter, its duration, its
-- own name, its expiry points, and whether it repeats.
abbrev pub table_data : Plan → Table → Data
table_data plan table = object
    (member (codes "auto") (or_null_data (table_start_data plan) table.auto)
    (member (codes "counter") (string (name_of plan ObjectKind.Counter (counter_place table.counter)))
    (member (codes "duration") (whole_data table.duration)
    (member (codes "name") (string table.name)
    (member (codes "points") (list_data (point_data plan) table.points)
    (member (codes "repeating") (boolean table.repeating) no_members))))))

-- The data of a core: its alarms, its counters, its number, its ISRs, its mode, how it answers a time fault, its
-- resources, the cores that it starts, its schedule tables and its tasks.
abbrev pub core_data : Plan → Core → Data
core_data plan core = object
    (member (codes "alarms") (list_data (alarm_data plan) core.alarms)
    (member (codes "counters") (list_data counter_data core.counters)
    (member (codes "id") (id_data core.id)
    (member (codes "isrs") (list_data (isr_data plan) core.isrs)
    (member (codes "mode") (string (core_mode_word plan core.mode))
    (member (codes "protection") (string (protection_word core.protection))
    (member (codes "resources") (list_data resource_data core.resources)
    (member (codes "start") (list_data id_data core.start)
    (member (codes "tables") (list_data (table_data plan) core.tables)
    (member (codes "tasks") (list_data (task_data plan) core.tasks) no_members))))))))))

-- The data of a reference to a spinlock: the spinlock's name.
abbrev pub spinlock_name_data : Plan → SpinlockId → Data
spinlock_name_data plan spinlock = string (spinlock_name plan spinlock)

-- The data of a spinlock: its name, and the name of its successor (null if it has none).
abbrev pub spinlock_data : Plan → Spinlock → Data
spinlock_data plan spinlock = object
    (member (codes "name") (string spinlock.name)
    (member (codes "next") (or_null_data (spinlock_name_data plan) spinlock.next) no_members))
