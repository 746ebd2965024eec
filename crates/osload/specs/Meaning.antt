-- The configuration that a text means, and the faults that a text has. [own]
use Rattle.std.specs.Prelude.{ℕ, if◌then◌else◌, Option, Some, None, option_and_then, option_map, List, [], ◌∷◌, map}
use Rattle.std.specs.{Option.option_map_or, Str.bytes_eq}
use Rattle.osvalidate.specs.Words.{Alarm, AlarmStart, AlarmStartText, AlarmText, ConfigText, Core, CoreId, CoreMode, CoreText, Counter, CounterText, Declaration, ExpiryPoint, Isr, IsrText, Plan, PointText, Resource, ResourceText, Spinlock, SpinlockText, Table, TableStart, TableStartText, TableText, Task, TaskText}
use Rattle.osbase.specs.declared.items.CoreMode.TheVariants.{DontCare, Named}
use Rattle.serde_json.specs.{Data.Data, Read.read}
use Rattle.osplan.specs.{declared.faults.ConfFault.ConfFault, declared.faults.ConfFault.TheVariants.NotJson, declared.faults.ConfFault.TheVariants.Shape, Representable.dont_care, Fault.IsLeast, Fault.failing, Fault.if_faultless}
use Rattle.osschema.specs.Shape.{config_shape}
use Rattle.osvalidate.specs.{Action.action_of, Operation.operations_of, Operation.op_of, Check.successor, Check.tests_of}
use Rattle.osschema.specs.Declarations.{byte_of, counter_ref, declarations, mode_ref, number_id, id_of, word_of}

-- A core's mode: the first mode if the core's text gives none, any mode for the word DONOTCARE, otherwise the mode of
-- this name (the first if there is none). [AUTOSAR SWS OS 4.x, DONOTCARE; the first is own]
abbrev pub core_mode : List Declaration → Option (List ℕ) → CoreMode
core_mode objects None = Named (record { index = 0 })
core_mode objects (Some name) = if bytes_eq name dont_care then DontCare else Named (mode_ref objects name)

-- The spinlock that a text means; its successor's name is looked up in `objects`.
abbrev pub spinlock_plan : List Declaration → SpinlockText → Spinlock
spinlock_plan objects spinlock = record { name = spinlock.name; next = successor objects spinlock }

-- The task that a text means; the names in the text are looked up in `objects`.
abbrev pub task_plan : List Declaration → TaskText → Task
task_plan objects task = record {
  name = task.name;
  priority = byte_of task.prio;
  auto = map (mode_ref objects) task.auto;
  activations = byte_of task.activations;
  extended = task.extended;
  preemptable = task.preemptable;
  budget = word_of task.budget;
  script = map (op_of objects) (operations_of task.script);
}

-- The ISR that a text means; the names in the text are looked up in `objects`.
abbrev pub isr_plan : List Declaration → IsrText → Isr
isr_plan objects isr = record {
  name = isr.name;
  level = byte_of isr.level;
  budget = word_of isr.budget;
  script = map (op_of objects) (operations_of isr.script);
}

-- The resource that a text means.
abbrev pub resource_plan : ResourceText → Resource
resource_plan resource = record { name = resource.name; ceiling = byte_of resource.ceiling; lock = word_of resource.lock }

-- The counter that a text means.
abbrev pub counter_plan : CounterText → Counter
counter_plan counter = record { name = counter.name; max = word_of counter.max; min = word_of counter.min; software = counter.software }

-- The alarm's autostart that a text means; the names in the text are looked up in `objects`.
abbrev pub start_plan : List Declaration → AlarmStartText → AlarmStart
start_plan objects auto = record { modes = map (mode_ref objects) auto.modes; start = word_of auto.start; cycle = word_of auto.cycle }

-- The alarm that a text means, on this core; the names in the text are looked up in `objects`.
abbrev pub alarm_plan : List Declaration → CoreId → AlarmText → Alarm
alarm_plan objects id alarm = record {
  name = alarm.name;
  counter = counter_ref objects id alarm.counter;
  action = action_of objects alarm.action;
  auto = option_map (start_plan objects) alarm.auto;
}

-- The expiry point that a text means; the names in the text are looked up in `objects`.
abbrev pub point_plan : List Declaration → PointText → ExpiryPoint
point_plan objects point = record { offset = word_of point.offset; actions = map (action_of objects) point.actions }

-- The schedule table's autostart that a text means; the names in the text are looked up in `objects`.
abbrev pub table_start_plan : List Declaration → TableStartText → TableStart
table_start_plan objects auto = record { modes = map (mode_ref objects) auto.modes; offset = word_of auto.offset }

-- The schedule table that a text means, on this core; the names in the text are looked up in `objects`.
abbrev pub table_plan : List Declaration → CoreId → TableText → Table
table_plan objects id table = record {
  name = table.name;
  counter = counter_ref objects id table.counter;
  duration = word_of table.duration;
  repeating = table.repeating;
  points = map (point_plan objects) table.points;
  auto = option_map (table_start_plan objects) table.auto;
}

-- The core that a text means; the names in the text are looked up in `objects`.
abbrev pub core_plan : List Declaration → CoreText → Core
core_plan objects core = record {
  id = id_of core;
  mode = core_mode objects core.mode;
  start = map number_id core.start;
  protection = core.protection;
  tasks = map (task_plan objects) core.tasks;
  isrs = map (isr_plan objects) core.isrs;
  resources = map resource_plan core.resources;
  counters = map counter_plan core.counters;
  alarms = map (alarm_plan objects (id_of core)) core.alarms;
  tables = map (table_plan objects (id_of core)) core.tables;
}

-- The configuration that a text means, whether the text has faults or not.
abbrev pub plan_of : ConfigText → Plan
plan_of t = record {
  version = byte_of t.version;
  cap = byte_of t.cap;
  master = number_id t.master;
  modes = t.modes;
  spinlocks = map (spinlock_plan (declarations t)) t.spinlocks;
  cores = map (core_plan (declarations t)) t.cores;
}

-- ---- a text's faults, in ascending order: after NotJson or Shape nothing more is judged

-- The faults of JSON data: Shape alone if the data do not have the shape of a configuration; otherwise the faults whose
-- tests fail. [own]
abbrev pub faults_of_data : Data → List ConfFault
faults_of_data d = option_map_or (λ t. failing (tests_of t)) (config_shape d) (Shape ∷ [])

-- The faults of a text: NotJson alone if the text is not JSON; otherwise the faults of its data. [own]
abbrev pub faults_of : List ℕ → List ConfFault
faults_of text = option_map_or faults_of_data (read text) (NotJson ∷ [])

-- The text has this fault, and none of a smaller number. [own]
abbrev pub IsLeastFault : ConfFault → List ℕ → Type 0
IsLeastFault fault text = IsLeast fault (faults_of text)

-- ---- the configuration of a text without a fault

-- The configuration that a text of the right shape means. None if the text has a fault. [own]
abbrev pub config_of_shape : ConfigText → Option Plan
config_of_shape t = if_faultless (failing (tests_of t)) (plan_of t)

-- The configuration that a text means. None if the text has a fault. [own]
abbrev pub config_of : List ℕ → Option Plan
config_of text = option_and_then config_of_shape (option_and_then config_shape (read text))
