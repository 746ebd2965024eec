-- What the text of a configuration says.
use Rattle.std.proofs.Common.{ℕ, List, map, Some, option_map}
use Rattle.osbase.specs.Objects.{counter_place}
use Rattle.osvalidate.specs.Words.{Alarm, AlarmStart, AlarmStartText, AlarmText, ConfigText, Core, CoreText, Counter, CounterRef, CounterText, ExpiryPoint, Isr, IsrText, ObjectKind, Plan, PointText, RemoteCall, Resource, ResourceText, Spinlock, SpinlockText, Table, TableStart, TableStartText, TableText, Task, TaskText}
use Rattle.oscript.specs.Calls.{op_of_call}
use Rattle.osplan.specs.{Limits.number_of, Names.name_of, Names.name_of_mode, Names.spinlock_name}
use Rattle.osvalues.specs.Data.{core_mode_word, op_text, script_text}

abbrev pub task_as_text : Plan → Task → TaskText
task_as_text plan task = record { name = task.name; prio = Some task.priority; auto = map (name_of_mode plan) task.auto; activations = Some task.activations; extended = task.extended; preemptable = task.preemptable; budget = Some task.budget; script = script_text plan task.script }

abbrev pub isr_as_text : Plan → Isr → IsrText
isr_as_text plan isr = record { name = isr.name; level = Some isr.level; budget = Some isr.budget; script = script_text plan isr.script }

abbrev pub resource_as_text : Resource → ResourceText
resource_as_text resource = record { name = resource.name; ceiling = Some resource.ceiling; lock = Some resource.lock }

abbrev pub counter_as_text : Counter → CounterText
counter_as_text counter = record { name = counter.name; max = Some counter.max; min = Some counter.min; software = counter.software }

abbrev pub start_as_text : Plan → AlarmStart → AlarmStartText
start_as_text plan auto = record { modes = map (name_of_mode plan) auto.modes; start = Some auto.start; cycle = Some auto.cycle }

abbrev pub counter_name : Plan → CounterRef → List ℕ
counter_name plan counter = name_of plan ObjectKind.Counter (counter_place counter)

abbrev pub action_as_text : Plan → RemoteCall → List ℕ
action_as_text plan action = op_text plan (op_of_call action)

abbrev pub alarm_as_text : Plan → Alarm → AlarmText
alarm_as_text plan alarm = record { name = alarm.name; counter = counter_name plan alarm.counter; action = action_as_text plan alarm.action; auto = option_map (start_as_text plan) alarm.auto }

abbrev pub point_as_text : Plan → ExpiryPoint → PointText
point_as_text plan point = record { offset = Some point.offset; actions = map (action_as_text plan) point.actions }

abbrev pub table_start_said : Plan → TableStart → TableStartText
table_start_said plan auto = record { modes = map (name_of_mode plan) auto.modes; offset = Some auto.offset }

abbrev pub table_as_text : Plan → Table → TableText
table_as_text plan table = record {
  name = table.name;
  counter = counter_name plan table.counter;
  duration = Some table.duration;
  points = map (point_as_text plan) table.points;
  repeating = table.repeating;
  auto = option_map (table_start_said plan) table.auto;
}

abbrev pub core_as_text : Plan → Core → CoreText
core_as_text plan core = record {
  id = number_of core.id;
  mode = Some (core_mode_word plan core.mode);
  start = map number_of core.start;
  protection = core.protection;
  tasks = map (task_as_text plan) core.tasks;
  isrs = map (isr_as_text plan) core.isrs;
  resources = map resource_as_text core.resources;
  counters = map counter_as_text core.counters;
  alarms = map (alarm_as_text plan) core.alarms;
  tables = map (table_as_text plan) core.tables;
}

abbrev pub spinlock_as_text : Plan → Spinlock → SpinlockText
spinlock_as_text plan spinlock = record { name = spinlock.name; next = option_map (spinlock_name plan) spinlock.next }

abbrev pub config_as_text : Plan → ConfigText
config_as_text plan = record { version = Some plan.version; cap = Some plan.cap; master = number_of plan.master; modes = plan.modes; spinlocks = map (spinlock_as_text plan) plan.spinlocks; cores = map (core_as_text plan) plan.cores }
