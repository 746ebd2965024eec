-- The shape of a configuration: the members and their types. Limits, and what names refer to, are judged later. Also
-- the numbers that have limits. [own]
use Rattle.std.specs.Prelude.{ℕ, ◌&&◌, Bool, true, false, Option, Some, None, option_and_then, option_map, List, [], ◌∷◌, codes, length, map}
use Rattle.std.specs.List.{list_all}
use Rattle.osbase.specs.{declared.objects.ObjectKind.ObjectKind, Names.is_name}
use Rattle.osplan.specs.Limits.{TaskSizes, IsrSizes, ResourceSizes, CounterSizes, StartSizes, PointSizes, TableSizes, CoreSizes, Sizes}
use Rattle.osplan.specs.{Protection.protection_named, declared.plans.TheConstants.COMMON, declared.plans.TheConstants.KINDS, declared.protection.Protection.Protection}
use Rattle.serde_json.specs.{Data.Data, Find.as_bool, Find.as_str}
use Rattle.osschema.specs.{declared.shapes.AlarmStartText.AlarmStartText, declared.shapes.AlarmText.AlarmText, declared.shapes.ConfigText.ConfigText, declared.shapes.CoreSettings.CoreSettings, declared.shapes.CoreText.CoreText, declared.shapes.CounterText.CounterText, declared.shapes.IsrText.IsrText, declared.shapes.Named.Named, declared.shapes.ResourceText.ResourceText, declared.shapes.SpinlockText.SpinlockText, declared.shapes.TaskText.TaskText, declared.table_shapes.PointText.PointText, declared.table_shapes.TableStartText.TableStartText, declared.table_shapes.TableText.TableText}
use Rattle.osjson.specs.Reading.{◌>>=◌}
use Rattle.osjson.specs.Json.{whole_of, name_of, each_of, or_null, member_of, member_or, only_members}

-- The data as a task: its name, priority and script; the modes of its autostart, none by default; its activation limit,
-- 1 by default; whether it is extended, by default not, and whether it can be preempted, by default yes; its execution
-- budget, 0 by default. None if a member is missing, unknown or of another type.
unfoldable pub task_shape : Data → Option TaskText
task_shape d = do
  _ ← only_members (codes "name" ∷ codes "prio" ∷ codes "auto" ∷ codes "activations" ∷ codes "extended" ∷ codes "preemptable" ∷ codes "budget" ∷ codes "script" ∷ []) d
  name ← member_of name_of (codes "name") d
  prio ← member_of whole_of (codes "prio") d
  auto ← member_or (each_of name_of) [] (codes "auto") d
  activations ← member_or whole_of (Some 1) (codes "activations") d
  extended ← member_or as_bool false (codes "extended") d
  preemptable ← member_or as_bool true (codes "preemptable") d
  budget ← member_or whole_of (Some 0) (codes "budget") d
  script ← member_of as_str (codes "script") d
  Some (record { name = name; prio = prio; auto = auto; activations = activations; extended = extended; preemptable = preemptable; budget = budget; script = script })

-- The data as an ISR: its name, level and script; its execution budget, 0 by default. None if a member is missing,
-- unknown or of another type.
unfoldable pub isr_shape : Data → Option IsrText
isr_shape d = do
  _ ← only_members (codes "name" ∷ codes "level" ∷ codes "budget" ∷ codes "script" ∷ []) d
  name ← member_of name_of (codes "name") d
  level ← member_of whole_of (codes "level") d
  budget ← member_or whole_of (Some 0) (codes "budget") d
  script ← member_of as_str (codes "script") d
  Some (record { name = name; level = level; budget = budget; script = script })

-- The data as a resource: its name and ceiling; its lock budget, 0 by default. None if a member is missing, unknown or
-- of another type.
unfoldable pub resource_shape : Data → Option ResourceText
resource_shape d = do
  _ ← only_members (codes "name" ∷ codes "ceiling" ∷ codes "lock" ∷ []) d
  name ← member_of name_of (codes "name") d
  ceiling ← member_of whole_of (codes "ceiling") d
  lock ← member_or whole_of (Some 0) (codes "lock") d
  Some (record { name = name; ceiling = ceiling; lock = lock })

-- The data as a counter: its name and greatest value; its least cycle, 1 by default; whether software alone advances
-- it, by default not. None if a member is missing, unknown or of another type.
unfoldable pub counter_shape : Data → Option CounterText
counter_shape d = do
  _ ← only_members (codes "name" ∷ codes "max" ∷ codes "min" ∷ codes "software" ∷ []) d
  name ← member_of name_of (codes "name") d
  max ← member_of whole_of (codes "max") d
  min ← member_or whole_of (Some 1) (codes "min") d
  software ← member_or as_bool false (codes "software") d
  Some (record { name = name; max = max; min = min; software = software })

-- The data as an alarm's autostart: in which modes, after how many counts the alarm first expires, and its cycle. None
-- if a member is missing, unknown or of another type.
unfoldable pub alarm_start_shape : Data → Option AlarmStartText
alarm_start_shape d = do
  _ ← only_members (codes "modes" ∷ codes "start" ∷ codes "cycle" ∷ []) d
  modes ← member_of (each_of name_of) (codes "modes") d
  start ← member_of whole_of (codes "start") d
  cycle ← member_of whole_of (codes "cycle") d
  Some (record { modes = modes; start = start; cycle = cycle })

-- The data as an alarm: its name, its counter's name and its action; how it is autostarted, or null (the default) if it
-- is not. None if a member is missing, unknown or of another type.
unfoldable pub alarm_shape : Data → Option AlarmText
alarm_shape d = do
  _ ← only_members (codes "name" ∷ codes "counter" ∷ codes "action" ∷ codes "auto" ∷ []) d
  name ← member_of name_of (codes "name") d
  counter ← member_of name_of (codes "counter") d
  action ← member_of as_str (codes "action") d
  auto ← member_or (or_null alarm_start_shape) None (codes "auto") d
  Some (record { name = name; counter = counter; action = action; auto = auto })

-- The data as an expiry point of a schedule table: its offset and its actions. None if a member is missing, unknown or
-- of another type.
unfoldable pub point_shape : Data → Option PointText
point_shape d = do
  _ ← only_members (codes "offset" ∷ codes "actions" ∷ []) d
  offset ← member_of whole_of (codes "offset") d
  actions ← member_of (each_of as_str) (codes "actions") d
  Some (record { offset = offset; actions = actions })

-- The data as a schedule table's autostart: in which modes, and after how many counts. None if a member is missing,
-- unknown or of another type.
unfoldable pub table_start_shape : Data → Option TableStartText
table_start_shape d = do
  _ ← only_members (codes "modes" ∷ codes "offset" ∷ []) d
  modes ← member_of (each_of name_of) (codes "modes") d
  offset ← member_of whole_of (codes "offset") d
  Some (record { modes = modes; offset = offset })

-- The data as a schedule table: its name, its counter's name, its duration and its points; whether it repeats, by
-- default not; how it is autostarted, or null (the default) if it is not. None if a member is missing, unknown or of
-- another type.
unfoldable pub table_shape : Data → Option TableText
table_shape d = do
  _ ← only_members (codes "name" ∷ codes "counter" ∷ codes "duration" ∷ codes "points" ∷ codes "repeating" ∷ codes "auto" ∷ []) d
  name ← member_of name_of (codes "name") d
  counter ← member_of name_of (codes "counter") d
  duration ← member_of whole_of (codes "duration") d
  points ← member_of (each_of point_shape) (codes "points") d
  repeating ← member_or as_bool false (codes "repeating") d
  auto ← member_or (or_null table_start_shape) None (codes "auto") d
  Some (record { name = name; counter = counter; duration = duration; points = points; repeating = repeating; auto = auto })

-- The data as a spinlock: its name, and its successor's name, or null (the default) if it has none. None if a member is
-- missing, unknown or of another type.
unfoldable pub spinlock_shape : Data → Option SpinlockText
spinlock_shape d = do
  _ ← only_members (codes "name" ∷ codes "next" ∷ []) d
  name ← member_of name_of (codes "name") d
  next ← member_or (or_null name_of) None (codes "next") d
  Some (record { name = name; next = next })

-- How a core answers a time fault, if the data are one of the words for it.
abbrev pub protection_of : Data → Option Protection
protection_of d = option_and_then protection_named (as_str d)

-- The name of a core's mode, if the data are a well-formed name. The inner `Some` says that the core's text gives a
-- mode.
abbrev pub mode_shape : Data → Option (Option (List ℕ))
mode_shape d = option_map Some (name_of d)

-- What a core's text says of the core itself: its number; its mode, none by default; the cores that it starts, none by
-- default; how it answers a time fault, PRO_SHUTDOWN by default. None if the number is missing, or a member is of
-- another type.
unfoldable pub settings_shape : Data → Option CoreSettings
settings_shape d = do
  id ← member_of whole_of (codes "id") d
  mode ← member_or mode_shape None (codes "mode") d
  start ← member_or (each_of whole_of) [] (codes "start") d
  protection ← member_or protection_of Protection.Shutdown (codes "protection") d
  Some (record { id = id; mode = mode; start = start; protection = protection })

-- The data as a core: its settings; its tasks, ISRs, resources, counters, alarms and tables, none by default. None if a
-- member is missing, unknown or of another type.
unfoldable pub core_shape : Data → Option CoreText
core_shape d = do
  _ ← only_members (codes "id" ∷ codes "mode" ∷ codes "start" ∷ codes "protection" ∷ codes "tasks" ∷ codes "isrs" ∷ codes "resources" ∷ codes "counters" ∷ codes "alarms" ∷ codes "tables" ∷ []) d
  settings ← settings_shape d
  tasks ← member_or (each_of task_shape) [] (codes "tasks") d
  isrs ← member_or (each_of isr_shape) [] (codes "isrs") d
  resources ← member_or (each_of resource_shape) [] (codes "resources") d
  counters ← member_or (each_of counter_shape) [] (codes "counters") d
  alarms ← member_or (each_of alarm_shape) [] (codes "alarms") d
  tables ← member_or (each_of table_shape) [] (codes "tables") d
  Some (record { id = settings.id; mode = settings.mode; start = settings.start; protection = settings.protection; tasks = tasks; isrs = isrs; resources = resources; counters = counters; alarms = alarms; tables = tables })

-- The data as a configuration: its version, 1 by default; the size of a mailbox, 16 by default; the master core, 0 by
-- default; its application modes, `M` alone by default; its spinlocks, none by default; its cores. None if a member is
-- missing, unknown or of another type.
unfoldable pub config_shape : Data → Option ConfigText
config_shape d = do
  _ ← only_members (codes "version" ∷ codes "cap" ∷ codes "master" ∷ codes "modes" ∷ codes "spinlocks" ∷ codes "cores" ∷ []) d
  version ← member_or whole_of (Some 1) (codes "version") d
  cap ← member_or whole_of (Some 16) (codes "cap") d
  master ← member_or whole_of (Some 0) (codes "master") d
  modes ← member_or (each_of name_of) (codes "M" ∷ []) (codes "modes") d
  spinlocks ← member_or (each_of spinlock_shape) [] (codes "spinlocks") d
  cores ← member_of (each_of core_shape) (codes "cores") d
  Some (record { version = version; cap = cap; master = master; modes = modes; spinlocks = spinlocks; cores = cores })

-- ---- the numbers of a text that have limits

-- The numbers of a task that have limits, and whether it is extended, on which the activation limit depends.
abbrev pub task_sizes : TaskText → TaskSizes
task_sizes task = record { priority = task.prio; activations = task.activations; extended = task.extended; budget = task.budget }

-- The numbers of an ISR that have limits.
abbrev pub isr_sizes : IsrText → IsrSizes
isr_sizes isr = record { level = isr.level; budget = isr.budget }

-- The numbers of a resource that have limits.
abbrev pub resource_sizes : ResourceText → ResourceSizes
resource_sizes resource = record { ceiling = resource.ceiling; lock = resource.lock }

-- The numbers of a counter that have limits.
abbrev pub counter_sizes : CounterText → CounterSizes
counter_sizes counter = record { max = counter.max; min = counter.min }

-- The offset of an expiry point, and how many actions it has.
abbrev pub point_sizes : PointText → PointSizes
point_sizes point = record { offset = point.offset; actions = length point.actions }

-- The numbers of an alarm's autostart, with those of the alarm's counter, if these are known.
abbrev pub start_numbers : Option CounterSizes → AlarmStartText → StartSizes
start_numbers counter auto = record { start = auto.start; cycle = auto.cycle; counter = counter }

-- The numbers of a schedule table, and whether it repeats, with the numbers of its counter, if these are known.
abbrev pub table_numbers : Option CounterSizes → TableText → TableSizes
table_numbers counter table = record {
  duration = table.duration;
  repeating = table.repeating;
  points = map point_sizes table.points;
  auto = option_map (λ (auto : TableStartText). auto.offset) table.auto;
  counter = counter;
}

-- The numbers of a core that its own text gives: its number, the cores that it starts, and the sizes of its tasks,
-- ISRs, resources and counters. All other numbers are left empty or 0: the sizes of alarms and tables, how many letters
-- these post, and the lengths of scripts. For these, names have to be looked up, or scripts cut into operations.
abbrev pub core_numbers : CoreText → CoreSizes
core_numbers core = record {
  number = core.id;
  start = core.start;
  tasks = map task_sizes core.tasks;
  isrs = map isr_sizes core.isrs;
  resources = map resource_sizes core.resources;
  counters = map counter_sizes core.counters;
  alarms = [];
  tables = [];
  posted = 0;
  scripts = [];
}

-- The numbers of a configuration that have limits, without those of its cores.
abbrev pub text_numbers : ConfigText → Sizes
text_numbers t = record { version = t.version; modes = length t.modes; spinlocks = length t.spinlocks; cap = t.cap; cores = [] }

-- ---- the objects of a text

-- An object of this name that is no counter, so it has no numbers.
abbrev pub unnumbered : List ℕ → Named
unnumbered name = record { name = name; max = None; min = None }

-- A counter as an object: its name, its greatest value and its least cycle.
abbrev pub numbered : CounterText → Named
numbered counter = record { name = counter.name; max = counter.max; min = counter.min }

-- The objects of this kind that a core's text declares, in the order of the text. Modes and spinlocks are no core's
-- own.
abbrev pub objects_in : ObjectKind → CoreText → List Named
objects_in ObjectKind.Mode core = []
objects_in ObjectKind.Spinlock core = []
objects_in ObjectKind.Task core = map (λ (task : TaskText). unnumbered task.name) core.tasks
objects_in ObjectKind.Isr core = map (λ (isr : IsrText). unnumbered isr.name) core.isrs
objects_in ObjectKind.Resource core = map (λ (resource : ResourceText). unnumbered resource.name) core.resources
objects_in ObjectKind.Counter core = map numbered core.counters
objects_in ObjectKind.Alarm core = map (λ (alarm : AlarmText). unnumbered alarm.name) core.alarms
objects_in ObjectKind.Table core = map (λ (table : TableText). unnumbered table.name) core.tables

-- The objects of this kind that all cores have in common, in the order of the text. Only modes and spinlocks are such.
abbrev pub common_in : ObjectKind → ConfigText → List Named
common_in ObjectKind.Mode t = map unnumbered t.modes
common_in ObjectKind.Spinlock t = map (λ (spinlock : SpinlockText). unnumbered spinlock.name) t.spinlocks
common_in kind t = []

-- Each object of the core has a well-formed name. Every core that `core_shape` gives is such.
abbrev pub has_named_objects : CoreText → Bool
has_named_objects core = list_all (λ (kind : ObjectKind). list_all (λ (named : Named). is_name named.name) (objects_in kind core)) KINDS

-- Each object that all cores have in common has a well-formed name.
abbrev pub has_named_common : ConfigText → Bool
has_named_common t = list_all (λ (kind : ObjectKind). list_all (λ (named : Named). is_name named.name) (common_in kind t)) COMMON

-- Each object of the text has a well-formed name.
abbrev pub is_named : ConfigText → Bool
is_named t = has_named_common t && list_all has_named_objects t.cores
