-- The tests of a text that has the shape of a configuration: one for each fault. Each is defined apart from the others.
-- `tests_of` says which of them skip a name that is unknown or occurs twice. [own]
use Rattle.std.specs.Prelude.{ℕ, ◌&&◌, ◌||◌, not, true, Bool, Option, None, is_some, option_and_then, option_map, List, [], ◌∷◌, ◌++◌, length, map}
use Rattle.std.specs.{List.list_all, Option.option_map_or, Str.bytes_eq}
use Rattle.osvalidate.specs.Words.{AlarmStartText, AlarmText, ConfigText, CoreId, CoreText, Declaration, IsrText, PointText, SpinlockId, SpinlockText, TableStartText, TableText, TaskText}
use Rattle.osbase.specs.{declared.objects.ObjectKind.TheVariants.Counter, declared.objects.ObjectKind.TheVariants.Mode, declared.objects.ObjectKind.TheVariants.Spinlock, History.same_core}
use Rattle.ossyntax.specs.{Action.is_action, Operation.has_masks}
use Rattle.osplan.specs.Representable.{are_distinct, dont_care, is_free_of_resources, is_jumping_within, is_reserved}
use Rattle.osplan.specs.Limits.{CounterSizes, StartSizes, TableSizes, CoreSizes, Sizes, is_within_by, is_core_numbered, is_short, is_versioned, is_within, is_table_timed, has_number, are_numbers_distinct, is_local_to}
use Rattle.osplan.specs.{Spinlocks.are_links_ordered, Fault.Tests}
use Rattle.osplan.specs.declared.faults.ConfFault.TheVariants.{Limit, DuplicateName, UnknownName, WrongCore, SpinOrder, BadMask, BadTable, BadScript}
use Rattle.osvalidate.specs.{Action.is_action_known, Action.is_action_masked, Posted.most_posts_per_tick}
use Rattle.osschema.specs.Declarations.{counter_declared, counter_ref, declarations, declared_sizes, id_of, names_of, place_of, spinlock_ref}
pub use Rattle.osschema.specs.Shape.{task_sizes, isr_sizes, resource_sizes, counter_sizes, point_sizes}
use Rattle.osschema.specs.Shape.{start_numbers, table_numbers, core_numbers, text_numbers}
use Rattle.osvalidate.specs.Operation.{operations_of, op_of, named_op, is_operation_known, is_operation}

-- ---- limits: those of a configuration, over the text's numbers

-- The numbers of the counter of this name, if exactly one object has the name and is a counter.
abbrev pub named_sizes : List Declaration → List ℕ → Option CounterSizes
named_sizes objects counter = option_map declared_sizes (counter_declared objects counter)

-- The numbers of an alarm's autostart, with those of the counter of this name, if these are known.
abbrev pub start_sizes : List Declaration → List ℕ → AlarmStartText → StartSizes
start_sizes objects counter auto = start_numbers (named_sizes objects counter) auto

-- The numbers of the alarm's autostart, if it has one, with those of the alarm's counter.
abbrev pub alarm_sizes : List Declaration → AlarmText → Option StartSizes
alarm_sizes objects alarm = option_map (start_sizes objects alarm.counter) alarm.auto

-- The numbers of a table, with those of the counter that the table names, if these are known.
abbrev pub table_sizes : List Declaration → TableText → TableSizes
table_sizes objects table = table_numbers (named_sizes objects table.counter) table

-- The numbers of a table, without those of its counter.
abbrev pub bare_table_sizes : TableText → TableSizes
bare_table_sizes table = table_numbers None table

-- The scripts of a core: those of its tasks, and then those of its ISRs.
abbrev pub core_scripts : CoreText → List (List ℕ)
core_scripts core = map (λ (task : TaskText). task.script) core.tasks ++ map (λ (isr : IsrText). isr.script) core.isrs

-- All numbers of a core that have limits.
abbrev pub core_sizes : List Declaration → CoreText → CoreSizes
core_sizes objects core = record (core_numbers core) {
  alarms = map (alarm_sizes objects) core.alarms;
  tables = map (table_sizes objects) core.tables;
  posted = most_posts_per_tick objects core;
  scripts = map (λ (script : List ℕ). length (operations_of script)) (core_scripts core);
}

-- The numbers of a core, without those of its counters, its alarms and its tables, and without what these post.
abbrev pub bare_sizes : CoreText → CoreSizes
bare_sizes core = record (core_sizes [] core) { counters = []; alarms = []; tables = []; posted = 0 }

-- All numbers of a text that have limits.
abbrev pub sizes_of : ConfigText → Sizes
sizes_of t = record (text_numbers t) { cores = map (core_sizes (declarations t)) t.cores }

-- All numbers of the text that have limits are within them.
abbrev pub is_text_within : ConfigText → Bool
is_text_within t = is_within (sizes_of t)

-- The script has at most 256 operations.
abbrev pub is_script_short : List ℕ → Bool
is_script_short script = is_short (length (operations_of script))

-- No script of the core has too many operations.
abbrev pub is_core_short : CoreText → Bool
is_core_short core = list_all is_script_short (core_scripts core)

-- No script of the text has too many operations.
abbrev pub are_scripts_short : ConfigText → Bool
are_scripts_short t = list_all is_core_short t.cores

-- The version of the text exists. The text is within the limits of this version and of all versions, apart from the
-- lengths of its scripts.
abbrev pub is_text_numbered : ConfigText → Bool
is_text_numbered t = is_versioned (sizes_of t) && is_within_by is_core_numbered (sizes_of t)

-- ---- names and numbers that occur twice

-- The numbers of these cores.
abbrev pub numbers_of : List CoreText → List (Option ℕ)
numbers_of cores = map (λ (core : CoreText). core.id) cores

-- The name is not reserved, so a mode may have it.
abbrev pub is_unreserved : List ℕ → Bool
is_unreserved name = not (is_reserved name)

-- No core number and no name occurs twice, and no mode has a reserved name.
abbrev pub is_each_once : ConfigText → Bool
is_each_once t = are_numbers_distinct (numbers_of t.cores) && are_distinct (names_of (declarations t)) && list_all is_unreserved t.modes

-- ---- names and numbers without an object or a core

-- Each name in a well-formed operation of the script is that of an object of its kind.
abbrev pub are_operations_known : List Declaration → List ℕ → Bool
are_operations_known objects script = list_all (is_operation_known objects) (operations_of script)

-- The name is that of an application mode.
abbrev pub is_mode_known : List Declaration → List ℕ → Bool
is_mode_known objects name = is_some (place_of objects Mode name)

-- The mode that a core names exists. A core that gives no mode, or DONOTCARE, names none.
abbrev pub is_core_mode_known : List Declaration → Option (List ℕ) → Bool
is_core_mode_known objects mode = option_map_or (λ (name : List ℕ). bytes_eq name dont_care || is_mode_known objects name) mode true

-- Each mode of the task's autostart exists, and so does each object that a well-formed operation of the task's script
-- names.
abbrev pub is_task_known : List Declaration → TaskText → Bool
is_task_known objects task = list_all (is_mode_known objects) task.auto && are_operations_known objects task.script

-- The modes in which an alarm is autostarted; none if it never is.
abbrev pub alarm_modes : AlarmText → List (List ℕ)
alarm_modes alarm = option_map_or (λ (auto : AlarmStartText). auto.modes) alarm.auto []

-- The alarm's counter, the task of its action (if this is well-formed), and each mode of its autostart exist.
abbrev pub is_alarm_known : List Declaration → AlarmText → Bool
is_alarm_known objects alarm = is_some (place_of objects Counter alarm.counter) && is_action_known objects alarm.action && list_all (is_mode_known objects) (alarm_modes alarm)

-- The task of each well-formed action of the point exists.
abbrev pub is_point_known : List Declaration → PointText → Bool
is_point_known objects point = list_all (is_action_known objects) point.actions

-- The modes in which a schedule table is autostarted; none if it never is.
abbrev pub table_modes : TableText → List (List ℕ)
table_modes table = option_map_or (λ (auto : TableStartText). auto.modes) table.auto []

-- The table's counter, the task of each of its well-formed actions, and each mode of its autostart exist.
abbrev pub is_table_known : List Declaration → TableText → Bool
is_table_known objects table = is_some (place_of objects Counter table.counter) && list_all (is_point_known objects) table.points && list_all (is_mode_known objects) (table_modes table)

-- The mode that the core names exists, and so does all that its tasks, ISRs, alarms and tables name.
abbrev pub is_core_known : List Declaration → CoreText → Bool
is_core_known objects core =
    is_core_mode_known objects core.mode
    && (list_all (is_task_known objects) core.tasks && list_all (λ (isr : IsrText). are_operations_known objects isr.script) core.isrs
    && list_all (is_alarm_known objects) core.alarms && list_all (is_table_known objects) core.tables)

-- The successor that a spinlock names exists. A spinlock without a successor names none.
abbrev pub is_spinlock_known : List Declaration → SpinlockText → Bool
is_spinlock_known objects spinlock = option_map_or (λ (next : List ℕ). is_some (place_of objects Spinlock next)) spinlock.next true

-- The master is a configured core. Each named successor of a spinlock, mode of a core or an autostart, and counter of
-- an alarm or a table exists. So does each object that a well-formed operation or action names.
abbrev pub are_known : ConfigText → Bool
are_known t = has_number (numbers_of t.cores) t.master && (list_all (is_spinlock_known (declarations t)) t.spinlocks && list_all (is_core_known (declarations t)) t.cores)

-- ---- names of other cores' objects

-- If the operation may name only objects of its own core, it names none of another core than this one. An operation
-- that is not well-formed (its numbers may be out of range), or has an unknown name, passes.
abbrev pub is_operation_local : List Declaration → CoreId → List ℕ → Bool
is_operation_local objects id text = is_local_to id (named_op objects text)

-- Where an operation of the script may name only objects of its own core, it names none of another core than this one.
abbrev pub is_script_local : List Declaration → CoreId → List ℕ → Bool
is_script_local objects id script = list_all (is_operation_local objects id) (operations_of script)

-- The alarm's counter, if it exists, is on this core.
abbrev pub is_alarm_local : List Declaration → CoreId → AlarmText → Bool
is_alarm_local objects id alarm = same_core (counter_ref objects id alarm.counter).core id

-- The table's counter, if it exists, is on this core.
abbrev pub is_table_local : List Declaration → CoreId → TableText → Bool
is_table_local objects id table = same_core (counter_ref objects id table.counter).core id

-- Where the core's scripts may name only objects of their own core, they name none of another. The counters of the
-- core's alarms and tables, if they exist, are on the core.
abbrev pub has_local_references : List Declaration → CoreText → Bool
has_local_references objects core =
    list_all (λ (task : TaskText). is_script_local objects (id_of core) task.script) core.tasks
    && list_all (λ (isr : IsrText). is_script_local objects (id_of core) isr.script) core.isrs && list_all (is_alarm_local objects (id_of core)) core.alarms && list_all (is_table_local objects (id_of core)) core.tables

-- Where a script may name only objects of its own core, it names none of another. The counters of each core's alarms
-- and tables, if they exist, are on that core.
abbrev pub have_local_references : ConfigText → Bool
have_local_references t = list_all (has_local_references (declarations t)) t.cores

-- ---- the order of spinlocks

-- The successor of this spinlock, if it has one and its name is known.
abbrev pub successor : List Declaration → SpinlockText → Option SpinlockId
successor objects spinlock = option_and_then (spinlock_ref objects) spinlock.next

-- The successor of each spinlock, in the order of the text.
abbrev pub links_of : ConfigText → List (Option SpinlockId)
links_of t = map (successor (declarations t)) t.spinlocks

-- The successors of spinlocks have no cycle. [AUTOSAR SWS OS 4.x, OsSpinlockSuccessor]
abbrev pub are_ordered : ConfigText → Bool
are_ordered t = are_links_ordered (links_of t)

-- ---- masks

-- Each mask in an operation of the script is in its range.
abbrev pub is_script_masked : List ℕ → Bool
is_script_masked script = list_all has_masks (operations_of script)

-- Each mask in the task's script is in its range.
abbrev pub is_task_masked : TaskText → Bool
is_task_masked task = is_script_masked task.script

-- The mask of the alarm's action, if it has one, is in its range.
abbrev pub is_alarm_masked : AlarmText → Bool
is_alarm_masked alarm = is_action_masked alarm.action

-- Each mask in an action of the point is in its range.
abbrev pub is_point_masked : PointText → Bool
is_point_masked point = list_all is_action_masked point.actions

-- Each mask in an action of the table is in its range.
abbrev pub is_table_masked : TableText → Bool
is_table_masked table = list_all is_point_masked table.points

-- Each mask in the core's scripts and in the actions of its alarms and tables is in its range.
abbrev pub is_core_masked : CoreText → Bool
is_core_masked core =
    list_all is_task_masked core.tasks && list_all (λ (isr : IsrText). is_script_masked isr.script) core.isrs
    && list_all is_alarm_masked core.alarms && list_all is_table_masked core.tables

-- Each mask in a well-formed operation or action of the text is in its range.
abbrev pub are_masks : ConfigText → Bool
are_masks t = list_all is_core_masked t.cores

-- ---- tables

-- The points of each of the core's tables come in order, none past the table's duration. The table's counter, if it is
-- known, admits the delays before, between and after them.
abbrev pub is_core_timed : List Declaration → CoreText → Bool
is_core_timed objects core = list_all (λ (table : TableText). is_table_timed (table_sizes objects table)) core.tables

-- The points of each table come in order, none past the table's duration. The table's counter, if it is known, admits
-- the delays before, between and after them.
abbrev pub are_timed : ConfigText → Bool
are_timed t = list_all (is_core_timed (declarations t)) t.cores

-- ---- scripts

-- Each operation of the script is well-formed and in range, and each jump goes to an operation of the script, or just
-- past the last.
abbrev pub is_script : List Declaration → List ℕ → Bool
is_script objects script = list_all is_operation (operations_of script) && is_jumping_within (map (op_of objects) (operations_of script))

-- Each operation of the task's script is well-formed and in range, and no jump leaves the script (`is_script`).
abbrev pub is_task_script : List Declaration → TaskText → Bool
is_task_script objects task = is_script objects task.script

-- Each operation of an ISR's script is well-formed and in range, no jump leaves the script (`is_script`), and no
-- operation gets or releases a resource. An operation with an unknown name counts as one without a resource.
abbrev pub is_isr_script : List Declaration → List ℕ → Bool
is_isr_script objects script = is_script objects script && is_free_of_resources (map (op_of objects) (operations_of script))

-- The alarm's action is well-formed.
abbrev pub is_alarm_acting : AlarmText → Bool
is_alarm_acting alarm = is_action alarm.action

-- Each action of the point is well-formed.
abbrev pub is_point_acting : PointText → Bool
is_point_acting point = list_all is_action point.actions

-- Each action of the table is well-formed.
abbrev pub is_table_acting : TableText → Bool
is_table_acting table = list_all is_point_acting table.points

-- Each script of the core's tasks passes `is_script`, and each of its ISRs passes `is_isr_script`. Each action of its
-- alarms and tables is well-formed.
abbrev pub is_core_script : List Declaration → CoreText → Bool
is_core_script objects core =
    list_all (is_task_script objects) core.tasks && list_all (λ (isr : IsrText). is_isr_script objects isr.script) core.isrs
    && list_all is_alarm_acting core.alarms && list_all is_table_acting core.tables

-- Each script of a task passes `is_script`, and each of an ISR passes `is_isr_script`. Each action of an alarm or a
-- table is well-formed.
abbrev pub are_operations : ConfigText → Bool
are_operations t = list_all (is_core_script (declarations t)) t.cores

-- ---- the table, in ascending order of faults

-- The tests of a configuration's text, each with the fault that the text has if the test fails. No test depends on
-- other faults of the text, with three exceptions. An operation with an unknown name passes the test for other cores'
-- objects and, in an ISR's script, the one for resources. In the order of spinlocks, a spinlock whose successor has an
-- unknown name has no successor. What depends on a counter's numbers, or on which core's task an action names, is
-- judged only if exactly one object has the name. In each exception the name is a fault of its own. [own]
abbrev pub tests_of : ConfigText → Tests
tests_of t = (Limit, is_text_within t) ∷ (DuplicateName, is_each_once t) ∷ (UnknownName, are_known t) ∷ (WrongCore, have_local_references t) ∷ (SpinOrder, are_ordered t) ∷ (BadMask, are_masks t) ∷ (BadTable, are_timed t) ∷ (BadScript, are_operations t) ∷ []
