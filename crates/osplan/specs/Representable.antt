-- Which configurations a text can represent, beside the limits. Names are well-formed and all different, and no mode
-- has a reserved name. Scripts and actions have arguments of their kinds and masks with events. Scripts jump only
-- within themselves, and scripts of ISRs use no resource. [own]
-- Each is a test, so that a literal configuration passes it by computation.
use Rattle.std.specs.Prelude.{ℕ, ◌&&◌, ◌||◌, nat_le, Bool, true, not, List, [], ◌∷◌, ◌++◌, length, codes}
use Rattle.std.specs.{List.list_all, List.list_any, List.flat_map, Option.option_map_or, Str.bytes_eq}
use Rattle.osbase.specs.{declared.objects.ObjectKind.ObjectKind, declared.messages.RemoteCall.RemoteCall, Names.is_name}
use Rattle.oscript.specs.{declared.Op.Op, Calls.op_of_call, Frames.position_of, Rows.has_masks, Rows.is_in_form, Rows.uses_resource}
use Rattle.osplan.specs.{declared.plans.Alarm.Alarm, declared.plans.Plan.Plan, declared.plans.Core.Core, declared.plans.Counter.Counter, declared.plans.Isr.Isr, declared.plans.Resource.Resource, declared.plans.Spinlock.Spinlock, declared.plans.Table.Table, declared.plans.Task.Task, declared.plans.TheConstants.COMMON, declared.plans.TheConstants.KINDS, Objects.common_names, Objects.names_in, Objects.table_actions}

-- The word for the mode of a core that accepts any mode. [AUTOSAR SWS OS 4.x, DONOTCARE]
abbrev pub dont_care : List ℕ
dont_care = codes "DONOTCARE"

-- No mode may have this name: it is the word for any mode, or a log writes it in place of a mode. [own]
abbrev pub is_reserved : List ℕ → Bool
is_reserved name = bytes_eq name dont_care || bytes_eq name (codes "conflict") || bytes_eq name (codes "none")

-- The mode's name is well-formed and not reserved.
abbrev pub is_mode_representable : List ℕ → Bool
is_mode_representable name = is_name name && not (is_reserved name)

-- The spinlock's name is well-formed.
abbrev pub is_spinlock_representable : Spinlock → Bool
is_spinlock_representable spinlock = is_name spinlock.name

-- No name of the list is one of those after it.
abbrev pub are_distinct : List (List ℕ) → Bool
are_distinct [] = true
are_distinct (name ∷ names) = not (list_any (λ later. bytes_eq later name) names) && are_distinct names

-- The names of a core's objects, kind by kind.
abbrev pub object_names : Core → List (List ℕ)
object_names core = flat_map (λ (kind : ObjectKind). names_in kind core) KINDS

-- The names of the objects that all cores have in common, kind by kind.
abbrev pub all_common_names : Plan → List (List ℕ)
all_common_names plan = flat_map (λ (kind : ObjectKind). common_names kind plan) COMMON

-- Every name that a configuration declares: the common ones, and those of its objects, core by core.
abbrev pub declared_names : Plan → List (List ℕ)
declared_names plan = all_common_names plan ++ flat_map object_names plan.cores

-- If the operation jumps, its target is one of the `count` operations of its script, or the place past the last.
abbrev pub goes_within : ℕ → Op → Bool
goes_within count op = option_map_or (λ (n : ℕ). nat_le n count) (position_of op) true

-- The script's operations jump only to operations of the script, or past its last.
abbrev pub is_jumping_within : List Op → Bool
is_jumping_within script = list_all (goes_within (length script)) script

-- A script's operations have arguments of their kinds and masks with events, and jump within the script.
abbrev pub is_script_representable : List Op → Bool
is_script_representable script = list_all is_in_form script && list_all has_masks script && is_jumping_within script

-- As an operation of a script, the action has arguments of its kinds and a mask with an event. [own]
abbrev pub is_action_representable : RemoteCall → Bool
is_action_representable action = is_in_form (op_of_call action) && has_masks (op_of_call action)

-- The task's name is well-formed, and its script is representable.
abbrev pub is_task_representable : Task → Bool
is_task_representable task = is_name task.name && is_script_representable task.script

-- No operation of the script takes or gives back a resource.
abbrev pub is_free_of_resources : List Op → Bool
is_free_of_resources script = not (list_any uses_resource script)

-- The ISR's name is well-formed, and its script is representable and uses no resource. [own]
abbrev pub is_isr_representable : Isr → Bool
is_isr_representable isr = is_name isr.name && is_script_representable isr.script && is_free_of_resources isr.script

-- The resource's name is well-formed.
abbrev pub is_resource_representable : Resource → Bool
is_resource_representable resource = is_name resource.name

-- The counter's name is well-formed.
abbrev pub is_counter_representable : Counter → Bool
is_counter_representable counter = is_name counter.name

-- The alarm's name is well-formed, and its action is representable.
abbrev pub is_alarm_representable : Alarm → Bool
is_alarm_representable alarm = is_name alarm.name && is_action_representable alarm.action

-- The table's name is well-formed, and its actions are representable.
abbrev pub is_table_representable : Table → Bool
is_table_representable table = is_name table.name && list_all is_action_representable (table_actions table)

-- All objects of a core are representable.
abbrev pub is_core_representable : Core → Bool
is_core_representable core =
    list_all is_task_representable core.tasks && list_all is_isr_representable core.isrs
    && list_all is_resource_representable core.resources && list_all is_counter_representable core.counters
    && list_all is_alarm_representable core.alarms && list_all is_table_representable core.tables

-- The modes, spinlocks and cores are representable, and the names that the configuration declares are all different.
abbrev pub is_representable : Plan → Bool
is_representable plan =
    list_all is_mode_representable plan.modes && list_all is_spinlock_representable plan.spinlocks && list_all is_core_representable plan.cores
    && are_distinct (declared_names plan)
