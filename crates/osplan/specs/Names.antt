-- The names of modes and objects, by their places. What the configuration lacks has the empty name. [own]
use Rattle.std.specs.Prelude.{ℕ, if◌then◌else◌, List, [], slice_get, unwrap_or}
use Rattle.std.specs.Option.{option_map_or}
use Rattle.osbase.specs.{declared.objects.ObjectKind.ObjectKind, declared.objects.Place.Place, declared.objects.TheConstants.NOBODY, declared.references.AlarmRef.AlarmRef, declared.references.IsrRef.IsrRef, declared.references.ModeId.ModeId, declared.references.ResourceRef.ResourceRef, declared.references.Runner.Runner, declared.references.SpinlockId.SpinlockId, declared.references.TableRef.TableRef, declared.references.TaskRef.TaskRef, History.same_core}
use Rattle.osbase.specs.Objects.{alarm_place, isr_place, resource_place, spinlock_place, table_place, task_place}
use Rattle.osplan.specs.{declared.plans.Core.Core, declared.plans.Plan.Plan, Objects.common_names, Objects.names_in, View.core_of}

-- The name of an application mode; empty if the configuration lacks the mode.
abbrev pub name_of_mode : Plan → ModeId → List ℕ
name_of_mode plan mode = unwrap_or (slice_get plan.modes mode.index) []

-- ---- objects

-- The name of the core's object of this kind and index; empty if the core has none.
abbrev pub name_in : ObjectKind → Core → ℕ → List ℕ
name_in kind core index = unwrap_or (slice_get (names_in kind core) index) []

-- The name of the object of this kind and place that all cores have in common; empty if there is none.
abbrev pub common_name : Plan → ObjectKind → Place → List ℕ
common_name plan kind place = if same_core place.core NOBODY then unwrap_or (slice_get (common_names kind plan) place.index) [] else []

-- The name of the object of this kind at this place: one of a core's, or one that all cores have in common.
abbrev pub name_of : Plan → ObjectKind → Place → List ℕ
name_of plan kind place = option_map_or (λ (core : Core). name_in kind core place.index) (core_of plan place.core) (common_name plan kind place)

abbrev pub spinlock_name : Plan → SpinlockId → List ℕ
spinlock_name plan lock = name_of plan ObjectKind.Spinlock (spinlock_place lock)

abbrev pub task_name : Plan → TaskRef → List ℕ
task_name plan task = name_of plan ObjectKind.Task (task_place task)

abbrev pub resource_name : Plan → ResourceRef → List ℕ
resource_name plan resource = name_of plan ObjectKind.Resource (resource_place resource)

abbrev pub alarm_name : Plan → AlarmRef → List ℕ
alarm_name plan alarm = name_of plan ObjectKind.Alarm (alarm_place alarm)

abbrev pub table_name : Plan → TableRef → List ℕ
table_name plan table = name_of plan ObjectKind.Table (table_place table)

abbrev pub isr_name : Plan → IsrRef → List ℕ
isr_name plan isr = name_of plan ObjectKind.Isr (isr_place isr)

-- The name of a task or an ISR.
abbrev pub runner_name : Plan → Runner → List ℕ
runner_name plan (Runner.Task task) = task_name plan task
runner_name plan (Runner.Isr isr) = isr_name plan isr
