-- Objects of every kind, and which of them a call across cores names.
use Rattle.std.specs.Prelude.{ℕ, ◌==◌, ◌&&◌, Bool, true, false}
use Rattle.osbase.specs.{declared.references.ModeId.ModeId, declared.references.SpinlockId.SpinlockId, declared.references.TaskRef.TaskRef, declared.references.IsrRef.IsrRef, declared.references.ResourceRef.ResourceRef, declared.references.CounterRef.CounterRef, declared.references.AlarmRef.AlarmRef, declared.references.TableRef.TableRef, declared.objects.ObjectKind.ObjectKind, declared.objects.Place.Place, declared.objects.TheConstants.NOBODY, declared.objects.Object.Object, declared.messages.RemoteCall.RemoteCall, declared.references.CoreId.CoreId, History.same_core}
use Rattle.osbase.specs.declared.objects.ObjectKind.TheVariants.{Mode, Spinlock, Task, Isr, Resource, Counter, Alarm, Table}
use Rattle.osbase.specs.declared.messages.RemoteCall.TheVariants.{ActivateTask, SetEvent, SetRelAlarm, SetAbsAlarm, CancelAlarm, GetAlarm}

-- Equality of kinds.
abbrev pub same_kind : ObjectKind → ObjectKind → Bool
same_kind Mode Mode = true
same_kind Spinlock Spinlock = true
same_kind Task Task = true
same_kind Isr Isr = true
same_kind Resource Resource = true
same_kind Counter Counter = true
same_kind Alarm Alarm = true
same_kind Table Table = true
same_kind kind other = false

-- Equality of places.
abbrev pub same_place : Place → Place → Bool
same_place p q = same_core p.core q.core && (p.index == q.index)

-- The place of this index on a core.
abbrev pub place_on : CoreId → ℕ → Place
place_on core index = record { core = core; index = index }

-- The object of this kind at this place.
abbrev pub object_at : ObjectKind → Place → Object
object_at kind place = record { kind = kind; place = place }

-- The place of a reference's object, and the reference to the object at a place. [own]
abbrev pub mode_place : ModeId → Place
mode_place m = place_on NOBODY m.index

abbrev pub mode_of : Place → ModeId
mode_of p = record { index = p.index }

abbrev pub spinlock_place : SpinlockId → Place
spinlock_place l = place_on NOBODY l.index

abbrev pub spinlock_of : Place → SpinlockId
spinlock_of p = record { index = p.index }

abbrev pub task_place : TaskRef → Place
task_place t = place_on t.core t.index

abbrev pub task_of : Place → TaskRef
task_of p = record { core = p.core; index = p.index }

abbrev pub isr_place : IsrRef → Place
isr_place i = place_on i.core i.index

abbrev pub isr_of : Place → IsrRef
isr_of p = record { core = p.core; index = p.index }

abbrev pub resource_place : ResourceRef → Place
resource_place r = place_on r.core r.index

abbrev pub resource_of : Place → ResourceRef
resource_of p = record { core = p.core; index = p.index }

abbrev pub counter_place : CounterRef → Place
counter_place c = place_on c.core c.index

abbrev pub counter_of : Place → CounterRef
counter_of p = record { core = p.core; index = p.index }

abbrev pub alarm_place : AlarmRef → Place
alarm_place a = place_on a.core a.index

abbrev pub alarm_of : Place → AlarmRef
alarm_of p = record { core = p.core; index = p.index }

abbrev pub table_place : TableRef → Place
table_place s = place_on s.core s.index

abbrev pub table_of : Place → TableRef
table_of p = record { core = p.core; index = p.index }

abbrev pub mode_object : ModeId → Object
mode_object m = object_at Mode (mode_place m)

abbrev pub spinlock_object : SpinlockId → Object
spinlock_object l = object_at Spinlock (spinlock_place l)

abbrev pub task_object : TaskRef → Object
task_object t = object_at Task (task_place t)

abbrev pub isr_object : IsrRef → Object
isr_object i = object_at Isr (isr_place i)

abbrev pub resource_object : ResourceRef → Object
resource_object r = object_at Resource (resource_place r)

abbrev pub counter_object : CounterRef → Object
counter_object c = object_at Counter (counter_place c)

abbrev pub alarm_object : AlarmRef → Object
alarm_object a = object_at Alarm (alarm_place a)

abbrev pub table_object : TableRef → Object
table_object s = object_at Table (table_place s)

-- The object that a call across cores is for. [AUTOSAR SWS OS 4.x, SWS_Os_00596 and SWS_Os_00602]
abbrev pub object_of_call : RemoteCall → Object
object_of_call (ActivateTask t) = task_object t
object_of_call (SetEvent t mask) = task_object t
object_of_call (SetRelAlarm a increment cycle) = alarm_object a
object_of_call (SetAbsAlarm a start cycle) = alarm_object a
object_of_call (CancelAlarm a) = alarm_object a
object_of_call (GetAlarm a variable) = alarm_object a
