-- The grammar of operations: a row for each verb, operations as verbs with arguments, and the objects that they name.
use Rattle.std.specs.Prelude.{ℕ, ◌&&◌, nat_le, ℤ, pos, negsuc, Bool, true, false, if◌then◌else◌, Option, Some, None, is_some, List, [], ◌∷◌, codes, option_map, filter_map, slice_get, unwrap_or}
use Rattle.std.specs.{List.list_all, Option.option_map_or}
use Rattle.osbase.specs.Objects.{alarm_of, alarm_place, counter_of, counter_place, resource_of, resource_place, same_kind, spinlock_of, spinlock_place, table_of, table_place, task_of, task_place}
use Rattle.osbase.specs.{Words.service_name, Words.status_number, Words.status_numbered, declared.objects.Object.Object as Named, declared.objects.ObjectKind.ObjectKind, declared.objects.Place.Place, declared.references.AlarmRef.AlarmRef, declared.references.CoreId.CoreId, declared.references.CounterRef.CounterRef, declared.references.ResourceRef.ResourceRef, declared.references.SpinlockId.SpinlockId, declared.references.TableRef.TableRef, declared.references.TaskRef.TaskRef, declared.references.Variable.Variable as VariableRef, declared.statuses.ServiceId.ServiceId, declared.statuses.Status.Status, declared.statuses.Status.TheVariants.EOk}
use Rattle.osbase.specs.declared.objects.ObjectKind.TheVariants.{Task, Resource, Counter, Alarm, Table, Spinlock}
use Rattle.osbase.specs.declared.statuses.ServiceId.TheVariants as Service
use Rattle.oscript.specs.{declared.Op.Op, declared.rows.Arg.Arg, declared.rows.Args.Args, declared.rows.ParsedOp.ParsedOp, declared.rows.Kind.Kind, declared.rows.Row.Row, declared.rows.Verb.Verb}
use Rattle.oscript.specs.declared.rows.Arg.TheVariants.{Core, Object, Mask, Number, Int, Variable}
use Rattle.oscript.specs.declared.rows.Args.TheVariants.{Zero, One, Two, Three}
use Rattle.oscript.specs.declared.rows.TheConstants.{ALARM, COUNTER, POSITION, RESOURCE, SPINLOCK, STATUS, TABLE, TASK, TICKS}

-- The arguments as a list, from the left.
abbrev pub items : {A : Type 0} → Args A → List A
items Zero = []
items (One a) = a ∷ []
items (Two a b) = a ∷ b ∷ []
items (Three a b c) = a ∷ b ∷ c ∷ []

-- A row by its parts: the word, the kinds of the arguments, and the service, if the operation calls one that returns a
-- status.
abbrev pub row_view : Row → List ℕ × Args Kind × Option ServiceId
row_view row = (row.word.now, row.kinds, row.service)

-- The row of an operation without a service that returns a status.
abbrev pub plain_row : List ℕ → Args Kind → List ℕ × Args Kind × Option ServiceId
plain_row word kinds = (word, kinds, None)

-- The row of an operation whose service returns a status: its word is the service's.
abbrev pub service_row : ServiceId → Args Kind → List ℕ × Args Kind × Option ServiceId
service_row service kinds = (service_name service, kinds, Some service)

-- The row of each operation. [own; services as OSEK/VDX OS 2.2.3 and AUTOSAR SWS OS 4.x name them]
abbrev pub row_of : Verb → List ℕ × Args Kind × Option ServiceId
row_of Verb.Work = plain_row (codes "work") Zero
row_of Verb.Set = plain_row (codes "set") (Two Kind.Variable Kind.Int)
row_of Verb.Add = plain_row (codes "add") (Two Kind.Variable Kind.Int)
row_of Verb.AddVariable = plain_row (codes "addv") (Two Kind.Variable Kind.Variable)
row_of Verb.StoreStatus = plain_row (codes "status") (One Kind.Variable)
row_of Verb.Jump = plain_row (codes "jump") (One POSITION)
row_of Verb.JumpIfZero = plain_row (codes "jz") (Two Kind.Variable POSITION)
row_of Verb.ActivateTask = service_row Service.ActivateTask (One TASK)
row_of Verb.TerminateTask = service_row Service.TerminateTask Zero
row_of Verb.ChainTask = service_row Service.ChainTask (One TASK)
row_of Verb.Schedule = service_row Service.Schedule Zero
row_of Verb.GetResource = service_row Service.GetResource (One RESOURCE)
row_of Verb.ReleaseResource = service_row Service.ReleaseResource (One RESOURCE)
row_of Verb.SetEvent = service_row Service.SetEvent (Two TASK Kind.Mask)
row_of Verb.ClearEvent = service_row Service.ClearEvent (One Kind.Mask)
row_of Verb.GetEvent = service_row Service.GetEvent (Two TASK Kind.Variable)
row_of Verb.WaitEvent = service_row Service.WaitEvent (One Kind.Mask)
row_of Verb.IncrementCounter = service_row Service.IncrementCounter (One COUNTER)
row_of Verb.GetCounterValue = service_row Service.GetCounterValue (Two COUNTER Kind.Variable)
row_of Verb.SetRelAlarm = service_row Service.SetRelAlarm (Three ALARM TICKS TICKS)
row_of Verb.SetAbsAlarm = service_row Service.SetAbsAlarm (Three ALARM TICKS TICKS)
row_of Verb.CancelAlarm = service_row Service.CancelAlarm (One ALARM)
row_of Verb.GetAlarm = service_row Service.GetAlarm (Two ALARM Kind.Variable)
row_of Verb.StartScheduleTableRel = service_row Service.StartScheduleTableRel (Two TABLE TICKS)
row_of Verb.StartScheduleTableAbs = service_row Service.StartScheduleTableAbs (Two TABLE TICKS)
row_of Verb.NextScheduleTable = service_row Service.NextScheduleTable (Two TABLE TABLE)
row_of Verb.StopScheduleTable = service_row Service.StopScheduleTable (One TABLE)
row_of Verb.GetScheduleTableStatus = service_row Service.GetScheduleTableStatus (Two TABLE Kind.Variable)
row_of Verb.SuspendAllInterrupts = plain_row (codes "SuspendAllInterrupts") Zero
row_of Verb.ResumeAllInterrupts = plain_row (codes "ResumeAllInterrupts") Zero
row_of Verb.StartCore = service_row Service.StartCore (One Kind.Core)
row_of Verb.GetNumberOfActivatedCores = plain_row (codes "GetNumberOfActivatedCores") (One Kind.Variable)
row_of Verb.ShutdownOs = plain_row (codes "ShutdownOS") (One STATUS)
row_of Verb.ShutdownAllCores = plain_row (codes "ShutdownAllCores") (One STATUS)
row_of Verb.GetSpinlock = service_row Service.GetSpinlock (One SPINLOCK)
row_of Verb.TryToGetSpinlock = service_row Service.TryToGetSpinlock (Two SPINLOCK Kind.Variable)
row_of Verb.ReleaseSpinlock = service_row Service.ReleaseSpinlock (One SPINLOCK)

-- The word in the verb's row.
abbrev pub word_of : Verb → List ℕ
word_of verb = (row_of verb).0

-- The kinds of the arguments in the verb's row, from the left.
abbrev pub kinds_of : Verb → List Kind
kinds_of verb = items (row_of verb).1

-- The service in the verb's row, if the operation calls one that returns a status.
abbrev pub service_of : Verb → Option ServiceId
service_of verb = (row_of verb).2

-- ---- operations as forms

-- A form as its two parts: the verb of an operation and its arguments, from the left.
abbrev pub form_view : ParsedOp Place → Verb × List (Arg Place)
form_view form = (form.verb, items form.args)

-- ---- arguments by their places. An argument that is not of its kind is taken as the invalid identifier, as 0 or as v0.

-- The place of the object that an argument names, if the object is of this kind.
abbrev pub place_in : ObjectKind → Option (Arg Place) → Option Place
place_in kind (Some (Object other target)) = if same_kind kind other then target else None
place_in kind arg = None

-- The place of the object that the argument at index `i` names, if the object is of this kind.
abbrev pub place_at : ObjectKind → List (Arg Place) → ℕ → Option Place
place_at kind args i = place_in kind (slice_get args i)

-- The reference to the object that the argument at index `i` names, if the object is of this kind.
abbrev pub ref_at : {R : Type 0} → ObjectKind → (Place → R) → List (Arg Place) → ℕ → Option R
ref_at kind ref_of args i = option_map ref_of (place_at kind args i)

-- The task that the argument at index `i` names, if it names a task.
abbrev pub task_at : List (Arg Place) → ℕ → Option TaskRef
task_at args i = ref_at Task task_of args i

-- The resource that the argument at index `i` names, if it names a resource.
abbrev pub resource_at : List (Arg Place) → ℕ → Option ResourceRef
resource_at args i = ref_at Resource resource_of args i

-- The counter that the argument at index `i` names, if it names a counter.
abbrev pub counter_at : List (Arg Place) → ℕ → Option CounterRef
counter_at args i = ref_at Counter counter_of args i

-- The alarm that the argument at index `i` names, if it names an alarm.
abbrev pub alarm_at : List (Arg Place) → ℕ → Option AlarmRef
alarm_at args i = ref_at Alarm alarm_of args i

-- The schedule table that the argument at index `i` names, if it names a schedule table.
abbrev pub table_at : List (Arg Place) → ℕ → Option TableRef
table_at args i = ref_at Table table_of args i

-- The spinlock that the argument at index `i` names, if it names a spinlock.
abbrev pub spinlock_at : List (Arg Place) → ℕ → Option SpinlockId
spinlock_at args i = ref_at Spinlock spinlock_of args i

-- The events of a mask, each a bit; 0 if the argument is not a mask.
abbrev pub mask_in : Option (Arg Place) → ℕ
mask_in (Some (Mask mask)) = mask
mask_in arg = 0

-- The events of the mask at index `i` of the arguments; 0 if there is no mask.
abbrev pub mask_at : List (Arg Place) → ℕ → ℕ
mask_at args i = mask_in (slice_get args i)

-- The value of a signed number; 0 if the argument is not one.
abbrev pub int_in : Option (Arg Place) → ℤ
int_in (Some (Int n)) = n
int_in arg = pos 0

-- The signed number at index `i` of the arguments; 0 if there is none.
abbrev pub int_at : List (Arg Place) → ℕ → ℤ
int_at args i = int_in (slice_get args i)

-- The value of a whole number; 0 if the argument is not one.
abbrev pub number_in : Option (Arg Place) → ℕ
number_in (Some (Number n)) = n
number_in arg = 0

-- The whole number at index `i` of the arguments; 0 if there is none.
abbrev pub number_at : List (Arg Place) → ℕ → ℕ
number_at args i = number_in (slice_get args i)

-- The status whose number is the argument at index `i`; E_OK if there is no number, or no status has it.
abbrev pub status_at : List (Arg Place) → ℕ → Status
status_at args i = unwrap_or (status_numbered (number_at args i)) EOk

-- The core that the argument names; none for the invalid identifier and for an argument of another kind.
abbrev pub core_in : Option (Arg Place) → Option CoreId
core_in (Some (Core target)) = target
core_in arg = None

-- The core that the argument at index `i` names; none for the invalid identifier and for an argument of another kind.
abbrev pub core_at : List (Arg Place) → ℕ → Option CoreId
core_at args i = core_in (slice_get args i)

-- The variable that the argument names; `v0` if the argument is not a variable.
abbrev pub variable_in : Option (Arg Place) → VariableRef
variable_in (Some (Variable x)) = record { index = x }
variable_in arg = record { index = 0 }

-- The variable that the argument at index `i` names; `v0` if there is no variable.
abbrev pub variable_at : List (Arg Place) → ℕ → VariableRef
variable_at args i = variable_in (slice_get args i)

-- ---- operations and their forms

-- The operation of a verb and its arguments.
abbrev pub op_of_parsed : Verb → List (Arg Place) → Op
op_of_parsed Verb.Work args = Op.Work
op_of_parsed Verb.Set args = Op.Set (variable_at args 0) (int_at args 1)
op_of_parsed Verb.Add args = Op.Add (variable_at args 0) (int_at args 1)
op_of_parsed Verb.AddVariable args = Op.AddVariable (variable_at args 0) (variable_at args 1)
op_of_parsed Verb.StoreStatus args = Op.StoreStatus (variable_at args 0)
op_of_parsed Verb.Jump args = Op.Jump (number_at args 0)
op_of_parsed Verb.JumpIfZero args = Op.JumpIfZero (variable_at args 0) (number_at args 1)
op_of_parsed Verb.ActivateTask args = Op.ActivateTask (task_at args 0)
op_of_parsed Verb.TerminateTask args = Op.TerminateTask
op_of_parsed Verb.ChainTask args = Op.ChainTask (task_at args 0)
op_of_parsed Verb.Schedule args = Op.Schedule
op_of_parsed Verb.GetResource args = Op.GetResource (resource_at args 0)
op_of_parsed Verb.ReleaseResource args = Op.ReleaseResource (resource_at args 0)
op_of_parsed Verb.SetEvent args = Op.SetEvent (task_at args 0) (mask_at args 1)
op_of_parsed Verb.ClearEvent args = Op.ClearEvent (mask_at args 0)
op_of_parsed Verb.GetEvent args = Op.GetEvent (task_at args 0) (variable_at args 1)
op_of_parsed Verb.WaitEvent args = Op.WaitEvent (mask_at args 0)
op_of_parsed Verb.IncrementCounter args = Op.IncrementCounter (counter_at args 0)
op_of_parsed Verb.GetCounterValue args = Op.GetCounterValue (counter_at args 0) (variable_at args 1)
op_of_parsed Verb.SetRelAlarm args = Op.SetRelAlarm (alarm_at args 0) (number_at args 1) (number_at args 2)
op_of_parsed Verb.SetAbsAlarm args = Op.SetAbsAlarm (alarm_at args 0) (number_at args 1) (number_at args 2)
op_of_parsed Verb.CancelAlarm args = Op.CancelAlarm (alarm_at args 0)
op_of_parsed Verb.GetAlarm args = Op.GetAlarm (alarm_at args 0) (variable_at args 1)
op_of_parsed Verb.StartScheduleTableRel args = Op.StartScheduleTableRel (table_at args 0) (number_at args 1)
op_of_parsed Verb.StartScheduleTableAbs args = Op.StartScheduleTableAbs (table_at args 0) (number_at args 1)
op_of_parsed Verb.NextScheduleTable args = Op.NextScheduleTable (table_at args 0) (table_at args 1)
op_of_parsed Verb.StopScheduleTable args = Op.StopScheduleTable (table_at args 0)
op_of_parsed Verb.GetScheduleTableStatus args = Op.GetScheduleTableStatus (table_at args 0) (variable_at args 1)
op_of_parsed Verb.SuspendAllInterrupts args = Op.SuspendAllInterrupts
op_of_parsed Verb.ResumeAllInterrupts args = Op.ResumeAllInterrupts
op_of_parsed Verb.StartCore args = Op.StartCore (core_at args 0)
op_of_parsed Verb.GetNumberOfActivatedCores args = Op.GetNumberOfActivatedCores (variable_at args 0)
op_of_parsed Verb.ShutdownOs args = Op.ShutdownOs (status_at args 0)
op_of_parsed Verb.ShutdownAllCores args = Op.ShutdownAllCores (status_at args 0)
op_of_parsed Verb.GetSpinlock args = Op.GetSpinlock (spinlock_at args 0)
op_of_parsed Verb.TryToGetSpinlock args = Op.TryToGetSpinlock (spinlock_at args 0) (variable_at args 1)
op_of_parsed Verb.ReleaseSpinlock args = Op.ReleaseSpinlock (spinlock_at args 0)

-- The operation of a form, which is a verb with its arguments. [own]
abbrev pub op_of : Verb × List (Arg Place) → Op
op_of form = op_of_parsed form.0 form.1

-- The argument that refers to an object of a kind; without an object it is the invalid identifier.
abbrev pub ref_argument : {R : Type 0} → ObjectKind → (R → Place) → Option R → Arg Place
ref_argument kind place_of target = Object kind (option_map place_of target)

-- The argument that refers to this task. Without a task it is the invalid identifier; so for the kinds below.
abbrev pub task_argument : Option TaskRef → Arg Place
task_argument target = ref_argument Task task_place target

abbrev pub resource_argument : Option ResourceRef → Arg Place
resource_argument target = ref_argument Resource resource_place target

abbrev pub counter_argument : Option CounterRef → Arg Place
counter_argument target = ref_argument Counter counter_place target

abbrev pub alarm_argument : Option AlarmRef → Arg Place
alarm_argument target = ref_argument Alarm alarm_place target

abbrev pub table_argument : Option TableRef → Arg Place
table_argument target = ref_argument Table table_place target

abbrev pub spinlock_argument : Option SpinlockId → Arg Place
spinlock_argument target = ref_argument Spinlock spinlock_place target

-- The argument for a status: its number.
abbrev pub status_argument : Status → Arg Place
status_argument status = Number (status_number status)

-- The form of an operation: its verb and its arguments. [own]
abbrev pub parsed_op_of : Op → Verb × List (Arg Place)
parsed_op_of Op.Work = (Verb.Work, [])
parsed_op_of (Op.Set x n) = (Verb.Set, Variable x.index ∷ Int n ∷ [])
parsed_op_of (Op.Add x n) = (Verb.Add, Variable x.index ∷ Int n ∷ [])
parsed_op_of (Op.AddVariable x y) = (Verb.AddVariable, Variable x.index ∷ Variable y.index ∷ [])
parsed_op_of (Op.StoreStatus x) = (Verb.StoreStatus, Variable x.index ∷ [])
parsed_op_of (Op.Jump n) = (Verb.Jump, Number n ∷ [])
parsed_op_of (Op.JumpIfZero x n) = (Verb.JumpIfZero, Variable x.index ∷ Number n ∷ [])
parsed_op_of (Op.ActivateTask target) = (Verb.ActivateTask, task_argument target ∷ [])
parsed_op_of Op.TerminateTask = (Verb.TerminateTask, [])
parsed_op_of (Op.ChainTask target) = (Verb.ChainTask, task_argument target ∷ [])
parsed_op_of Op.Schedule = (Verb.Schedule, [])
parsed_op_of (Op.GetResource target) = (Verb.GetResource, resource_argument target ∷ [])
parsed_op_of (Op.ReleaseResource target) = (Verb.ReleaseResource, resource_argument target ∷ [])
parsed_op_of (Op.SetEvent target mask) = (Verb.SetEvent, task_argument target ∷ Mask mask ∷ [])
parsed_op_of (Op.ClearEvent mask) = (Verb.ClearEvent, Mask mask ∷ [])
parsed_op_of (Op.GetEvent target x) = (Verb.GetEvent, task_argument target ∷ Variable x.index ∷ [])
parsed_op_of (Op.WaitEvent mask) = (Verb.WaitEvent, Mask mask ∷ [])
parsed_op_of (Op.IncrementCounter target) = (Verb.IncrementCounter, counter_argument target ∷ [])
parsed_op_of (Op.GetCounterValue target x) = (Verb.GetCounterValue, counter_argument target ∷ Variable x.index ∷ [])
parsed_op_of (Op.SetRelAlarm target increment cycle) = (Verb.SetRelAlarm, alarm_argument target ∷ Number increment ∷ Number cycle ∷ [])
parsed_op_of (Op.SetAbsAlarm target start cycle) = (Verb.SetAbsAlarm, alarm_argument target ∷ Number start ∷ Number cycle ∷ [])
parsed_op_of (Op.CancelAlarm target) = (Verb.CancelAlarm, alarm_argument target ∷ [])
parsed_op_of (Op.GetAlarm target x) = (Verb.GetAlarm, alarm_argument target ∷ Variable x.index ∷ [])
parsed_op_of (Op.StartScheduleTableRel target offset) = (Verb.StartScheduleTableRel, table_argument target ∷ Number offset ∷ [])
parsed_op_of (Op.StartScheduleTableAbs target start) = (Verb.StartScheduleTableAbs, table_argument target ∷ Number start ∷ [])
parsed_op_of (Op.NextScheduleTable from to) = (Verb.NextScheduleTable, table_argument from ∷ table_argument to ∷ [])
parsed_op_of (Op.StopScheduleTable target) = (Verb.StopScheduleTable, table_argument target ∷ [])
parsed_op_of (Op.GetScheduleTableStatus target x) = (Verb.GetScheduleTableStatus, table_argument target ∷ Variable x.index ∷ [])
parsed_op_of Op.SuspendAllInterrupts = (Verb.SuspendAllInterrupts, [])
parsed_op_of Op.ResumeAllInterrupts = (Verb.ResumeAllInterrupts, [])
parsed_op_of (Op.StartCore target) = (Verb.StartCore, Core target ∷ [])
parsed_op_of (Op.GetNumberOfActivatedCores x) = (Verb.GetNumberOfActivatedCores, Variable x.index ∷ [])
parsed_op_of (Op.ShutdownOs status) = (Verb.ShutdownOs, status_argument status ∷ [])
parsed_op_of (Op.ShutdownAllCores status) = (Verb.ShutdownAllCores, status_argument status ∷ [])
parsed_op_of (Op.GetSpinlock target) = (Verb.GetSpinlock, spinlock_argument target ∷ [])
parsed_op_of (Op.TryToGetSpinlock target x) = (Verb.TryToGetSpinlock, spinlock_argument target ∷ Variable x.index ∷ [])
parsed_op_of (Op.ReleaseSpinlock target) = (Verb.ReleaseSpinlock, spinlock_argument target ∷ [])

-- ---- arguments of their kinds

-- The number fits in 64 bits with its sign.
abbrev pub is_int : ℤ → Bool
is_int (pos n) = nat_le n 9223372036854775807
is_int (negsuc n) = nat_le n 9223372036854775807

-- The argument is of this kind and in the kind's range. A mask may also be 0.
abbrev pub is_of : Kind → Arg Place → Bool
is_of (Kind.Object kind) (Object other target) = same_kind kind other
is_of Kind.Mask (Mask mask) = nat_le mask 4294967295
is_of (Kind.Number low high) (Number n) = nat_le low n && nat_le n high
is_of Kind.Int (Int n) = is_int n
is_of Kind.Variable (Variable x) = nat_le x 7
is_of Kind.Core (Core target) = option_map_or (λ (core : CoreId). nat_le core.number 255) target true
is_of kind arg = false

-- There are as many arguments as kinds, and each argument is of its kind.
abbrev pub are_of : List Kind → List (Arg Place) → Bool
are_of [] [] = true
are_of (kind ∷ kinds) (arg ∷ args) = is_of kind arg && are_of kinds args
are_of kinds args = false

-- The operation is well-formed: it has as many arguments as its row has kinds, and each argument is of its kind. [own]
abbrev pub is_in_form : Op → Bool
is_in_form op = are_of (kinds_of (parsed_op_of op).0) (parsed_op_of op).1

-- ---- the objects of an operation

-- The object that an argument names. The invalid identifier names none.
abbrev pub object_in : Arg Place → Option Named
object_in (Object kind (Some place)) = Some (record { kind = kind; place = place })
object_in (Object kind None) = None
object_in (Mask mask) = None
object_in (Number n) = None
object_in (Int z) = None
object_in (Variable x) = None
object_in (Core target) = None

-- The objects that the arguments name, in their order.
abbrev pub objects_in : List (Arg Place) → List Named
objects_in args = filter_map object_in args

-- The objects that an operation names, in the order of its arguments. [own]
abbrev pub objects_of : Op → List Named
objects_of op = objects_in (parsed_op_of op).1

-- If the argument is a mask, it has an event: a mask that was out of its range is 0. [own]
abbrev pub has_event : {R : Type 0} → Arg R → Bool
has_event (Mask mask) = nat_le 1 mask
has_event arg = true

-- Each mask of the operation has an event. [own]
abbrev pub has_masks : Op → Bool
has_masks op = list_all has_event (parsed_op_of op).1

-- The operation takes or gives back a resource. [OSEK/VDX OS 2.2.3, section 13.4]
abbrev pub uses_resource : Op → Bool
uses_resource (Op.GetResource target) = true
uses_resource (Op.ReleaseResource target) = true
uses_resource op = false

-- The operation may name objects of its own core only: GetResource, ReleaseResource, GetEvent, GetCounterValue, and the
-- five services of schedule tables. [own]
abbrev pub refers_to_own_only : Op → Bool
refers_to_own_only (Op.GetResource target) = true
refers_to_own_only (Op.ReleaseResource target) = true
refers_to_own_only (Op.GetEvent target x) = true
refers_to_own_only (Op.GetCounterValue target x) = true
refers_to_own_only (Op.StartScheduleTableRel target offset) = true
refers_to_own_only (Op.StartScheduleTableAbs target start) = true
refers_to_own_only (Op.NextScheduleTable from to) = true
refers_to_own_only (Op.StopScheduleTable target) = true
refers_to_own_only (Op.GetScheduleTableStatus target x) = true
refers_to_own_only op = false

-- The operation asks how many cores are started, calls StartCore, or names a spinlock: what it does depends on what all
-- cores share.
-- [AUTOSAR SWS OS 4.x, SWS_Os_00672, SWS_Os_00676, SWS_Os_00686, SWS_Os_00703 and SWS_Os_00695]
abbrev pub asks_shared : Op → Bool
asks_shared (Op.StartCore target) = true
asks_shared (Op.GetNumberOfActivatedCores x) = true
asks_shared (Op.GetSpinlock target) = is_some target
asks_shared (Op.TryToGetSpinlock target x) = is_some target
asks_shared (Op.ReleaseSpinlock target) = is_some target
asks_shared op = false

-- The operation shuts all cores down. [AUTOSAR SWS OS 4.x, SWS_Os_00713]
abbrev pub halts_all : Op → Bool
halts_all (Op.ShutdownAllCores status) = true
halts_all op = false
