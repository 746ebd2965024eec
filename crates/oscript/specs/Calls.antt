-- The operations that call a service for an object of any core, and the calls across cores that belong to them. No
-- other table has both. Below them: the calls that an alarm or a schedule table may make.
use Rattle.std.specs.Prelude.{Bool, true, false, if◌then◌else◌, Option, Some, None, option_and_then, option_map}
use Rattle.osbase.specs.{Objects.place_on, Objects.task_of, declared.messages.RemoteCall.RemoteCall, declared.references.AlarmRef.AlarmRef, declared.references.TaskRef.TaskRef, declared.statuses.ServiceId.ServiceId}
use Rattle.osbase.specs.declared.messages.RemoteCall.TheVariants as Call
use Rattle.osbase.specs.declared.statuses.ServiceId.TheVariants as Service
use Rattle.oscript.specs.declared.Op.{Op}

-- The service that an operation calls for an object of any core, and the call for that object; no call for the invalid
-- identifier. None for an operation of another kind.
-- [AUTOSAR SWS OS 4.x, SWS_Os_00596 and SWS_Os_00602; which services: own]
abbrev pub call_of_op : Op → Option (ServiceId × Option RemoteCall)
call_of_op (Op.ActivateTask target) = Some (Service.ActivateTask, option_map Call.ActivateTask target)
call_of_op (Op.SetEvent target mask) = Some (Service.SetEvent, option_map (λ (t : TaskRef). Call.SetEvent t mask) target)
call_of_op (Op.SetRelAlarm target increment cycle) = Some (Service.SetRelAlarm, option_map (λ (a : AlarmRef). Call.SetRelAlarm a increment cycle) target)
call_of_op (Op.SetAbsAlarm target start cycle) = Some (Service.SetAbsAlarm, option_map (λ (a : AlarmRef). Call.SetAbsAlarm a start cycle) target)
call_of_op (Op.CancelAlarm target) = Some (Service.CancelAlarm, option_map Call.CancelAlarm target)
call_of_op (Op.GetAlarm target x) = Some (Service.GetAlarm, option_map (λ (a : AlarmRef). Call.GetAlarm a x) target)
call_of_op op = None

-- The operation that a script has for a call.
abbrev pub op_of_call : RemoteCall → Op
op_of_call (Call.ActivateTask t) = Op.ActivateTask (Some t)
op_of_call (Call.SetEvent t mask) = Op.SetEvent (Some t) mask
op_of_call (Call.SetRelAlarm a increment cycle) = Op.SetRelAlarm (Some a) increment cycle
op_of_call (Call.SetAbsAlarm a start cycle) = Op.SetAbsAlarm (Some a) start cycle
op_of_call (Call.CancelAlarm a) = Op.CancelAlarm (Some a)
op_of_call (Call.GetAlarm a x) = Op.GetAlarm (Some a) x

-- The calls that an alarm or an expiry point may make: each activates a task or sets events of one.
-- [AUTOSAR SWS OS 4.x, OsAlarmAction and OsScheduleTableExpiryPoint]
abbrev pub is_action : RemoteCall → Bool
is_action (Call.ActivateTask t) = true
is_action (Call.SetEvent t mask) = true
is_action call = false

-- The action activates a task. The other actions set events.
abbrev pub is_activation : RemoteCall → Bool
is_activation (Call.ActivateTask t) = true
is_activation call = false

-- An action that fills places where no action is meant. It is never done. [own]
abbrev pub any_action : RemoteCall
any_action = Call.ActivateTask (task_of (place_on (record { number = 0 }) 0))

-- The call of an operation, if the operation has one and names the object of the call, not the invalid identifier.
abbrev pub named_call : Op → Option RemoteCall
named_call op = option_and_then (λ (entry : ServiceId × Option RemoteCall). entry.1) (call_of_op op)

-- The call, if it is an action.
abbrev pub if_action : RemoteCall → Option RemoteCall
if_action call = if is_action call then Some call else None

-- The call of an operation, if the call is an action, which an alarm or an expiry point may make.
abbrev pub action_of_op : Op → Option RemoteCall
action_of_op op = option_and_then if_action (named_call op)
