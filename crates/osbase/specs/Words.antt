-- The printed words and numbers of statuses and services.
use Rattle.std.specs.Prelude.{ℕ, Option, List, codes, slice_get}
use Rattle.osbase.specs.{declared.statuses.Status.Status, declared.statuses.TheConstants.STATUS_LIST, declared.statuses.ServiceId.ServiceId}
use Rattle.osbase.specs.declared.statuses.Status.TheVariants.{EOk, EOsAccess, EOsCallevel, EOsId, EOsLimit, EOsNofunc, EOsResource, EOsState, EOsValue, EOsMissingend, EOsDisabledint, EOsProtectionTime, EOsCore, EOsSpinlock, EOsInterferenceDeadlock, EOsNestingDeadlock, EOsProtectionLocked}
use Rattle.osbase.specs.declared.statuses.ServiceId.TheVariants as Service

-- The number of a status: OSEK/VDX OS 2.2.3, section 13.1, for 0 to 8; the others are this project's own.
abbrev pub status_number : Status → ℕ
status_number EOk = 0
status_number EOsAccess = 1
status_number EOsCallevel = 2
status_number EOsId = 3
status_number EOsLimit = 4
status_number EOsNofunc = 5
status_number EOsResource = 6
status_number EOsState = 7
status_number EOsValue = 8
status_number EOsMissingend = 9
status_number EOsDisabledint = 10
status_number EOsProtectionTime = 11
status_number EOsCore = 12
status_number EOsSpinlock = 13
status_number EOsInterferenceDeadlock = 14
status_number EOsNestingDeadlock = 15
status_number EOsProtectionLocked = 16

-- The status with this number, if there is one.
abbrev pub status_numbered : ℕ → Option Status
status_numbered number = slice_get STATUS_LIST number

-- The word of a status, as the standards spell it.
abbrev pub status_name : Status → List ℕ
status_name EOk = codes "E_OK"
status_name EOsAccess = codes "E_OS_ACCESS"
status_name EOsCallevel = codes "E_OS_CALLEVEL"
status_name EOsId = codes "E_OS_ID"
status_name EOsLimit = codes "E_OS_LIMIT"
status_name EOsNofunc = codes "E_OS_NOFUNC"
status_name EOsResource = codes "E_OS_RESOURCE"
status_name EOsState = codes "E_OS_STATE"
status_name EOsValue = codes "E_OS_VALUE"
status_name EOsMissingend = codes "E_OS_MISSINGEND"
status_name EOsDisabledint = codes "E_OS_DISABLEDINT"
status_name EOsProtectionTime = codes "E_OS_PROTECTION_TIME"
status_name EOsCore = codes "E_OS_CORE"
status_name EOsSpinlock = codes "E_OS_SPINLOCK"
status_name EOsInterferenceDeadlock = codes "E_OS_INTERFERENCE_DEADLOCK"
status_name EOsNestingDeadlock = codes "E_OS_NESTING_DEADLOCK"
status_name EOsProtectionLocked = codes "E_OS_PROTECTION_LOCKED"

-- The word of a service, as the standards spell it.
abbrev pub service_name : ServiceId → List ℕ
service_name Service.ActivateTask = codes "ActivateTask"
service_name Service.TerminateTask = codes "TerminateTask"
service_name Service.ChainTask = codes "ChainTask"
service_name Service.Schedule = codes "Schedule"
service_name Service.GetResource = codes "GetResource"
service_name Service.ReleaseResource = codes "ReleaseResource"
service_name Service.SetEvent = codes "SetEvent"
service_name Service.ClearEvent = codes "ClearEvent"
service_name Service.GetEvent = codes "GetEvent"
service_name Service.WaitEvent = codes "WaitEvent"
service_name Service.SetRelAlarm = codes "SetRelAlarm"
service_name Service.SetAbsAlarm = codes "SetAbsAlarm"
service_name Service.CancelAlarm = codes "CancelAlarm"
service_name Service.GetAlarm = codes "GetAlarm"
service_name Service.IncrementCounter = codes "IncrementCounter"
service_name Service.GetCounterValue = codes "GetCounterValue"
service_name Service.StartScheduleTableRel = codes "StartScheduleTableRel"
service_name Service.StartScheduleTableAbs = codes "StartScheduleTableAbs"
service_name Service.NextScheduleTable = codes "NextScheduleTable"
service_name Service.StopScheduleTable = codes "StopScheduleTable"
service_name Service.GetScheduleTableStatus = codes "GetScheduleTableStatus"
service_name Service.GetSpinlock = codes "GetSpinlock"
service_name Service.TryToGetSpinlock = codes "TryToGetSpinlock"
service_name Service.ReleaseSpinlock = codes "ReleaseSpinlock"
service_name Service.StartCore = codes "StartCore"
