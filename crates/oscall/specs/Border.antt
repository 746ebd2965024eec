-- Services on objects that may be on another core.
--
-- Such a service has two halves. The caller's core makes the checks up to whether the object's core was started; the
-- object's core makes the others and has the effect, for a job of its own and for another core alike.
use Rattle.std.specs.Prelude.{Bool, Option, Some, None}
use Rattle.osbase.specs.{declared.statuses.Status.TheVariants.EOsCore, declared.statuses.Status.TheVariants.EOsId, declared.statuses.ServiceId.ServiceId, declared.references.CoreId.CoreId, declared.references.Runner.Runner, declared.messages.RemoteCall.RemoteCall, Objects.object_of_call, Answers.reply, Answers.served}
use Rattle.osbase.specs.declared.messages.RemoteCall.TheVariants.{ActivateTask, SetEvent, SetRelAlarm, SetAbsAlarm, CancelAlarm, GetAlarm}
use Rattle.osplan.specs.{declared.plans.Core.Core, Objects.may_name}
use Rattle.osservice.specs.{declared.returning.ServiceResult.ServiceResult, Returning.asks, Returning.reports, Returning.returns}
use Rattle.osacts.specs.Acts.{Acts, Sends, both, if_started, look, nothing, one_then, prints, when}
use Rattle.osacts.specs.Seen.{Seen, is_this_core}
use Rattle.osservice.specs.Service.{Service, answer_of, effect_of, serves}
use Rattle.osservice_tasks.specs.{Events.setting, Tasks.activation}
use Rattle.osservice_alarms.specs.Alarms.{absolute_setting, cancellation, inquiry, relative_setting}

-- The service that a call asks for, as the object's core does it. [own]
abbrev pub service_of : RemoteCall → Seen → Service
service_of (ActivateTask t) = activation t
service_of (SetEvent t mask) = setting t mask
service_of (SetRelAlarm a increment cycle) = relative_setting a increment cycle
service_of (SetAbsAlarm a start cycle) = absolute_setting a start cycle
service_of (CancelAlarm a) = cancellation a
service_of (GetAlarm a x) = inquiry a

-- The core of the object that a call is on.
abbrev pub core_of_call : RemoteCall → CoreId
core_of_call call = (object_of_call call).place.core

-- The call is on an object that the core may name: one of its own, or any of another core.
abbrev pub is_known_call : Core → RemoteCall → Bool
is_known_call core call = may_name core (object_of_call call)

-- ---- for a job of this core

-- For an own object the service is done here; else the object's core is asked.
abbrev pub crosses : Runner → ServiceId → RemoteCall → Acts
crosses r id call = look (λ s. when (is_this_core s (core_of_call call)) (serves r id (service_of call s)) (asks r id (core_of_call call) call))

-- A job calls a service on an object of any core. The caller's core refuses the invalid identifier, and an object of a
-- core that was never started. Else the service is done here, or the object's core is asked.
-- [OSEK/VDX OS 2.2.3, section 13.2.3.1 and 13.5.3.1; E_OS_CORE: own]
abbrev pub calls : Runner → ServiceId → Option RemoteCall → Acts
calls r id None = returns r id EOsId None
calls r id (Some call) = if_started (core_of_call call) (crosses r id call) (returns r id EOsCore None)

-- ---- for another core

-- A call of another core is served: the effect of its service, then its line with the answer, and then the acts that
-- `follows` gives for the answer.
abbrev pub serves_for : CoreId → RemoteCall → (ServiceResult → Acts) → Acts
serves_for from call follows = look (λ s.
    let answer = answer_of (service_of call s) in
    both (effect_of (service_of call s)) (both (prints (served from call answer.status answer.value)) (follows answer)))

-- A request of another core is served, and answered by a reply. Its error calls no ErrorHook on this core. [own]
abbrev pub serves_request : CoreId → RemoteCall → Acts
serves_request from call = serves_for from call (λ answer. one_then (Sends from (reply answer.status answer.value)) nothing)

-- An action of another core is served. It gets no reply; its error calls ErrorHook on this core.
abbrev pub serves_action : CoreId → RemoteCall → Acts
serves_action from call = serves_for from call (λ answer. reports answer.status)
