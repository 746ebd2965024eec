-- What an action of an alarm or of a schedule table does.
use Rattle.osbase.specs.{declared.statuses.Status.TheVariants.EOsCore, declared.messages.Message.Message, declared.messages.RemoteCall.RemoteCall}
use Rattle.osbase.specs.declared.marks.Mark.TheVariants as Mark
use Rattle.osacts.specs.Acts.{Acts, Prints, Sends, both, if_started, look, nothing, one_then, prints, when}
use Rattle.osservice.specs.{Returning.reports, Service.effect_of, Service.status_of}
use Rattle.osacts.specs.Seen.{is_this_core}
use Rattle.oscall.specs.Border.{core_of_call, service_of}

-- Does an action on a task of this core at once. If the action is refused, only ErrorHook is called.
-- [AUTOSAR SWS OS 4.x, SWS_Os_00632; the hook: own]
abbrev pub acts_here : RemoteCall → Acts
acts_here call = look (λ s. both (effect_of (service_of call s)) (reports (status_of (service_of call s))))

-- Prints the line of an action on another core's task, and puts the action into the outbox. No reply will come.
-- [AUTOSAR SWS OS 4.x, SWS_Os_00632 and SWS_Os_00633; the outbox: own]
abbrev pub posts : RemoteCall → Acts
posts call = one_then (Prints (Mark.CallQueued (core_of_call call) call)) (one_then (Sends (core_of_call call) (Message.Action call)) nothing)

-- Does an action on a task of this core at once, and puts an action on another core's task into the outbox. If that
-- core was never started, ErrorHook is called here with E_OS_CORE instead. [own]
abbrev pub acts : RemoteCall → Acts
acts call =
    look (λ s. when (is_this_core s (core_of_call call)) (acts_here call) (if_started (core_of_call call) (posts call) (prints (Mark.ErrorHook EOsCore))))
