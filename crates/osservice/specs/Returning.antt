-- How services return to their callers, and ask other cores.
--
-- The lines of a call are: effects, the status, the error hook, and then dispatch.
use Rattle.std.specs.Prelude.{Bool, true, false, Option, None, ℤ, List}
use Rattle.osbase.specs.{declared.statuses.Status.Status, declared.statuses.ServiceId.ServiceId, declared.references.CoreId.CoreId, declared.references.Runner.Runner, declared.messages.RemoteCall.RemoteCall, declared.messages.Message.Message, declared.marks.Mark.Mark, History.Opened, History.Done, Answers.returned}
use Rattle.osbase.specs.declared.statuses.ServiceId.TheVariants as Service
use Rattle.osbase.specs.declared.histories.Awaited.TheVariants as Awaited
use Rattle.osacts.specs.Acts.{Acts, nothing, one_then, both, when, Prints, Sends, notes, prints}
use Rattle.osservice.specs.Checks.{Check, first_failing, is_ok_status}

-- Calls ErrorHook with the status, unless it is E_OK. [OSEK/VDX OS 2.2.3, section 11.2]
abbrev pub reports : Status → Acts
reports status = when (is_ok_status status) nothing (prints (Mark.ErrorHook status))

-- The errors of this service do not call ErrorHook: the service is StartCore. [AUTOSAR SWS OS 4.x, SWS_Os_00681]
abbrev pub calls_no_hook : ServiceId → Bool
calls_no_hook Service.StartCore = true
calls_no_hook service = false

-- Calls ErrorHook with the service's status, unless the status is E_OK or the service's errors call no hook.
abbrev pub reports_of : ServiceId → Status → Acts
reports_of service status = when (calls_no_hook service) nothing (reports status)

-- A service returns to the runner's job. Its status or value is printed, an error calls ErrorHook unless the service is
-- StartCore, and the job goes on to its next operation. [OSEK/VDX OS 2.2.3, section 11.2]
abbrev pub returns : Runner → ServiceId → Status → Option ℤ → Acts
returns r service status value =
    both (prints (returned r service status value)) (both (reports_of service status) (notes (Done r status value)))

-- If none of these checks fails, the service has its effect. Else it returns the status of the first check that fails,
-- and has no other effect. [OSEK/VDX OS 2.2.3, section 11.2]
abbrev pub answers : Runner → ServiceId → List Check → Acts → Acts
answers r service checks effect =
    when (is_ok_status (first_failing checks)) effect (returns r service (first_failing checks) None)

-- A service on another core's object: its line is printed, its request joins the outbox, and the call stays open until
-- the reply comes.
-- [AUTOSAR SWS OS 4.x, SWS_Os_00596 and SWS_Os_00602; that it is a request and a reply is this project's own]
abbrev pub asks : Runner → ServiceId → CoreId → RemoteCall → Acts
asks r service core call =
    one_then (Prints (Mark.CallQueued core call))
    (one_then (Sends core (Message.Request call)) (notes (Opened (record { runner = r; awaits = Awaited.Reply service core }))))
