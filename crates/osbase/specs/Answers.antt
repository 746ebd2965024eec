-- The answer of a service, as a line of the trace and as the reply to another core. Only E_OK comes with a value.
use Rattle.std.specs.Prelude.{Option, Some, None, ℤ}
use Rattle.osbase.specs.{declared.references.CoreId.CoreId, declared.references.Runner.Runner, declared.statuses.Status.Status, declared.statuses.ServiceId.ServiceId, declared.messages.RemoteCall.RemoteCall, declared.messages.RemoteCall.TheVariants.GetAlarm, declared.messages.Message.Message, declared.marks.Mark.Mark}

-- The trace line of a service that returned to its caller: with the value if there is one, else with the status. Only
-- E_OK comes with a value. [OSEK/VDX OS 2.2.3, section 11.2]
abbrev pub returned : Runner → ServiceId → Status → Option ℤ → Mark
returned runner service status None = Mark.ServiceReturned runner service status
returned runner service status (Some n) = Mark.ValueReturned runner service n

-- The trace line of a call that this core served for another core: with the value of GetAlarm if there is one, else
-- with the status. [own]
abbrev pub served : CoreId → RemoteCall → Status → Option ℤ → Mark
served core (GetAlarm alarm variable) status (Some n) = Mark.CallAnswered core alarm variable n
served core call status value = Mark.CallServed core status call

-- The reply to another core's request: the status, and the value if there is one. [own]
abbrev pub reply : Status → Option ℤ → Message
reply status None = Message.Reply status
reply status (Some n) = Message.Value status n
