-- Which messages a core expects.
use Rattle.std.specs.Prelude.{ℕ, ◌&&◌, nat_lt, Bool, true, false, not, if◌then◌else◌, length}
use Rattle.std.specs.Option.{option_map_or}
use Rattle.osbase.specs.{declared.statuses.Status.Status, declared.statuses.ServiceId.ServiceId, declared.references.CoreId.CoreId, declared.messages.Message.Message, declared.histories.Awaited.Awaited, declared.histories.OpenCall.OpenCall, History.same_core}
use Rattle.osbase.specs.declared.statuses.ServiceId.TheVariants as Service
use Rattle.oscript.specs.Calls.{is_action}
use Rattle.osstate.specs.{Readings.is_served, State.KernelState}
use Rattle.osservice.specs.Checks.{is_ok_status}

-- The service is GetAlarm: only its reply carries a value, and only with E_OK. [OSEK/VDX OS 2.2.3, section 13.6.3.2]
abbrev pub answers_value : ServiceId → Bool
answers_value Service.GetAlarm = true
answers_value s = false

-- A reply of core `from` is awaited, and the reply has the right form: it has a value (`has_value`) exactly if the
-- awaited service is GetAlarm and `status` is E_OK. [own]
abbrev pub is_reply_for : CoreId → Status → Bool → Awaited → Bool
is_reply_for from status has_value (Awaited.Reply service core) =
    same_core core from && (if answers_value service && is_ok_status status then has_value else not has_value)
is_reply_for from status has_value awaited = false

-- The open call awaits a reply of core `from` with this status, and with a value exactly if `has_value` says so.
abbrev pub is_reply_to : CoreId → Status → Bool → OpenCall → Bool
is_reply_to from status has_value call = is_reply_for from status has_value call.awaits

-- The core expects the message of core `from`. A request has to be for an object of this core, with a place left in
-- the outbox for the reply. An action has to activate a task of this core or set its events. A reply has to be the one
-- that the open call awaits. `places` is how many letters the outbox may hold. [own]
abbrev pub is_awaited : ℕ → KernelState → CoreId → Message → Bool
is_awaited places s from (Message.Request call) = is_served s.view call && nat_lt (length s.border.outbox) places
is_awaited places s from (Message.Action call) = is_action call && is_served s.view call
is_awaited places s from (Message.Reply status) = option_map_or (is_reply_to from status false) s.border.open_call false
is_awaited places s from (Message.Value status n) = option_map_or (is_reply_to from status true) s.border.open_call false
