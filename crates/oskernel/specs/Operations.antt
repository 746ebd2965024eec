-- What an operation of a job does: it makes a call, which may cross to another core, or what its family's table says.
-- While the job has suspended interrupts, nearly all services are refused or ignored.
use Rattle.std.specs.Prelude.{◌&&◌, Bool, true, false, if◌then◌else◌, Option, Some, None, unwrap_or}
use Rattle.osbase.specs.{declared.statuses.Status.TheVariants.EOsDisabledint, declared.statuses.ServiceId.ServiceId, declared.messages.RemoteCall.RemoteCall, declared.references.Runner.Runner}
use Rattle.osbase.specs.declared.statuses.ServiceId.TheVariants as Service
use Rattle.oscript.specs.{declared.Op.Op, Calls.call_of_op, Frames.service_of_op}
use Rattle.osacts.specs.Acts.{Acts, look, nothing, when}
use Rattle.osservice.specs.{Callers.has_suspended, Returning.returns}
use Rattle.osacts.specs.Seen.{Seen}
use Rattle.osservice_tasks.specs.Tasks.{task_acts}
use Rattle.osservice_alarms.specs.Counters.{counter_acts}
use Rattle.osservice_tables.specs.Tables.{table_acts}
use Rattle.osservice_spins.specs.Spinlocks.{spin_acts}
use Rattle.oscall.specs.{Border.calls, Shutdown.core_acts, Shutdown.is_ignored, Variables.is_done, Variables.script_acts}
use Rattle.oschain.specs.Chaining.{chain_acts}
use Rattle.osexpiry.specs.Incrementing.{increment_acts}

-- Does an operation on spinlocks or on the cores themselves, as the table of its family says. Any other operation does
-- nothing here.
abbrev pub acts_on_shared : Runner → Op → Acts
acts_on_shared r op = unwrap_or (spin_acts r op) (unwrap_or (core_acts r op) nothing)

-- Does what the table of the operation's family says. Operations that are calls (`call_of_op`), such as ActivateTask,
-- are in no table.
-- [own: one operation is one unit of a script]
abbrev pub acts_alone : Runner → Op → Acts
acts_alone r op =
    unwrap_or (script_acts r op)
    (unwrap_or (task_acts r op)
    (unwrap_or (chain_acts r op)
    (unwrap_or (counter_acts r op)
    (unwrap_or (increment_acts r op)
    (unwrap_or (table_acts r op) (acts_on_shared r op))))))

-- If the operation is a call, makes it, whichever core has the object. Else does what the table of the operation's
-- family says. [own]
abbrev pub operates_by : Runner → Op → Option (ServiceId × Option RemoteCall) → Acts
operates_by r op None = acts_alone r op
operates_by r op (Some c) = calls r c.0 c.1

-- The service takes effect even while its caller has suspended interrupts: those of spinlocks do. [own]
abbrev pub acts_while_suspended : ServiceId → Bool
acts_while_suspended Service.GetSpinlock = true
acts_while_suspended Service.TryToGetSpinlock = true
acts_while_suspended Service.ReleaseSpinlock = true
acts_while_suspended service = false

-- The service, if it is refused while interrupts are suspended: each that answers a status, but not those of spinlocks.
abbrev pub refused_of : Option ServiceId → Option ServiceId
refused_of None = None
refused_of (Some service) = if acts_while_suspended service then None else Some service

-- The service of the operation, if it is refused because the runner's job has suspended interrupts.
abbrev pub refused_now : Seen → Runner → Op → Option ServiceId
refused_now s r op = if has_suspended s r then refused_of (service_of_op op) else None

-- These acts, if no service is refused. A refused service answers E_OS_DISABLEDINT and has no effect; all its other
-- checks come after this one. [AUTOSAR SWS OS 4.x, SWS_Os_00093]
abbrev pub operates_unless : Runner → Option ServiceId → Acts → Acts
operates_unless r None acts = acts
operates_unless r (Some service) acts = returns r service EOsDisabledint None

-- Whether the operation is ignored because the runner's job has suspended interrupts.
abbrev pub is_ignored_now : Seen → Runner → Op → Bool
is_ignored_now s r op = is_ignored op && has_suspended s r

-- An operation of a job is ignored, refused or done. One that is ignored only counts as done.
-- [AUTOSAR SWS OS 4.x, SWS_Os_00093]
abbrev pub operates : Runner → Op → Acts
operates r op = look (λ s. when (is_ignored_now s r op) (is_done r) (operates_unless r (refused_now s r op) (operates_by r op (call_of_op op))))
