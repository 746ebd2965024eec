-- A core's step: which item may be taken, what follows from it, and a core alone.
use Rattle.std.specs.Prelude.{ℕ, ℤ, pos, ◌==◌, Bool, true, false, if◌then◌else◌, Option, Some, None, List, [], ◌∷◌}
use Rattle.std.specs.{List.list_any, Option.option_map_or}
use Rattle.osbase.specs.{declared.limits.TheConstants.OUTBOX, declared.statuses.Status.Status, declared.statuses.Status.TheVariants.EOk, declared.statuses.Status.TheVariants.EOsCore, declared.statuses.ServiceId.ServiceId, declared.references.CoreId.CoreId, declared.references.ModeId.ModeId, declared.references.IsrRef.IsrRef, declared.references.TaskRef.TaskRef, declared.references.Runner.Runner, declared.messages.Message.Message, declared.items.Agreement.Agreement, declared.items.Stimulus.Stimulus, declared.items.Item.Item, declared.marks.Mark.Mark, declared.histories.Job.Job, declared.histories.OpenCall.OpenCall, declared.histories.Awaited.Awaited, Phases.is_down, Phases.is_going}
use Rattle.osbase.specs.declared.statuses.ServiceId.TheVariants as Service
use Rattle.osbase.specs.History.{History, TableStarted, Took, same_job}
use Rattle.oscript.specs.{declared.Action.Action, declared.Action.TheVariants.Perform, declared.Action.TheVariants.End, Frames.action_at}
use Rattle.osplan.specs.{declared.plans.Alarm.Alarm, declared.plans.AlarmStart.AlarmStart, declared.plans.Table.Table, declared.plans.TableStart.TableStart, declared.plans.Task.Task, declared.plans.Core.Core, View.View}
use Rattle.osclock.specs.Clocks.{alarm_ref}
use Rattle.ostable.specs.Tables.{table_ref}
use Rattle.osstate.specs.{Readings.script_of, Readings.task_ref, Queries.best_in, Queries.running_in, State.KernelState, State.state_of}
use Rattle.osacts.specs.Acts.{Acts, Sends, both, does, in_turn, look, notes, nothing, one_then, prints, when}
use Rattle.osservice_alarms.specs.Alarms.{sets_alarm}
use Rattle.osservice_tasks.specs.Tasks.{activates, ends_without_terminate}
use Rattle.oscall.specs.Border.{serves_request, serves_action}
use Rattle.oschain.specs.Chaining.{resumes}
use Rattle.oskernel.specs.Operations.{operates}
use Rattle.osadmit.specs.Admission.{serves_in, takes_in}
use Rattle.osawait.specs.Free.{may_dispatch}
use Rattle.ostick.specs.Ticks.{ticks}

-- The core may take the item after this history. `places` is how many letters the outbox may hold. [own]
abbrev pub takes : ℕ → View → History → Item → Bool
takes places v h item = takes_in places (state_of v h) item

-- Whether the core may serve a message, whichever comes, after this history. [own]
abbrev pub serves : ℕ → View → History → Bool
serves places v h = serves_in places (state_of v h)

-- What a core prints at the first gate: StartupHook, or that the modes conflict.
-- [AUTOSAR SWS OS 4.x, SWS_Os_00608 to SWS_Os_00610; OSEK/VDX OS 2.2.3, section 11.3]
abbrev pub gate_mark : Agreement → Mark
gate_mark Agreement.Conflict = Mark.ModesConflict
gate_mark (Agreement.Mode m) = Mark.StartupHook
gate_mark Agreement.NoMode = Mark.StartupHook

-- An object is autostarted if its list of modes names the agreed mode. If no mode was agreed, no object is autostarted.
-- [OSEK/VDX OS 2.2.3, section 11.3; AUTOSAR SWS OS 4.x, SWS_Os_00608 to SWS_Os_00610]
abbrev pub starts_in : Option Agreement → List ModeId → Bool
starts_in (Some (Agreement.Mode m)) modes = list_any (λ (n : ModeId). n.index == m.index) modes
starts_in other modes = false

-- These acts, if the list names the agreed mode. Else nothing.
abbrev pub starts_if : Option Agreement → List ModeId → Acts → Acts
starts_if agreement modes x = when (starts_in agreement modes) x nothing

-- A task is activated, if it is autostarted in the agreed mode. In the same way an alarm is set and a schedule table is
-- started, as the next two definitions say.
-- [AUTOSAR SWS OS 4.x, OsAlarmAutostart, OsScheduleTableAutostart]
abbrev pub autostarts_task : Option Agreement → Core → ℕ → Task → Acts
autostarts_task agreement core n task = starts_if agreement task.auto (activates (task_ref core n))

-- An alarm is set to its configured start and cycle, if it is autostarted in the agreed mode.
abbrev pub autostarts_alarm : Option Agreement → Core → ℕ → Alarm → Acts
autostarts_alarm agreement core n alarm = option_map_or (λ (x : AlarmStart). starts_if agreement x.modes (sets_alarm (alarm_ref core n) x.start x.cycle)) alarm.auto nothing

-- A schedule table is started with its configured offset, if it is autostarted in the agreed mode.
abbrev pub autostarts_table : Option Agreement → Core → ℕ → Table → Acts
autostarts_table agreement core n table = option_map_or (λ (x : TableStart). starts_if agreement x.modes (notes (TableStarted (table_ref core n) x.offset))) table.auto nothing

-- The tasks are autostarted first, then the alarms, and then the schedule tables. [own]
abbrev pub starts : Option Agreement → Core → Acts
starts agreement core =
    both (in_turn (autostarts_task agreement core) core.tasks)
    (both (in_turn (autostarts_alarm agreement core) core.alarms) (in_turn (autostarts_table agreement core) core.tables))

-- A job does its next operation, or ends at the end of its script.
abbrev pub performs : Runner → Action → Acts
performs r (Perform op) = operates r op
performs r End = ends_without_terminate r

-- The stimulus `op` does the next operation of the running job, or ends the job. If no job runs, it does nothing. [own]
abbrev pub next_operation : Option Runner → Acts
next_operation running = option_map_or (λ (r : Runner). look (λ s. performs r (action_at (script_of s.core r) (s.row r).frame))) running nothing

-- The stimulus `irq` makes a job of the ISR pending. If one is pending already, the interrupt is lost.
-- [AUTOSAR SWS OS 4.x, section 7.6; that one is pending at most: own]
abbrev pub raises : IsrRef → Acts
raises i = look (λ s. when (s.is_pending i) (prints (Mark.InterruptLost i)) (prints (Mark.InterruptAccepted i)))

-- What a stimulus does: `op` does the running job's next operation, `tick` a tick, and `irq` an interrupt.
abbrev pub stimulates : Stimulus → Acts
stimulates Stimulus.Op = look (λ s. next_operation s.running)
stimulates Stimulus.Tick = ticks
stimulates (Stimulus.Irq isr) = raises isr

-- The service of an open call, by what the call awaits; none for ShutdownAllCores, which does not return.
-- [AUTOSAR SWS OS 4.x, GetSpinlock, TryToGetSpinlock, ReleaseSpinlock and ShutdownAllCores]
abbrev pub service_awaiting : Awaited → Option ServiceId
service_awaiting (Awaited.Reply service core) = Some service
service_awaiting (Awaited.Get l) = Some Service.GetSpinlock
service_awaiting (Awaited.Try l) = Some Service.TryToGetSpinlock
service_awaiting (Awaited.Release l) = Some Service.ReleaseSpinlock
service_awaiting (Awaited.Halt status) = None

-- The runner's job gets the answer of the service that it called. A call of ShutdownAllCores gets none.
abbrev pub resumes_with : Runner → Awaited → Status → Option ℤ → Acts
resumes_with r awaited status value = option_map_or (λ (service : ServiceId). resumes r service status value) (service_awaiting awaited) nothing

-- The open call's job gets the answer. If no call is open, as when an owed spinlock is freed, nothing happens. [own]
abbrev pub closes : Option OpenCall → Status → Option ℤ → Acts
closes awaits status value = option_map_or (λ (call : OpenCall). resumes_with call.runner call.awaits status value) awaits nothing

-- The value that TryToGetSpinlock gives: 1 if it took the spinlock, else 0.
-- [AUTOSAR SWS OS 4.x, TryToGetSpinlockType; its numbers are this project's own]
abbrev pub success_value : Bool → ℤ
success_value true = pos 1
success_value false = pos 0

-- What a message of another core does: a request or an action is served, and a reply goes to the job whose call is
-- open. A core that is down or halted answers each request with E_OS_CORE and drops each action, without a line. [own]
abbrev pub receives : CoreId → Message → Acts
receives from (Message.Request call) = look (λ s. when (is_going s.course) (serves_request from call) (one_then (Sends from (Message.Reply EOsCore)) nothing))
receives from (Message.Action call) = look (λ s. when (is_going s.course) (serves_action from call) nothing)
receives from (Message.Reply status) = look (λ s. closes s.awaits status None)
receives from (Message.Value status n) = look (λ s. closes s.awaits status (Some n))

-- ShutdownHook is called at the end, unless the core is down: then it was called already.
-- [AUTOSAR SWS OS 4.x, SWS_Os_00588; that a core which is down already calls it once: own]
abbrev pub calls_shutdown_hook : Status → Acts
calls_shutdown_hook status = look (λ s. when (is_down s.course) nothing (prints (Mark.ShutdownHook status)))

-- The end of a core: if a shutdown of all cores was requested, ShutdownHook is called with its status. [own]
abbrev pub ends_core : Option (CoreId × Status) → Acts
ends_core None = nothing
ends_core (Some asked) = calls_shutdown_hook asked.1

-- What follows from an item before dispatch, once the item is in the history.
-- [OSEK/VDX OS 2.2.3, section 11.3; AUTOSAR SWS OS 4.x, SWS_Os_00608 to SWS_Os_00610; items are this project's own]
abbrev pub effect : Item → Acts
effect (Item.Began core status) = prints (Mark.StartCoreReturned core status)
effect (Item.Pass1 agreement) = prints (gate_mark agreement)
effect (Item.Pass2 cores) = look (λ s. starts s.agreement s.core)
effect (Item.Stim stimulus) = stimulates stimulus
effect (Item.Received from number message) = receives from message
effect (Item.Granted l) = look (λ s. closes s.awaits EOk None)
effect (Item.Tried l taken) = look (λ s. closes s.awaits EOk (Some (success_value taken)))
effect (Item.Freed l) = look (λ s. closes s.awaits EOk None)
effect (Item.Halt core status) = prints (Mark.Halted core status)
effect (Item.Last shutdown) = ends_core shutdown
effect item = nothing

-- PostTaskHook of the current task is called, if there is a current task.
abbrev pub leaves : Option TaskRef → Acts
leaves None = nothing
leaves (Some t) = prints (Mark.PostTaskHook t)

-- A switch to a task calls PostTaskHook of the current task, if there is one, and then PreTaskHook of the new task. An
-- ISR is entered without these hooks. [OSEK/VDX OS 2.2.3, section 11.5]
abbrev pub enters : Option TaskRef → Runner → Acts
enters current (Runner.Task t) = both (leaves current) (prints (Mark.PreTaskHook t))
enters current (Runner.Isr i) = prints (Mark.IsrEntered i)

-- The core switches to the best job, if there is one and it does not run already.
-- [OSEK/VDX OS 2.2.3, section 4.4 and 4.6]
abbrev pub goes_to : KernelState → Option Job → Acts
goes_to s None = nothing
goes_to s (Some j) = when (option_map_or (same_job j) (running_in s) false) nothing (enters s.tasks.current j.runner)

-- At the end of an item, the core dispatches if it may. [OSEK/VDX OS 2.2.3, section 4.6]
abbrev pub dispatches : KernelState → Acts
dispatches s = when (may_dispatch s) (goes_to s (best_in s)) nothing

-- The history after the core has dispatched, if it may.
abbrev pub dispatched : View → History → History
dispatched v h = does (dispatches (state_of v h)) v h

-- The history after an item: the item, what follows from it, and dispatch. [own]
abbrev pub after : View → History → Item → History
after v h item = dispatched v (does (effect item) v (Took item ∷ h))

-- How many letters a core's outbox may hold. [own]
abbrev pub outbox_size : ℕ
outbox_size = OUTBOX

-- The history of a core alone after this history and then these items; none if one of them may not be taken in its
-- turn. The history's marks are the trace. [own]
abbrev pub solo_from : View → History → List Item → Option History
solo_from v h [] = Some h
solo_from v h (item ∷ items) = if takes outbox_size v h item then solo_from v (after v h item) items else None

-- The history of a core alone after these items, from its start on; none if one of them may not be taken in its turn.
abbrev pub solo : View → List Item → Option History
solo v items = solo_from v [] items

-- The history after this history and then these items, without a check that each may be taken.
abbrev pub history_from : View → History → List Item → History
history_from v h [] = h
history_from v h (item ∷ items) = history_from v (after v h item) items
