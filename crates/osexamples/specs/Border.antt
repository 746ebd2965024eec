-- Two cores: task A of core 0 calls services on a task or an alarm of core 1.
use Rattle.std.specs.Prelude.{Some, None, ℕ, pos, List, [], ◌∷◌, ◌++◌, codes}
use Rattle.osbase.specs.{declared.statuses.Status.Status, declared.statuses.ServiceId.ServiceId, declared.messages.RemoteCall.RemoteCall, declared.items.Item.Item, declared.marks.Mark.Mark, declared.references.TaskRef.TaskRef, declared.references.Variable.Variable}
use Rattle.osbase.specs.declared.statuses.Status.TheVariants.{EOk, EOsCore, EOsId, EOsLimit}
use Rattle.osbase.specs.declared.statuses.ServiceId.TheVariants as Service
use Rattle.osbase.specs.declared.messages.RemoteCall.TheVariants as Remote
use Rattle.osbase.specs.declared.items.Stimulus.TheVariants as Stimulus
use Rattle.oscript.specs.declared.Op.{Op as Operation}
use Rattle.oscript.specs.declared.Op.TheVariants as Op
use Rattle.osplan.specs.{declared.plans.Core.Core, declared.plans.Task.Task}
use Rattle.osexamples.specs.Example.{Block, Example, core}
use Rattle.osexamples.specs.Parts.{alarm_at, alarm_for, alone, auto_task, awaited, begun, both, core_of, counter, end, ended, failed, gates, given_to, operations, plan_of, replied, replied_with, requested, returned, returned_with, run_to_end, short_task, taken, task_at, with_clocks, with_events}

-- ---- what these examples share

-- task A, of core 0
abbrev pub task_a : TaskRef
task_a = task_at 0 0

-- task B, of core 1
abbrev pub task_b : TaskRef
task_b = task_at 1 0

-- core 0, which starts core 1 and has task A, with this script
abbrev pub caller : List Operation → Core
caller script = core_of 0 (core 1 ∷ []) (auto_task (codes "A") script ∷ [])

-- core 1, which has this task alone
abbrev pub called : Task → Core
called t = core_of 1 [] (t ∷ [])

-- the items of core 0 up to the second gate
abbrev pub caller_gates : List Item
caller_gates = Item.Began (core 1) EOk ∷ gates both

-- the items of core 1 up to the second gate
abbrev pub called_gates : List Item
called_gates = Item.On ∷ gates both

-- the items by which core 0 does an operation, posts its request to core 1, and takes this reply
abbrev pub posted : Item → List Item
posted reply = Item.Stim Stimulus.Op ∷ Item.Posted (core 1) ∷ reply ∷ []

-- the items by which core 1 serves the request of this number and posts its reply
abbrev pub served : ℕ → RemoteCall → List Item
served number call = requested 0 number call ∷ Item.Posted (core 0) ∷ []

-- the items of a core from its last operation to its end
abbrev pub op_to_end : List Item
op_to_end = Item.Stim Stimulus.Op ∷ Item.Drained ∷ end

-- what core 0 prints at its start, until the job of task A runs
abbrev pub a_begun : List Mark
a_begun = Mark.StartCoreReturned (core 1) EOk ∷ begun task_a

-- what core 0 prints when it queues a call for core 1
abbrev pub queued : RemoteCall → List Mark
queued call = Mark.CallQueued (core 1) call ∷ []

-- what core 1 prints when it has served a call
abbrev pub replied_to : RemoteCall → Status → List Mark
replied_to call status = Mark.CallServed (core 0) status call ∷ []

-- the items and marks of core 0 where task A makes this call to core 1, with success, and then ends
abbrev pub calls_once : RemoteCall → ServiceId → Block
calls_once call service = record {
  items = caller_gates ++ posted (replied 1 0 EOk) ++ op_to_end;
  marks = a_begun ++ queued call ++ returned task_a service EOk ++ ended task_a;
}

-- ---- the examples

-- One activation across the border: task A of core 0 activates task B of core 1, and both terminate. At the first `op`
-- of core 1 no job runs.
abbrev pub activation : Example
activation =
    let call = Remote.ActivateTask task_b in
    record {
      plan = plan_of (caller (Op.ActivateTask (Some task_b) ∷ Op.TerminateTask ∷ []) ∷ called (short_task (codes "B")) ∷ []);
      stimuli = given_to 0 (operations 2) ∷ given_to 1 (operations 2) ∷ [];
      blocks = calls_once call Service.ActivateTask ∷ record {
        items = called_gates ++ taken (operations 1) ++ served 0 call ++ op_to_end;
        marks = (Mark.StartupHook ∷ Mark.Activated task_b ∷ []) ++ replied_to call EOk ++ run_to_end task_b;
      } ∷ [];
    }

-- The same configuration as in `activation`, without a stimulus.
abbrev pub unmoved : Example
unmoved = record activation {
  stimuli = [];
  blocks =
      record { items = caller_gates ++ Item.Drained ∷ end; marks = a_begun }
      ∷ record { items = called_gates ++ Item.Drained ∷ end; marks = Mark.StartupHook ∷ [] } ∷ [];
}

-- The activation limit across cores: core 0 activates task B of core 1 twice, the second time while B still runs.
abbrev pub limit : Example
limit =
    let call = Remote.ActivateTask task_b in
    let activate = Op.ActivateTask (Some task_b) in
    record {
      plan = plan_of (caller (activate ∷ activate ∷ Op.TerminateTask ∷ []) ∷ called (short_task (codes "B")) ∷ []);
      stimuli = given_to 0 (operations 3) ∷ [];
      blocks = record {
        items = caller_gates ++ posted (replied 1 0 EOk) ++ posted (replied 1 1 EOsLimit) ++ op_to_end;
        marks =
            a_begun ++ queued call ++ returned task_a Service.ActivateTask EOk
            ++ queued call ++ failed task_a Service.ActivateTask EOsLimit ++ ended task_a;
      } ∷ record {
        items = called_gates ++ (Item.Drained ∷ []) ++ served 0 call ++ served 1 call ++ end;
        marks =
            (Mark.StartupHook ∷ Mark.Activated task_b ∷ []) ++ replied_to call EOk
            ++ (Mark.PreTaskHook task_b ∷ []) ++ replied_to call EOsLimit;
      } ∷ [];
    }

-- Refused activations: a task of a core that was never started, the invalid identifier, and a task at its limit. Core 1
-- prints nothing.
abbrev pub refusals : Example
refusals =
    let failing = failed task_a Service.ActivateTask in
    let script = Op.ActivateTask (Some task_b) ∷ Op.ActivateTask None ∷ Op.ActivateTask (Some task_a) ∷ Op.TerminateTask ∷ [] in
    record {
      plan = plan_of (core_of 0 [] (auto_task (codes "A") script ∷ []) ∷ called (short_task (codes "B")) ∷ []);
      stimuli = given_to 0 (operations 4) ∷ [];
      blocks = record {
        items = gates alone ++ taken (operations 4) ++ Item.Drained ∷ end;
        marks = begun task_a ++ failing EOsCore ++ failing EOsId ++ failing EOsLimit ++ ended task_a;
      } ∷ record { items = []; marks = [] } ∷ [];
    }

-- A refused chain across the border: task A of core 0 chains to task B of core 1, which is at its activation limit. A
-- goes on. [OSEK/VDX OS 2.2.3, section 13.2.3.3]
abbrev pub refused : Example
refused =
    let call = Remote.ActivateTask task_b in
    record {
      plan = plan_of (
          caller (Op.ChainTask (Some task_b) ∷ Op.TerminateTask ∷ [])
          ∷ called (auto_task (codes "B") (Op.TerminateTask ∷ [])) ∷ []);
      stimuli = given_to 0 (operations 2) ∷ [];
      blocks = record {
        items = caller_gates ++ posted (replied 1 0 EOsLimit) ++ op_to_end;
        marks = a_begun ++ queued call ++ failed task_a Service.ChainTask EOsLimit ++ ended task_a;
      } ∷ record {
        items = called_gates ++ (Item.Drained ∷ []) ++ served 0 call ++ end;
        marks = begun task_b ++ replied_to call EOsLimit;
      } ∷ [];
    }

-- An event across the border: task A of core 0 sets an event for which task W of core 1 waits.
-- [AUTOSAR SWS OS 4.x, SWS_Os_00602; OSEK/VDX OS 2.2.3, section 13.5.3.1]
abbrev pub distant : Example
distant =
    let w = task_at 1 0 in
    let call = Remote.SetEvent w 4 in
    let waiter = with_events (auto_task (codes "W") (Op.WaitEvent 4 ∷ Op.TerminateTask ∷ [])) in
    record {
      plan = plan_of (caller (Op.SetEvent (Some w) 4 ∷ Op.TerminateTask ∷ []) ∷ called waiter ∷ []);
      stimuli = given_to 0 (operations 2) ∷ given_to 1 (operations 2) ∷ [];
      blocks = calls_once call Service.SetEvent ∷ record {
        items = called_gates ++ taken (operations 1) ++ served 0 call ++ op_to_end;
        marks =
            begun w ++ awaited w 4 ++ (Mark.EventSet w 4 ∷ Mark.Released w ∷ [])
            ++ replied_to call EOk ++ run_to_end w;
      } ∷ [];
    }

-- An alarm across the border: task A of core 0 sets an alarm of core 1, asks how many counts are left, and cancels it.
-- [AUTOSAR SWS OS 4.x, section 7.9; OSEK/VDX OS 2.2.3, section 13.6.3]
abbrev pub asking : Example
asking =
    let l = alarm_at 1 0 in
    let v : Variable = record { index = 0 } in
    let setting = Remote.SetRelAlarm l 5 0 in
    let question = Remote.GetAlarm l v in
    let cancelling = Remote.CancelAlarm l in
    let script = Op.SetRelAlarm (Some l) 5 0 ∷ Op.GetAlarm (Some l) v ∷ Op.CancelAlarm (Some l) ∷ Op.TerminateTask ∷ [] in
    let clocks = with_clocks (counter (codes "C") 9 ∷ []) (alarm_for 1 (codes "L") task_b ∷ []) in
    record {
      plan = plan_of (caller script ∷ clocks (called (short_task (codes "B"))) ∷ []);
      stimuli = given_to 0 (operations 4) ∷ [];
      blocks = record {
        items = caller_gates ++ posted (replied 1 0 EOk) ++ posted (replied_with 1 1 5) ++ posted (replied 1 2 EOk) ++ op_to_end;
        marks =
            a_begun ++ queued setting ++ returned task_a Service.SetRelAlarm EOk
            ++ queued question ++ returned_with task_a Service.GetAlarm 5
            ++ queued cancelling ++ returned task_a Service.CancelAlarm EOk ++ ended task_a;
      } ∷ record {
        items = called_gates ++ (Item.Drained ∷ []) ++ served 0 setting ++ served 1 question ++ served 2 cancelling ++ end;
        marks =
            (Mark.StartupHook ∷ []) ++ replied_to setting EOk
            ++ (Mark.CallAnswered (core 0) l v (pos 5) ∷ []) ++ replied_to cancelling EOk;
      } ∷ [];
    }
