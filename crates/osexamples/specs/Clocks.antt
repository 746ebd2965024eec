-- Counters, alarms and schedule tables of one core.
use Rattle.std.specs.Prelude.{ℕ, true, false, None, Some, List, [], ◌∷◌, ◌++◌, codes, replicate}
use Rattle.osbase.specs.{declared.statuses.Status.TheVariants.EOk, declared.statuses.Status.TheVariants.EOsValue, declared.references.AlarmRef.AlarmRef, declared.references.TableRef.TableRef, declared.references.TaskRef.TaskRef, declared.marks.Mark.Mark, declared.messages.RemoteCall.RemoteCall}
use Rattle.osbase.specs.declared.statuses.ServiceId.TheVariants as Service
use Rattle.osbase.specs.declared.messages.RemoteCall.TheVariants as Remote
use Rattle.oscript.specs.declared.Op.TheVariants as Op
use Rattle.osplan.specs.declared.plans.Table.{Table}
use Rattle.osexamples.specs.Example.{Example, core}
use Rattle.osexamples.specs.Parts.{alarm_at, alarm_for, auto_task, awaited, begun, core_of, counter, counter_at, ended, failed, of_one_core, operations, returned, returned_with, run_to_end, short_task, task, task_at, ticks, with_clocks, with_events, with_priority, with_tables}

-- what the core prints when the alarm expires and activates the task, whose job begins to run
abbrev pub expired : AlarmRef → TaskRef → List Mark
expired l t = Mark.AlarmExpired l ∷ Mark.Activated t ∷ Mark.PreTaskHook t ∷ []

-- An alarm that is set to its counter's present value expires a full turn later. SetRelAlarm by 0 counts is refused.
-- [OSEK/VDX OS 2.2.3, section 13.6.3.3 and 13.6.3.4; the full turn: own]
abbrev pub present : Example
present =
    let a = task_at 0 0 in
    let b = task_at 0 1 in
    let l = alarm_at 0 0 in
    let setter = auto_task (codes "A") (Op.SetAbsAlarm (Some l) 0 0 ∷ Op.SetRelAlarm (Some (alarm_at 0 1)) 0 0 ∷ Op.TerminateTask ∷ []) in
    of_one_core (record {
      core =
          with_clocks (counter (codes "C") 3 ∷ []) (alarm_for 0 (codes "L") b ∷ alarm_for 0 (codes "K") b ∷ [])
          (core_of 0 [] (setter ∷ with_priority 2 (short_task (codes "B")) ∷ []));
      stimuli = operations 3 ++ ticks 4 ++ operations 1;
      marks =
          begun a ++ returned a Service.SetAbsAlarm EOk ++ failed a Service.SetRelAlarm EOsValue ++ ended a
          ++ replicate 4 Mark.Tick ++ expired l b ++ ended b;
    })

-- A counter wraps past its greatest value, and a cyclic alarm of it keeps its cycle. [OSEK/VDX OS 2.2.3, section 9]
abbrev pub wrap : Example
wrap =
    let a = task_at 0 0 in
    let b = task_at 0 1 in
    let l = alarm_at 0 0 in
    let setter = auto_task (codes "A") (Op.SetRelAlarm (Some l) 2 3 ∷ Op.TerminateTask ∷ []) in
    let reader = task (codes "B") (Op.GetCounterValue (Some (counter_at 0 0)) (record { index = 0 }) ∷ Op.TerminateTask ∷ []) in
    of_one_core (record {
      core = with_clocks (counter (codes "C") 3 ∷ []) (alarm_for 0 (codes "L") b ∷ []) (core_of 0 [] (setter ∷ reader ∷ []));
      stimuli = operations 2 ++ ticks 2 ++ operations 2 ++ ticks 3 ++ operations 2;
      marks =
          begun a ++ returned a Service.SetRelAlarm EOk ++ ended a
          ++ replicate 2 Mark.Tick ++ expired l b ++ returned_with b Service.GetCounterValue 2 ++ ended b
          ++ replicate 3 Mark.Tick ++ expired l b ++ returned_with b Service.GetCounterValue 1 ++ ended b;
    })

-- the schedule table of core 0 at this index
abbrev pub table_at : ℕ → TableRef
table_at index = record { core = core 0; index = index }

-- a single-shot table with this duration and one point, at this offset, with these actions
abbrev pub table_of : List ℕ → ℕ → ℕ → List RemoteCall → Table
table_of name duration offset actions = record {
  name = name;
  counter = counter_at 0 0;
  duration = duration;
  repeating = false;
  points = record { offset = offset; actions = actions } ∷ [];
  auto = None;
}

-- the table as a repeating one
abbrev pub repeated : Table → Table
repeated t = record t { repeating = true }

-- A schedule table sets an event and activates a task at one point, and at the end of its period another table begins,
-- with its point of offset 0. The event comes first in the text of the point, and is set last.
-- [AUTOSAR SWS OS 4.x, SWS_Os_00407, SWS_Os_00412 and SWS_Os_00414]
abbrev pub ending : Example
ending =
    let w = task_at 0 0 in
    let b = task_at 0 1 in
    let first = table_at 0 in
    let second = table_at 1 in
    let begins = Op.StartScheduleTableRel (Some first) 1 ∷ Op.NextScheduleTable (Some first) (Some second) ∷ [] in
    let waits = Op.WaitEvent 1 ∷ Op.ClearEvent 1 ∷ Op.WaitEvent 2 ∷ [] in
    let table_1 = table_of (codes "S1") 3 1 (Remote.SetEvent w 1 ∷ Remote.ActivateTask b ∷ []) in
    let table_2 = repeated (table_of (codes "S2") 2 0 (Remote.ActivateTask b ∷ [])) in
    of_one_core (record {
      core =
          with_tables (table_1 ∷ table_2 ∷ []) (with_clocks (counter (codes "C") 9 ∷ []) []
          (core_of 0 [] (with_events (with_priority 2 (auto_task (codes "W") (begins ++ waits))) ∷ short_task (codes "B") ∷ [])));
      stimuli = operations 3 ++ ticks 2 ++ operations 3 ++ ticks 2 ++ operations 1 ++ ticks 2;
      marks =
          begun w ++ returned w Service.StartScheduleTableRel EOk ++ returned w Service.NextScheduleTable EOk ++ awaited w 1
          ++ (Mark.Tick ∷ Mark.Tick ∷ Mark.ExpiryPoint first 1 ∷ Mark.Activated b ∷ Mark.EventSet w 1 ∷ Mark.Released w ∷ [])
          ++ (Mark.PreTaskHook w ∷ Mark.EventCleared w 1 ∷ []) ++ returned w Service.ClearEvent EOk ++ awaited w 2 ++ run_to_end b
          ++ (Mark.Tick ∷ Mark.Tick ∷ Mark.TableStopped first ∷ Mark.TableBegun second ∷ Mark.ExpiryPoint second 0 ∷ [])
          ++ (Mark.Activated b ∷ []) ++ run_to_end b
          ++ (Mark.Tick ∷ Mark.Tick ∷ Mark.ExpiryPoint second 0 ∷ Mark.Activated b ∷ Mark.PreTaskHook b ∷ []);
    })
