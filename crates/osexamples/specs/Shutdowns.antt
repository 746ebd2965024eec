-- Modes that conflict, and shutdowns of one core and of all.
use Rattle.std.specs.Prelude.{ℕ, Some, List, [], ◌∷◌, ◌++◌, codes}
use Rattle.osbase.specs.declared.items.Agreement.TheVariants as Agreement
use Rattle.osbase.specs.{declared.items.CoreMode.TheVariants.Named, declared.items.Item.Item, declared.marks.Mark.Mark, declared.statuses.Status.Status, declared.statuses.Status.TheVariants.EOk, declared.statuses.Status.TheVariants.EOsCore, declared.statuses.Status.TheVariants.EOsId}
use Rattle.osbase.specs.declared.messages.RemoteCall.TheVariants as Remote
use Rattle.osbase.specs.declared.statuses.ServiceId.TheVariants as Service
use Rattle.oscript.specs.declared.Op.TheVariants as Op
use Rattle.osexamples.specs.Border.{a_begun, called, caller, caller_gates, op_to_end, posted, queued, called_gates, task_a, task_b}
use Rattle.osexamples.specs.Example.{Example, core}
use Rattle.osexamples.specs.Parts.{auto_task, begun, core_of, end, ended, failed, given_to, operations, plan_of, replied, requested, taken}

-- The items by which a core is halted at the request of core `n`, and ends.
abbrev pub halted : ℕ → Status → List Item
halted n status = Item.Halt (core n) status ∷ Item.Drained ∷ Item.PassEnd ∷ Item.Last (Some (core n, status)) ∷ []

-- What the core prints for the halt and for its end.
abbrev pub down_by : ℕ → Status → List Mark
down_by n status = Mark.Halted (core n) status ∷ Mark.ShutdownHook status ∷ []

-- Core 0 names the first of two modes, and core 1 the second. Both end at the first gate, without StartupHook. Core 5
-- is not configured. [AUTOSAR SWS OS 4.x, SWS_Os_00608]
abbrev pub conflict : Example
conflict =
    let second = record (core_of 1 [] []) { mode = Named (record { index = 1 }) } in
    record {
      plan = record (plan_of (core_of 0 (core 1 ∷ core 5 ∷ []) [] ∷ second ∷ [])) { modes = codes "M" ∷ codes "N" ∷ [] };
      stimuli = [];
      blocks = record {
        items = Item.Began (core 1) EOk ∷ Item.Began (core 5) EOsId ∷ Item.Entered ∷ Item.Pass1 Agreement.Conflict ∷ [];
        marks = Mark.StartCoreReturned (core 1) EOk ∷ Mark.StartCoreReturned (core 5) EOsId ∷ Mark.ModesConflict ∷ [];
      } ∷ record {
        items = Item.On ∷ Item.Entered ∷ Item.Pass1 Agreement.Conflict ∷ [];
        marks = Mark.ModesConflict ∷ [];
      } ∷ [];
    }

-- Task A of core 0 shuts all cores down. Core 1, whose task B loops for ever, leaves four stimuli.
-- [AUTOSAR SWS OS 4.x, SWS_Os_00713, SWS_Os_00588]
abbrev pub all_down : Example
all_down = record {
  plan = plan_of (
      caller (Op.ShutdownAllCores EOk ∷ [])
      ∷ called (auto_task (codes "B") (Op.Work ∷ Op.Jump 0 ∷ [])) ∷ []);
  stimuli = given_to 0 (operations 1) ∷ given_to 1 (operations 6) ∷ [];
  blocks = record {
    items = caller_gates ++ taken (operations 1) ++ halted 0 EOk;
    marks = a_begun ++ down_by 0 EOk;
  } ∷ record {
    items = called_gates ++ taken (operations 2) ++ halted 0 EOk;
    marks = begun task_b ++ down_by 0 EOk;
  } ∷ [];
}

-- Task B of core 1 shuts that core down, which then refuses what task A of core 0 asks for.
-- [AUTOSAR SWS OS 4.x, ShutdownOS; that a core which is down answers E_OS_CORE is this project's own]
abbrev pub one_down : Example
one_down =
    let call = Remote.ActivateTask task_b in
    record {
      plan = plan_of (
          caller (Op.Work ∷ Op.ActivateTask (Some task_b) ∷ Op.TerminateTask ∷ [])
          ∷ called (auto_task (codes "B") (Op.ShutdownOs EOk ∷ [])) ∷ []);
      stimuli = given_to 0 (operations 3) ∷ given_to 1 (operations 1) ∷ [];
      blocks = record {
        items = caller_gates ++ taken (operations 1) ++ posted (replied 1 0 EOsCore) ++ op_to_end;
        marks = a_begun ++ queued call ++ failed task_a Service.ActivateTask EOsCore ++ ended task_a;
      } ∷ record {
        items =
            called_gates ++ taken (operations 1) ++ (Item.Drained ∷ requested 0 0 call ∷ Item.Posted (core 0) ∷ []) ++ end;
        marks = begun task_b ++ Mark.ShutdownHook EOk ∷ [];
      } ∷ [];
    }
