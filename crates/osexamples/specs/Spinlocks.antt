-- Spinlocks that two cores share.
use Rattle.std.specs.Prelude.{ℕ, false, Some, None, List, [], ◌∷◌, ◌++◌, codes}
use Rattle.osbase.specs.{declared.items.Item.Item, declared.marks.Mark.Mark, declared.references.SpinlockId.SpinlockId, declared.references.Variable.Variable}
use Rattle.osbase.specs.declared.items.Stimulus.TheVariants as Stimulus
use Rattle.osbase.specs.declared.statuses.ServiceId.TheVariants as Service
use Rattle.osbase.specs.declared.statuses.Status.TheVariants.{EOk, EOsInterferenceDeadlock, EOsMissingend, EOsNestingDeadlock, EOsSpinlock}
use Rattle.oscript.specs.declared.Op.{Op as Operation}
use Rattle.oscript.specs.declared.Op.TheVariants as Op
use Rattle.osplan.specs.{declared.plans.Plan.Plan, declared.plans.Spinlock.Spinlock}
use Rattle.osexamples.specs.Border.{a_begun, called, caller, caller_gates, called_gates, task_a, task_b}
use Rattle.osexamples.specs.Example.{Example}
use Rattle.osexamples.specs.Parts.{auto_task, begun, end, ended, failed, given_to, operations, plan_of, returned, returned_with, taken}

-- the spinlock of this index
abbrev pub lock_at : ℕ → SpinlockId
lock_at index = record { index = index }

-- A configuration in which task A of core 0 and task B of core 1, with scripts `a` and `b`, share these spinlocks.
abbrev pub sharing : List Spinlock → List Operation → List Operation → Plan
sharing locks a b = record (plan_of (caller a ∷ called (auto_task (codes "B") b) ∷ [])) { spinlocks = locks }

-- The items by which a job asks for a spinlock and gets it.
abbrev pub got : SpinlockId → List Item
got l = Item.Stim Stimulus.Op ∷ Item.Granted l ∷ []

-- S2 comes after S1. Task A of core 0 takes S2, asks for it again, asks for S1, and ends itself: all three are refused.
-- Task B of core 1 tries for S2 without success, and then waits for it.
-- [AUTOSAR SWS OS 4.x, SWS_Os_00690, SWS_Os_00691, SWS_Os_00704 and SWS_Os_00612]
abbrev pub nested : Example
nested =
    let s1 = lock_at 0 in
    let s2 = lock_at 1 in
    let v : Variable = record { index = 0 } in
    let get = Op.GetSpinlock (Some s2) in
    record {
      plan = sharing
          (record { name = codes "S1"; next = Some s2 } ∷ record { name = codes "S2"; next = None } ∷ [])
          (get ∷ get ∷ Op.GetSpinlock (Some s1) ∷ Op.TerminateTask ∷ [])
          (Op.Work ∷ Op.Work ∷ Op.TryToGetSpinlock (Some s2) v ∷ get ∷ []);
      stimuli = given_to 0 (operations 4) ∷ given_to 1 (operations 4) ∷ [];
      blocks = record {
        items = caller_gates ++ got s2 ++ taken (operations 3) ++ Item.Drained ∷ [];
        marks =
            a_begun ++ returned task_a Service.GetSpinlock EOk
            ++ failed task_a Service.GetSpinlock EOsInterferenceDeadlock
            ++ failed task_a Service.GetSpinlock EOsNestingDeadlock
            ++ failed task_a Service.TerminateTask EOsSpinlock;
      } ∷ record {
        items = called_gates ++ taken (operations 3) ++ Item.Tried s2 false ∷ taken (operations 1);
        marks = begun task_b ++ returned_with task_b Service.TryToGetSpinlock 0;
      } ∷ [];
    }

-- Task A of core 0 takes S and reaches the end of its script, so that its core gives S back. Task B of core 1 then gets
-- it.
-- [AUTOSAR SWS OS 4.x, E_OS_MISSINGEND, GetSpinlock; that the core's own next turn gives it back is this project's own]
abbrev pub owed : Example
owed =
    let s = lock_at 0 in
    let get = Op.GetSpinlock (Some s) in
    record {
      plan = sharing
          (record { name = codes "S"; next = None } ∷ [])
          (get ∷ Op.Work ∷ [])
          (get ∷ Op.ReleaseSpinlock (Some s) ∷ Op.TerminateTask ∷ []);
      stimuli = given_to 0 (operations 3) ∷ given_to 1 (operations 3) ∷ [];
      blocks = record {
        items = caller_gates ++ got s ++ taken (operations 2) ++ Item.Freed s ∷ Item.Drained ∷ end;
        marks =
            a_begun ++ returned task_a Service.GetSpinlock EOk
            ++ Mark.ErrorHook EOsMissingend ∷ ended task_a;
      } ∷ record {
        items =
            called_gates ++ got s ++ (Item.Stim Stimulus.Op ∷ Item.Freed s ∷ []) ++ taken (operations 1) ++ Item.Drained ∷ end;
        marks =
            begun task_b ++ returned task_b Service.GetSpinlock EOk
            ++ returned task_b Service.ReleaseSpinlock EOk ++ ended task_b;
      } ∷ [];
    }
