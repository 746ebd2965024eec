-- Interrupts, and execution budgets.
use Rattle.std.specs.Prelude.{ℕ, Some, List, [], ◌∷◌, ◌++◌, codes}
use Rattle.osbase.specs.{declared.references.IsrRef.IsrRef, declared.marks.Mark.Mark, declared.statuses.Status.TheVariants.EOk, declared.statuses.Status.TheVariants.EOsDisabledint, declared.statuses.Status.TheVariants.EOsProtectionTime}
use Rattle.osbase.specs.declared.references.Runner.TheVariants as Runner
use Rattle.osbase.specs.declared.items.Stimulus.TheVariants as Stimulus
use Rattle.osbase.specs.declared.statuses.ServiceId.TheVariants as Service
use Rattle.oscript.specs.declared.Op.{Op}
use Rattle.osplan.specs.{declared.plans.Core.Core, declared.plans.Isr.Isr, declared.protection.Protection.Protection}
use Rattle.osexamples.specs.Example.{Example, core}
use Rattle.osexamples.specs.Parts.{OneCore, auto_task, awaited, begun, core_of, ended, failed, first_resource, of_one_core, operations, returned, run_to_end, short_task, task_at, ticks, with_events, with_priority, with_resource}

-- The first ISR of core 0.
abbrev pub first_isr : IsrRef
first_isr = record { core = core 0; index = 0 }

-- The core with one ISR, of level 1, with this name and script.
abbrev pub with_isr : List ℕ → List Op → Core → Core
with_isr name script c = record c { isrs = record { name = name; level = 1; budget = 0; script = script } ∷ [] }

-- W may use two ticks. It uses one and waits. D releases W, which may use two again: it takes a resource and uses both.
-- The core answers that by `protection`, and prints the marks of `answer`.
-- [AUTOSAR SWS OS 4.x, SWS_Os_00064 and SWS_Os_00473]
abbrev pub overrunning : Protection → List Mark → OneCore
overrunning protection answer =
    let w = task_at 0 0 in
    let d = task_at 0 1 in
    let r = first_resource 0 in
    let script = Op.WaitEvent 1 ∷ Op.GetResource (Some r) ∷ Op.TerminateTask ∷ [] in
    let both = core_of 0 [] (record (with_events (with_priority 2 (auto_task (codes "W") script))) { budget = 2 } ∷ auto_task (codes "D") (Op.SetEvent (Some w) 1 ∷ Op.TerminateTask ∷ []) ∷ []) in
    record {
      core = record (with_resource (codes "R") 2 both) { protection = protection };
      stimuli = ticks 1 ++ operations 3 ++ ticks 2;
      marks =
          (Mark.StartupHook ∷ Mark.Activated w ∷ Mark.Activated d ∷ Mark.PreTaskHook w ∷ Mark.Tick ∷ []) ++ awaited w 1
          ++ (Mark.PreTaskHook d ∷ Mark.EventSet w 1 ∷ Mark.Released w ∷ []) ++ returned d Service.SetEvent EOk
          ++ (Mark.PostTaskHook d ∷ Mark.PreTaskHook w ∷ []) ++ returned w Service.GetResource EOk
          ++ (Mark.Tick ∷ Mark.Tick ∷ Mark.ProtectionHook EOsProtectionTime ∷ []) ++ answer;
    }

-- By the answer TerminateTaskIsr the job of W ends without PostTaskHook, and D runs on.
-- [AUTOSAR SWS OS 4.x, SWS_Os_00553]
abbrev pub budget : Example
budget =
    let d = task_at 0 1 in
    let spent = overrunning Protection.TerminateTaskIsr (Mark.Terminated (task_at 0 0) ∷ run_to_end d) in
    of_one_core (record spent { stimuli = spent.stimuli ++ operations 1 })

-- By the answer Ignore the core goes down. The stimulus that is left is not taken. [AUTOSAR SWS OS 4.x, SWS_Os_00307]
abbrev pub ignored : Example
ignored =
    let spent = overrunning Protection.Ignore (Mark.ShutdownHook EOsProtectionTime ∷ []) in
    let all = of_one_core spent in
    record all { stimuli = record { core = core 0; words = spent.stimuli ++ operations 1 } ∷ [] }

-- A suspends interrupts. Of two interrupts of I one is pending and the other one lost, and a service of A is refused.
-- Once A resumes interrupts, I begins and activates H, which preempts A when I has ended.
-- [OSEK/VDX OS 2.2.3, section 13.3.2.4; AUTOSAR SWS OS 4.x, SWS_Os_00093]
abbrev pub suspended : Example
suspended =
    let a = task_at 0 0 in
    let h = task_at 0 1 in
    let i = first_isr in
    let script = Op.SuspendAllInterrupts ∷ Op.ActivateTask (Some a) ∷ Op.ResumeAllInterrupts ∷ Op.TerminateTask ∷ [] in
    of_one_core (record {
      core = with_isr (codes "I") (Op.ActivateTask (Some h) ∷ []) (core_of 0 [] (auto_task (codes "A") script ∷ with_priority 2 (short_task (codes "H")) ∷ []));
      stimuli = operations 1 ++ (Stimulus.Irq i ∷ Stimulus.Irq i ∷ []) ++ operations 6;
      marks =
          begun a ++ (Mark.InterruptAccepted i ∷ Mark.InterruptLost i ∷ []) ++ failed a Service.ActivateTask EOsDisabledint
          ++ (Mark.IsrEntered i ∷ Mark.Activated h ∷ Mark.ServiceReturned (Runner.Isr i) Service.ActivateTask EOk ∷ Mark.IsrLeft i ∷ Mark.PostTaskHook a ∷ [])
          ++ run_to_end h ++ run_to_end a;
    })

-- An ISR ends with interrupts suspended: ErrorHook is called, and the task runs on. [AUTOSAR SWS OS 4.x, SWS_Os_00368]
abbrev pub unresumed : Example
unresumed =
    let a = task_at 0 0 in
    let i = first_isr in
    of_one_core (record {
      core = with_isr (codes "I") (Op.SuspendAllInterrupts ∷ []) (core_of 0 [] (auto_task (codes "A") (Op.TerminateTask ∷ []) ∷ []));
      stimuli = Stimulus.Irq i ∷ operations 3;
      marks = begun a ++ (Mark.InterruptAccepted i ∷ Mark.IsrEntered i ∷ Mark.ErrorHook EOsDisabledint ∷ Mark.IsrLeft i ∷ []) ++ ended a;
    })
