-- A job that holds a resource, of one core.
use Rattle.std.specs.Prelude.{ℕ, Some, List, [], ◌∷◌, ◌++◌, codes}
use Rattle.osbase.specs.declared.statuses.Status.TheVariants.{EOk, EOsProtectionLocked, EOsProtectionTime, EOsResource}
use Rattle.osbase.specs.declared.statuses.ServiceId.TheVariants as Service
use Rattle.osbase.specs.declared.marks.Mark.{Mark}
use Rattle.osbase.specs.declared.items.Stimulus.TheVariants as Stimulus
use Rattle.oscript.specs.declared.Op.{Op as Operation}
use Rattle.oscript.specs.declared.Op.TheVariants as Op
use Rattle.osplan.specs.declared.protection.Protection.{Protection}
use Rattle.osexamples.specs.Example.{Example}
use Rattle.osexamples.specs.Parts.{OneCore, activated_by, auto_task, begun, core_of, ended, failed, first_resource, given_to, of_one_core, operations, returned, run_to_end, short_task, task_at, with_lock, with_priority, with_resource, without_preemption}

-- a script that holds the first resource during these operations, and then ends the task
abbrev pub holding : List Operation → List Operation
holding inner = (Op.GetResource (Some (first_resource 0)) ∷ inner) ++ Op.ReleaseResource (Some (first_resource 0)) ∷ Op.TerminateTask ∷ []

-- The priority ceiling: while L holds the resource, H, of the ceiling's priority, does not preempt it, and does at once
-- when L gives the resource back. [OSEK/VDX OS 2.2.3, section 8.5]
abbrev pub ceiling : Example
ceiling =
    let l = task_at 0 0 in
    let h = task_at 0 1 in
    of_one_core (record {
      core = with_resource (codes "R") 2 (core_of 0 [] (auto_task (codes "L") (holding (Op.ActivateTask (Some h) ∷ [])) ∷ with_priority 2 (short_task (codes "H")) ∷ []));
      stimuli = operations 5;
      marks =
          begun l ++ returned l Service.GetResource EOk ++ activated_by l h ++ returned l Service.ReleaseResource EOk
          ++ (Mark.PostTaskHook l ∷ []) ++ run_to_end h ++ run_to_end l;
    })

-- A job that holds a resource does not give way: Schedule is refused, so the job of N, which cannot be preempted, runs
-- on before that of U, of greater priority. [OSEK/VDX OS 2.2.3, section 13.2.3.4]
abbrev pub keeping : Example
keeping =
    let n = task_at 0 0 in
    let u = task_at 0 1 in
    let steady = without_preemption (auto_task (codes "N") (holding (Op.ActivateTask (Some u) ∷ Op.Schedule ∷ []))) in
    of_one_core (record {
      core = with_resource (codes "R") 1 (core_of 0 [] (steady ∷ with_priority 2 (short_task (codes "U")) ∷ []));
      stimuli = operations 6;
      marks =
          begun n ++ returned n Service.GetResource EOk ++ activated_by n u ++ failed n Service.Schedule EOsResource
          ++ returned n Service.ReleaseResource EOk ++ ended n ++ run_to_end u;
    })

-- A, with this execution budget, takes a resource whose lock budget is two ticks. The second tick uses the lock budget
-- up. The core answers that by `protection`, and prints the marks of `answer`.
abbrev pub overholding : ℕ → Protection → List Mark → OneCore
overholding budget protection answer =
    let a = task_at 0 0 in
    let alone = core_of 0 [] (record (auto_task (codes "A") (holding (Op.Work ∷ []))) { budget = budget } ∷ []) in
    record {
      core = record (with_lock (codes "R") 1 2 alone) { protection = protection };
      stimuli = Stimulus.Op ∷ Stimulus.Tick ∷ Stimulus.Op ∷ Stimulus.Tick ∷ [];
      marks = begun a ++ returned a Service.GetResource EOk ++ (Mark.Tick ∷ Mark.Tick ∷ []) ++ answer;
    }

-- the example with one more operation as its last stimulus
abbrev pub one_more : OneCore → OneCore
one_more a = record a { stimuli = a.stimuli ++ operations 1 }

-- By the answer TerminateTaskIsr the job of A ends, and with it the resource is given back.
-- [AUTOSAR SWS OS 4.x, SWS_Os_00553]
abbrev pub overheld : Example
overheld = of_one_core (one_more (overholding 0 Protection.TerminateTaskIsr (Mark.ProtectionHook EOsProtectionLocked ∷ Mark.Terminated (task_at 0 0) ∷ [])))

-- By the answer Shutdown the core goes down. The stimulus that is left is not taken. [AUTOSAR SWS OS 4.x, SWS_Os_00307]
abbrev pub overheld_down : Example
overheld_down =
    let held = overholding 0 Protection.Shutdown (Mark.ProtectionHook EOsProtectionLocked ∷ Mark.ShutdownHook EOsProtectionLocked ∷ []) in
    record (of_one_core held) { stimuli = given_to 0 (one_more held).stimuli ∷ [] }

-- If the same tick reaches the execution budget too, only the execution budget is reported. [own]
abbrev pub overrunning : Example
overrunning = of_one_core (one_more (overholding 2 Protection.TerminateTaskIsr (Mark.ProtectionHook EOsProtectionTime ∷ Mark.Terminated (task_at 0 0) ∷ [])))
