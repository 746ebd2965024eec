-- Tasks of one core: which job runs, and what a task's script does.
use Rattle.std.specs.Prelude.{pos, Some, [], ◌∷◌, ◌++◌, codes}
use Rattle.osbase.specs.{declared.statuses.Status.TheVariants.EOk, declared.statuses.Status.TheVariants.EOsLimit, declared.references.Variable.Variable, declared.marks.Mark.Mark}
use Rattle.osbase.specs.declared.statuses.ServiceId.TheVariants as Service
use Rattle.osbase.specs.declared.references.Runner.TheVariants as Runner
use Rattle.oscript.specs.declared.Op.TheVariants as Op
use Rattle.osexamples.specs.Example.{Example}
use Rattle.osexamples.specs.Parts.{activated_by, auto_task, awaited, begun, core_of, ended, failed, of_one_core, operations, returned, run_to_end, short_task, task, task_at, with_events, with_priority, without_preemption}

-- Four tasks of one core: X activates Y, of its own priority, and H, of a greater one, which preempts X and activates
-- Z, again of X's priority. The jobs of that priority run in the order of their activation: X runs on first, then come
-- Y and Z.
-- [OSEK/VDX OS 2.2.3, sections 4.5 and 4.6]
abbrev pub oldest : Example
oldest =
    let x = task_at 0 0 in
    let y = task_at 0 1 in
    let z = task_at 0 2 in
    let h = task_at 0 3 in
    of_one_core (record {
      core = core_of 0 [] (
          auto_task (codes "X") (Op.ActivateTask (Some y) ∷ Op.ActivateTask (Some h) ∷ Op.TerminateTask ∷ [])
          ∷ short_task (codes "Y") ∷ short_task (codes "Z")
          ∷ with_priority 2 (task (codes "H") (Op.ActivateTask (Some z) ∷ Op.TerminateTask ∷ [])) ∷ []);
      stimuli = operations 7;
      marks =
          begun x ++ activated_by x y ++ activated_by x h
          ++ (Mark.PostTaskHook x ∷ Mark.PreTaskHook h ∷ []) ++ activated_by h z ++ ended h
          ++ run_to_end x ++ run_to_end y ++ run_to_end z;
    })

-- N cannot be preempted. When it calls Schedule, the job of E, of equal priority, waits, but that of U, of a greater
-- one, runs first. Then N runs on. [OSEK/VDX OS 2.2.3, sections 4.6.2 and 13.2.3.4]
abbrev pub scheduling : Example
scheduling =
    let n = task_at 0 0 in
    let e = task_at 0 1 in
    let u = task_at 0 2 in
    let scheduled = returned n Service.Schedule EOk in
    let script = Op.ActivateTask (Some e) ∷ Op.Schedule ∷ Op.ActivateTask (Some u) ∷ Op.Schedule ∷ Op.TerminateTask ∷ [] in
    of_one_core (record {
      core = core_of 0 [] (without_preemption (auto_task (codes "N") script) ∷ short_task (codes "E") ∷ with_priority 2 (short_task (codes "U")) ∷ []);
      stimuli = operations 7;
      marks =
          begun n ++ activated_by n e ++ scheduled ++ activated_by n u ++ scheduled
          ++ (Mark.PostTaskHook n ∷ []) ++ run_to_end u ++ run_to_end n ++ run_to_end e;
    })

-- W waits for an event. D, of a lesser priority, which cannot be preempted, activates F, of W's priority, and then sets
-- the event. W is released after F was activated, and so it runs on after F. [OSEK/VDX OS 2.2.3, sections 4.5 and 7]
abbrev pub released : Example
released =
    let w = task_at 0 0 in
    let f = task_at 0 1 in
    let d = task_at 0 2 in
    of_one_core (record {
      core = core_of 0 [] (
          with_events (with_priority 2 (auto_task (codes "W") (Op.WaitEvent 1 ∷ Op.TerminateTask ∷ [])))
          ∷ with_priority 2 (short_task (codes "F"))
          ∷ without_preemption (auto_task (codes "D") (Op.ActivateTask (Some f) ∷ Op.SetEvent (Some w) 1 ∷ Op.TerminateTask ∷ [])) ∷ []);
      stimuli = operations 6;
      marks =
          (Mark.StartupHook ∷ Mark.Activated w ∷ Mark.Activated d ∷ Mark.PreTaskHook w ∷ []) ++ awaited w 1
          ++ (Mark.PreTaskHook d ∷ []) ++ activated_by d f
          ++ (Mark.EventSet w 1 ∷ Mark.Released w ∷ []) ++ returned d Service.SetEvent EOk ++ ended d
          ++ run_to_end f ++ run_to_end w;
    })

-- A task that chains to itself: each of its jobs ends before the next one begins, so that its limit of one job is kept.
-- [OSEK/VDX OS 2.2.3, section 13.2.3.3]
abbrev pub chained : Example
chained =
    let s = task_at 0 0 in
    let next = Mark.Activated s ∷ Mark.PreTaskHook s ∷ [] in
    of_one_core (record {
      core = core_of 0 [] (auto_task (codes "S") (Op.ChainTask (Some s) ∷ []) ∷ []);
      stimuli = operations 2;
      marks = begun s ++ ended s ++ next ++ ended s ++ next;
    })

-- Variables and jumps: the status of a refused service is stored. A jump is taken where a variable is 0, and passed
-- over where it is not. A sum stops at the end of the type. The first jump is passed over, since the status is not 0;
-- the second leads to the sum.
abbrev pub variables : Example
variables =
    let a = task_at 0 0 in
    let v : Variable = record { index = 0 } in
    let zero_variable : Variable = record { index = 1 } in
    let greatest = pos 9223372036854775807 in
    of_one_core (record {
      core = core_of 0 [] (
          auto_task (codes "A") (
          Op.ActivateTask (Some a) ∷ Op.StoreStatus v ∷ Op.JumpIfZero v 0 ∷ Op.JumpIfZero zero_variable 5 ∷ Op.Work
          ∷ Op.Add v greatest ∷ Op.TerminateTask ∷ []) ∷ []);
      stimuli = operations 6;
      marks =
          begun a ++ failed a Service.ActivateTask EOsLimit
          ++ (Mark.VariableSet (Runner.Task a) v (pos 4) ∷ Mark.VariableSet (Runner.Task a) v greatest ∷ []) ++ ended a;
    })
