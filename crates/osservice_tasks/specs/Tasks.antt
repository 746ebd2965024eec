-- The services of tasks.
use Rattle.std.specs.Prelude.{Option, Some, None, List, [], ◌∷◌}
use Rattle.osbase.specs.{declared.statuses.Status.TheVariants.EOk, declared.statuses.Status.TheVariants.EOsLimit, declared.statuses.Status.TheVariants.EOsMissingend, declared.references.TaskRef.TaskRef, declared.references.Runner.Runner}
use Rattle.osbase.specs.declared.statuses.ServiceId.TheVariants as ServiceId
use Rattle.osbase.specs.declared.marks.Mark.TheVariants as Mark
use Rattle.oscript.specs.declared.Op.{Op}
use Rattle.osacts.specs.Acts.{Acts, both, look, prints}
use Rattle.osservice.specs.{Callers.by_task, Callers.holding_checks, Checks.Check, Returning.answers, Returning.returns, Service.Service, Service.without_value}
use Rattle.osacts.specs.Seen.{Seen, is_at_limit}
use Rattle.osservice_tasks.specs.{Events.clears_event, Events.gets_event, Events.waits_event, Interrupts.reports_suspended, Interrupts.resumes_interrupts, Interrupts.suspends_interrupts, Resources.gets_resource, Resources.releases_resource}

-- A job of the task begins. [OSEK/VDX OS 2.2.3, section 4.3]
abbrev pub activates : TaskRef → Acts
activates t = prints (Mark.Activated t)

-- A task is activated on its own core, unless it has as many jobs as it may have. [OSEK/VDX OS 2.2.3, section 13.2.3.1]
abbrev pub activation : TaskRef → Seen → Service
activation t s = without_value ((is_at_limit s t, EOsLimit) ∷ []) (activates t)

-- The runner's oldest job ends. For a task, PostTaskHook comes first. [OSEK/VDX OS 2.2.3, section 11.5]
abbrev pub ends : Runner → Acts
ends (Runner.Task t) = both (prints (Mark.PostTaskHook t)) (prints (Mark.Terminated t))
ends (Runner.Isr i) = prints (Mark.IsrLeft i)

-- A job reaches the end of its script, and ends. For a task, ErrorHook is first called with E_OS_MISSINGEND, and with
-- no other status. For an ISR that has interrupts suspended, it is first called with E_OS_DISABLEDINT.
-- [AUTOSAR SWS OS 4.x, SWS_Os_00069, SWS_Os_00052]
abbrev pub ends_without_terminate : Runner → Acts
ends_without_terminate (Runner.Task t) = both (prints (Mark.ErrorHook EOsMissingend)) (ends (Runner.Task t))
ends_without_terminate (Runner.Isr i) = both (reports_suspended (Runner.Isr i)) (ends (Runner.Isr i))

-- What TerminateTask and Schedule check: that the caller is a task, then that its job holds no resource and no
-- spinlock.
-- [OSEK/VDX OS 2.2.3, section 8.2, 13.2.3.2 and 13.2.3.4; AUTOSAR SWS OS 4.x, SWS_Os_00612 and SWS_Os_00624]
abbrev pub task_checks : Seen → Runner → List Check
task_checks s r = by_task r ∷ holding_checks s r

-- TerminateTask: a task's job ends itself. If the caller is an ISR, or holds a resource or a spinlock, an error is
-- returned.
-- [OSEK/VDX OS 2.2.3, section 13.2.3.2]
abbrev pub terminates : Runner → Acts
terminates r = look (λ s. answers r ServiceId.TerminateTask (task_checks s r) (ends r))

-- If its checks pass, Schedule returns E_OK, and with that line its caller gives way within this item; else it returns
-- an error. Giving way matters only if the caller's task cannot be preempted. [OSEK/VDX OS 2.2.3, section 13.2.3.4]
abbrev pub schedules : Runner → Acts
schedules r = look (λ s. answers r ServiceId.Schedule (task_checks s r) (returns r ServiceId.Schedule EOk None))

-- ---- the operations that are services of tasks, resources, events and interrupts

-- What an operation does for a runner, if it is a service of tasks, resources, events or interrupts that never crosses
-- to another core.
abbrev pub task_acts : Runner → Op → Option Acts
task_acts r Op.TerminateTask = Some (terminates r)
task_acts r Op.Schedule = Some (schedules r)
task_acts r (Op.GetResource target) = Some (gets_resource r target)
task_acts r (Op.ReleaseResource target) = Some (releases_resource r target)
task_acts r (Op.ClearEvent mask) = Some (clears_event r mask)
task_acts r (Op.GetEvent target x) = Some (gets_event r target)
task_acts r (Op.WaitEvent mask) = Some (waits_event r mask)
task_acts r Op.SuspendAllInterrupts = Some (suspends_interrupts r)
task_acts r Op.ResumeAllInterrupts = Some (resumes_interrupts r)
task_acts r op = None
