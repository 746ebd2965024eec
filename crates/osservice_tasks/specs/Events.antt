-- The services of events.
use Rattle.std.specs.Prelude.{ℕ, pos, Option, Some, None, List, [], ◌∷◌, ◌++◌}
use Rattle.osbase.specs.{declared.statuses.Status.TheVariants.EOk, declared.statuses.Status.TheVariants.EOsState, declared.references.TaskRef.TaskRef, declared.references.Runner.Runner, History.Done, History.awaits_one_of, History.have_common, Objects.task_object}
use Rattle.osbase.specs.declared.statuses.ServiceId.TheVariants as ServiceId
use Rattle.osbase.specs.declared.marks.Mark.TheVariants as Mark
use Rattle.osacts.specs.Acts.{Acts, nothing, both, when, look, notes, prints}
use Rattle.osservice.specs.{Callers.by_extended, Callers.by_task, Callers.holding_checks, Checks.Check, Named.own_of, Returning.answers, Returning.returns, Service.Service, Service.serves_own, Service.without_value}
use Rattle.osacts.specs.Seen.{Seen, is_suspended}

-- ---- of any task, on its core

-- The checks on the task whose events are set or read: that it is extended, and then that it is not suspended.
-- [OSEK/VDX OS 2.2.3, section 13.5.3.1 and 13.5.3.3]
abbrev pub event_checks : Seen → TaskRef → List Check
event_checks s t = by_extended s (Runner.Task t) ∷ (is_suspended s t, EOsState) ∷ []

-- If the task waits for one of these events, it is released. [OSEK/VDX OS 2.2.3, section 4.2.1]
abbrev pub releases : TaskRef → ℕ → Acts
releases t mask = look (λ s. when (awaits_one_of mask (s.row (Runner.Task t)).events) (prints (Mark.Released t)) nothing)

-- The events are set, and the task is released if it waits for one of them. [OSEK/VDX OS 2.2.3, section 13.5.3.1]
abbrev pub sets_events : TaskRef → ℕ → Acts
sets_events t mask = both (prints (Mark.EventSet t mask)) (releases t mask)

-- SetEvent, on the task's own core: if the task is extended and not suspended, the events are set.
abbrev pub setting : TaskRef → ℕ → Seen → Service
setting t mask s = without_value (event_checks s t) (sets_events t mask)

-- GetEvent, for one of the core's tasks: if the task is extended and not suspended, the value is the mask of its events
-- that are set.
abbrev pub reading : TaskRef → Seen → Service
reading t s = record { checks = event_checks s t; effect = nothing; value = Some (pos (s.row (Runner.Task t)).events.set) }

-- GetEvent: if a task of the own core is extended and not suspended, the value is the mask of its events that are set.
-- For any other task, and for the invalid identifier, an error is returned.
-- [OSEK/VDX OS 2.2.3, section 13.5.3.3]
abbrev pub gets_event : Runner → Option TaskRef → Acts
gets_event r target = serves_own r ServiceId.GetEvent reading (λ core. own_of task_object core target)

-- ---- of the caller's own task

-- What ClearEvent checks: that the caller is a task, and that this task is extended.
abbrev pub clearing_checks : Seen → Runner → List Check
clearing_checks s r = by_task r ∷ by_extended s r ∷ []

-- These events of the task are cleared, and no other. For an ISR nothing is done.
abbrev pub clears : Runner → ℕ → Acts
clears (Runner.Task t) mask = prints (Mark.EventCleared t mask)
clears (Runner.Isr i) mask = nothing

-- These events of the caller's task are cleared, and ClearEvent returns E_OK.
abbrev pub clears_and_returns : Runner → ℕ → Acts
clears_and_returns r mask = both (clears r mask) (returns r ServiceId.ClearEvent EOk None)

-- ClearEvent: a job of an extended task clears these events of its task. Any other caller gets an error.
-- [OSEK/VDX OS 2.2.3, section 13.5.3.2]
abbrev pub clears_event : Runner → ℕ → Acts
clears_event r mask = look (λ s. answers r ServiceId.ClearEvent (clearing_checks s r) (clears_and_returns r mask))

-- What WaitEvent checks: that the caller is a task, that this task is extended, and that its job holds no resource and
-- no spinlock.
-- [OSEK/VDX OS 2.2.3, section 13.5.3.4; AUTOSAR SWS OS 4.x, SWS_Os_00622]
abbrev pub waiting_checks : Seen → Runner → List Check
waiting_checks s r = clearing_checks s r ++ holding_checks s r

-- The task leaves the running state and waits: PostTaskHook comes first. WaitEvent has E_OK as its status at once,
-- without a line. For an ISR nothing is done. [OSEK/VDX OS 2.2.3, section 4.2.1 and 11.5; that there is no line: own]
abbrev pub begins_to_wait : Runner → ℕ → Acts
begins_to_wait (Runner.Task t) mask =
    both (prints (Mark.PostTaskHook t)) (both (prints (Mark.EventAwaited t mask)) (notes (Done (Runner.Task t) EOk None)))
begins_to_wait (Runner.Isr i) mask = nothing

-- If one of these events is set, WaitEvent returns E_OK at once, and the job runs on; else it waits. An event stays set
-- until the job clears it.
abbrev pub goes_on_or_waits : Runner → ℕ → Acts
goes_on_or_waits r mask = look (λ s.
    when (have_common mask (s.row r).events.set) (returns r ServiceId.WaitEvent EOk None) (begins_to_wait r mask))

-- WaitEvent: if one of these events is set, the job runs on at once; else it waits for one. If the caller is no
-- extended task, or its job holds a resource or a spinlock, an error is returned.
-- [OSEK/VDX OS 2.2.3, section 13.5.3.4]
abbrev pub waits_event : Runner → ℕ → Acts
waits_event r mask = look (λ s. answers r ServiceId.WaitEvent (waiting_checks s r) (goes_on_or_waits r mask))
