-- A job that has used up its execution budget or a lock budget, and how its core answers.
use Rattle.std.specs.Prelude.{if◌then◌else◌, Option, Some, None}
use Rattle.osbase.specs.{declared.statuses.Status.Status, declared.statuses.Status.TheVariants.EOsProtectionLocked, declared.statuses.Status.TheVariants.EOsProtectionTime, declared.references.Runner.Runner}
use Rattle.osbase.specs.declared.marks.Mark.TheVariants as Mark
use Rattle.osplan.specs.declared.protection.Protection.{Protection}
use Rattle.osjobs.specs.Locks.{is_overheld}
use Rattle.osstate.specs.Readings.{budget_of}
use Rattle.osbudget.specs.Budget.{is_reached}
use Rattle.osacts.specs.Acts.{Acts, Prints, nothing, one_then, prints}
use Rattle.osacts.specs.Seen.{Seen}
use Rattle.oscall.specs.Shutdown.{goes_down}

-- The status for the budget that the oldest job of a task or ISR has reached, if any: its execution budget, or else the
-- lock budget of a resource that it holds.
-- [AUTOSAR SWS OS 4.x, SWS_Os_00064, SWS_Os_00210; that a lock budget is reached as an execution budget is, and comes
-- second: own]
abbrev pub fault_of : Seen → Runner → Option Status
fault_of s r =
    if is_reached (budget_of s.core r) (s.row r).used then Some EOsProtectionTime
    else (if is_overheld s.core (s.row r) then Some EOsProtectionLocked else None)

-- The OS ends the runner's oldest job: PostTaskHook is not called, and further activations of its task stay queued.
-- [AUTOSAR SWS OS 4.x, SWS_Os_00553]
abbrev pub ends_by_force : Runner → Acts
ends_by_force (Runner.Task t) = prints (Mark.Terminated t)
ends_by_force (Runner.Isr i) = prints (Mark.IsrLeft i)

-- The core's answer to a time fault: by TerminateTaskIsr the runner's job ends; by any other answer the core goes down.
-- [AUTOSAR SWS OS 4.x, SWS_Os_00553, SWS_Os_00556; that each other answer is a shutdown: SWS_Os_00307 and, since there
-- are no OS-Applications, this project's own]
abbrev pub answers_fault : Protection → Runner → Status → Acts
answers_fault Protection.TerminateTaskIsr r status = ends_by_force r
answers_fault protection r status = goes_down status

-- If a budget is reached, ProtectionHook is called with this status, and then the core answers by `protection`.
-- [AUTOSAR SWS OS 4.x, section 8.6.1]
abbrev pub faults_with : Protection → Runner → Option Status → Acts
faults_with protection r None = nothing
faults_with protection r (Some status) = one_then (Prints (Mark.ProtectionHook status)) (answers_fault protection r status)

-- If a job runs and has reached one of its budgets, ProtectionHook is called, and then the core answers.
abbrev pub protects : Seen → Option Runner → Acts
protects s None = nothing
protects s (Some r) = faults_with s.core.protection r (fault_of s r)
