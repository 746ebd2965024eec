-- Suspended interrupts: the two services, which answer no status, and the end of an ISR that has suspended them.
use Rattle.std.specs.Prelude.{None}
use Rattle.osbase.specs.{declared.statuses.Status.TheVariants.EOk, declared.statuses.Status.TheVariants.EOsDisabledint, declared.references.Runner.Runner, History.Done, History.InterruptsSuspended, History.InterruptsResumed}
use Rattle.osbase.specs.declared.marks.Mark.TheVariants as Mark
use Rattle.osacts.specs.Acts.{Acts, Notes, nothing, one_then, look, notes, prints, when}
use Rattle.osservice.specs.Callers.{has_suspended}

-- SuspendAllInterrupts: the job suspends interrupts once more, since calls nest. While it has them suspended, it runs,
-- whatever is activated or pending.
-- [OSEK/VDX OS 2.2.3, section 13.3.2.4; that calls nest: section 13.3.2.3, ResumeAllInterrupts]
abbrev pub suspends_interrupts : Runner → Acts
suspends_interrupts r = one_then (Notes (InterruptsSuspended r)) (notes (Done r EOk None))

-- ResumeAllInterrupts: the job ends the newest of its nested suspensions. [OSEK/VDX OS 2.2.3, section 13.3.2.3]
abbrev pub resumes_interrupts : Runner → Acts
resumes_interrupts r = one_then (Notes (InterruptsResumed r)) (notes (Done r EOk None))

-- If an ISR that reaches the end of its script has interrupts suspended, ErrorHook is called with E_OS_DISABLEDINT.
-- [AUTOSAR SWS OS 4.x, SWS_Os_00368]
abbrev pub reports_suspended : Runner → Acts
reports_suspended r = look (λ s. when (has_suspended s r) (prints (Mark.ErrorHook EOsDisabledint)) nothing)
