-- Which ISRs were entered and have not left.
use Rattle.std.specs.Prelude.{◌≡◌, Bool, if◌then◌else◌, List, [], ◌∷◌}
use Rattle.std.specs.{List.list_any, Option.option_or}
use Rattle.osbase.specs.{declared.references.IsrRef.IsrRef, declared.marks.Mark.Mark}
use Rattle.osbase.specs.History.{History, Printed, current_job, same_isr}
use Rattle.osbase.specs.Interrupts.{entered_isrs, isr_jobs, oldest_entered, running_job}

-- The ISR is one of these.
abbrev pub is_isr_of : IsrRef → List IsrRef → Bool
is_isr_of i isrs = list_any (same_isr i) isrs

-- The ISRs that were entered and have not left since, the one that was entered last first. The entries are read from
-- the newest back. `later` has the ISRs that newer entries enter or leave, whose older entries count no more.
-- [OSEK/VDX OS 2.2.3, section 6]
abbrev pub unleft : List IsrRef → History → List IsrRef
unleft later [] = []
unleft later (Printed (Mark.IsrEntered i) ∷ h) = if is_isr_of i later then unleft (i ∷ later) h else i ∷ unleft (i ∷ later) h
unleft later (Printed (Mark.IsrLeft i) ∷ h) = unleft (i ∷ later) h
unleft later (e ∷ h) = unleft later h

-- The entered ISRs are those that were entered and have not left since. The running job is the oldest job of the one
-- that was entered last, or else the current task's.
-- [OSEK/VDX OS 2.2.3, section 4.2 and 6]
pub record RunsTheLastEntered (h : History) : Type 0 where
  pub isrs : entered_isrs h ≡ unleft [] h
  pub running : running_job h ≡ option_or (oldest_entered (unleft [] h) (isr_jobs h)) (current_job h)
