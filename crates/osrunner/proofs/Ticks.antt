-- The ticks that a job has used of its budget.
use Rattle.std.proofs.Common.{◌≡◌, ℕ, suc, ◌+◌, ◌&&◌, Bool, true, false, cond, Option, Some, None, List, [], ◌∷◌, refl, ap, ◌∙◌, arith}
use Rattle.std.specs.Option.{option_map_or}
use Rattle.osbase.specs.{declared.marks.Mark.Mark, declared.references.Runner.Runner, Interrupts.running_job, Interrupts.runner_of_job}
use Rattle.osbase.specs.History.{History, Entry, Printed, Noted, ResourceOccupied, ResourceReleased, InterruptsSuspended, InterruptsResumed, Done, same_runner}
use Rattle.oscript.specs.declared.Op.{Op}
use Rattle.oscript.specs.Runners.{Row, row_after, row_by, row_of, row_step}
use Rattle.osrunner.specs.Laws.{earlier_ticks_of, ends_or_waits, is_running, is_tick, ticks_of}

pub used-since : (script : List Op) (r : Runner) (h : History) → earlier_ticks_of r h + (row_of script r h).used ≡ ticks_of r h
used-since script r [] = refl
used-since script r (e ∷ h) = of e (used-since script r h)
  where
    row : Row
    row = row_of script r h

    earlier : ℕ
    earlier = earlier_ticks_of r h

    running : Option Runner
    running = runner_of_job (running_job h)

    kept : (mine : Bool) (new : Row) → new.used ≡ row.used → earlier + row.used ≡ ticks_of r h → earlier + (cond mine new row).used ≡ ticks_of r h
    kept true new is same = ap (λ (n : ℕ). earlier + n) is ∙ same
    kept false new is same = same

    anew : (mine : Bool) (new : Row) → new.used ≡ 0 → earlier + row.used ≡ ticks_of r h → cond mine (ticks_of r h) earlier + (cond mine new row).used ≡ ticks_of r h
    anew true new none same = omega (arith, none)
    anew false new none same = same

    ticked : (who : Option Runner) → earlier + row.used ≡ ticks_of r h
        → earlier + (row_by script r (Printed Mark.Tick) who row).used ≡ cond (option_map_or (λ (q : Runner). same_runner q r) who false) (suc (ticks_of r h)) (ticks_of r h)
    ticked None same = same
    ticked (Some q) same = by (same_runner q r)
      where
        by : (mine : Bool) → earlier + (cond mine (row_step script (Printed Mark.Tick) row) row).used ≡ cond mine (suc (ticks_of r h)) (ticks_of r h)
        by true = omega (arith, same)
        by false = same

    of : (e : Entry) → earlier + row.used ≡ ticks_of r h
        → cond (ends_or_waits r e) (ticks_of r h) earlier + (row_after script r running e row).used ≡ cond (is_tick e && is_running r h) (suc (ticks_of r h)) (ticks_of r h)
    of (Printed Mark.Tick) same = ticked running same
    of (Printed (Mark.Terminated t)) same = anew (same_runner (Runner.Task t) r) (row_step script (Printed (Mark.Terminated t)) row) refl same
    of (Printed (Mark.IsrLeft i)) same = anew (same_runner (Runner.Isr i) r) (row_step script (Printed (Mark.IsrLeft i)) row) refl same
    of (Printed (Mark.EventAwaited t mask)) same = anew (same_runner (Runner.Task t) r) (row_step script (Printed (Mark.EventAwaited t mask)) row) refl same
    of (Printed (Mark.Activated t)) same = kept (same_runner (Runner.Task t) r) (row_step script (Printed (Mark.Activated t)) row) refl same
    of (Printed (Mark.EventSet t mask)) same = kept (same_runner (Runner.Task t) r) (row_step script (Printed (Mark.EventSet t mask)) row) refl same
    of (Printed (Mark.EventCleared t mask)) same = kept (same_runner (Runner.Task t) r) (row_step script (Printed (Mark.EventCleared t mask)) row) refl same
    of (Printed (Mark.Released t)) same = kept (same_runner (Runner.Task t) r) (row_step script (Printed (Mark.Released t)) row) refl same
    of (Noted (ResourceOccupied q x)) same = kept (same_runner q r) (row_step script (Noted (ResourceOccupied q x)) row) refl same
    of (Noted (ResourceReleased q index)) same = kept (same_runner q r) (row_step script (Noted (ResourceReleased q index)) row) refl same
    of (Noted (InterruptsSuspended q)) same = kept (same_runner q r) (row_step script (Noted (InterruptsSuspended q)) row) refl same
    of (Noted (InterruptsResumed q)) same = kept (same_runner q r) (row_step script (Noted (InterruptsResumed q)) row) refl same
    of (Noted (Done q status value)) same = kept (same_runner q r) (row_step script (Noted (Done q status value)) row) refl same
    of e same = same
