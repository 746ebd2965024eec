-- The ticks that a job has used of the lock budget of a resource.
use Rattle.std.proofs.Common.{◌≡◌, ◌==◌, ℕ, suc, ◌<◌, ◌&&◌, Bool, true, false, cond, Option, Some, None, List, [], ◌∷◌, get_or, length, set, refl, ap, sym, subst, ◌∙◌, length-set}
use Rattle.std.specs.Option.{option_map_or}
use Rattle.std.proofs.lemmas.Bool.{both_ways, eq-eqb, eqb-true}
use Rattle.std.proofs.lemmas.List.{get_or-map, get_or-replicate, get_or-set_other, get_or-set_same, length-map}
use Rattle.osbase.specs.{declared.limits.TheConstants.RESOURCES, declared.marks.Mark.Mark, declared.references.Runner.Runner, declared.histories.HeldResource.HeldResource, Interrupts.running_job, Interrupts.runner_of_job}
use Rattle.osbase.specs.History.{History, Entry, Printed, Noted, ResourceOccupied, ResourceReleased, InterruptsSuspended, InterruptsResumed, Done, same_runner}
use Rattle.oscript.specs.declared.Op.{Op}
use Rattle.oscript.specs.Runners.{Row, row_after, row_by, row_of, row_step, runner_of}
use Rattle.osrunner.specs.Laws.{is_running, is_tick, lock_ticks_of, takes_resource}

-- the row has a count of lock ticks for each resource
long : (script : List Op) (r : Runner) (h : History) → length (row_of script r h).lock_used ≡ RESOURCES
long script r [] = refl
long script r (e ∷ h) = by (runner_of (runner_of_job (running_job h)) e) (long script r h)
  where
    row : Row
    row = row_of script r h

    step : (e : Entry) → length row.lock_used ≡ RESOURCES → length (row_step script e row).lock_used ≡ RESOURCES
    step (Noted (ResourceOccupied q x)) same = length-set row.lock_used x.index 0 ∙ same
    step (Printed Mark.Tick) same = length-map row.lock_used suc ∙ same
    step e same = same

    at : (mine : Bool) → length row.lock_used ≡ RESOURCES → length (cond mine (row_step script e row) row).lock_used ≡ RESOURCES
    at true same = step e same
    at false same = same

    by : (who : Option Runner) → length row.lock_used ≡ RESOURCES → length (row_by script r e who row).lock_used ≡ RESOURCES
    by None same = same
    by (Some q) same = at (same_runner q r) same

pub lock-used-since : (script : List Op) (r : Runner) (index : ℕ) (h : History) → index < RESOURCES → get_or (row_of script r h).lock_used index 0 ≡ lock_ticks_of r index h
lock-used-since script r index [] below = get_or-replicate RESOURCES index 0 0 below
lock-used-since script r index (e ∷ h) below = of e (lock-used-since script r index h below)
  where
    row : Row
    row = row_of script r h

    ticks : ℕ
    ticks = lock_ticks_of r index h

    running : Option Runner
    running = runner_of_job (running_job h)

    here : index < length row.lock_used
    here = subst (λ (n : ℕ). index < n) (sym (long script r h)) below

    kept : (mine : Bool) (new : Row) → new.lock_used ≡ row.lock_used → get_or row.lock_used index 0 ≡ ticks → get_or (cond mine new row).lock_used index 0 ≡ ticks
    kept true new is same = ap (λ (xs : List ℕ). get_or xs index 0) is ∙ same
    kept false new is same = same

    taken : (mine : Bool) (x : HeldResource) (this : Bool) → (x.index == index) ≡ this → get_or row.lock_used index 0 ≡ ticks
        → get_or (cond mine (row_step script (Noted (ResourceOccupied r x)) row) row).lock_used index 0 ≡ cond (mine && this) 0 ticks
    taken false x this e same = same
    taken true x true e same = ap (λ (n : ℕ). get_or (set row.lock_used n 0) index 0) (eqb-true x.index index e) ∙ get_or-set_same row.lock_used index 0 0 here
    taken true x false e same = get_or-set_other row.lock_used x.index index 0 0 (λ is. both_ways (x.index == index) e (eq-eqb x.index index (sym is))) ∙ same

    ticked : (who : Option Runner) → get_or row.lock_used index 0 ≡ ticks
        → get_or (row_by script r (Printed Mark.Tick) who row).lock_used index 0 ≡ cond (option_map_or (λ (q : Runner). same_runner q r) who false) (suc ticks) ticks
    ticked None same = same
    ticked (Some q) same = by (same_runner q r)
      where
        by : (mine : Bool) → get_or (cond mine (row_step script (Printed Mark.Tick) row) row).lock_used index 0 ≡ cond mine (suc ticks) ticks
        by true = get_or-map suc row.lock_used index 0 0 here ∙ ap suc same
        by false = same

    of : (e : Entry) → get_or row.lock_used index 0 ≡ ticks
        → get_or (row_after script r running e row).lock_used index 0 ≡ cond (takes_resource r index e) 0 (cond (is_tick e && is_running r h) (suc ticks) ticks)
    of (Printed Mark.Tick) same = ticked running same
    of (Noted (ResourceOccupied q x)) same = taken (same_runner q r) x (x.index == index) refl same
    of (Printed (Mark.Terminated t)) same = kept (same_runner (Runner.Task t) r) (row_step script (Printed (Mark.Terminated t)) row) refl same
    of (Printed (Mark.IsrLeft i)) same = kept (same_runner (Runner.Isr i) r) (row_step script (Printed (Mark.IsrLeft i)) row) refl same
    of (Printed (Mark.EventAwaited t mask)) same = kept (same_runner (Runner.Task t) r) (row_step script (Printed (Mark.EventAwaited t mask)) row) refl same
    of (Printed (Mark.Activated t)) same = kept (same_runner (Runner.Task t) r) (row_step script (Printed (Mark.Activated t)) row) refl same
    of (Printed (Mark.EventSet t mask)) same = kept (same_runner (Runner.Task t) r) (row_step script (Printed (Mark.EventSet t mask)) row) refl same
    of (Printed (Mark.EventCleared t mask)) same = kept (same_runner (Runner.Task t) r) (row_step script (Printed (Mark.EventCleared t mask)) row) refl same
    of (Printed (Mark.Released t)) same = kept (same_runner (Runner.Task t) r) (row_step script (Printed (Mark.Released t)) row) refl same
    of (Noted (ResourceReleased q index)) same = kept (same_runner q r) (row_step script (Noted (ResourceReleased q index)) row) refl same
    of (Noted (InterruptsSuspended q)) same = kept (same_runner q r) (row_step script (Noted (InterruptsSuspended q)) row) refl same
    of (Noted (InterruptsResumed q)) same = kept (same_runner q r) (row_step script (Noted (InterruptsResumed q)) row) refl same
    of (Noted (Done q status value)) same = kept (same_runner q r) (row_step script (Noted (Done q status value)) row) refl same
    of e same = same
