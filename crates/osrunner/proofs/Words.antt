-- The last word on an event.
use Rattle.std.proofs.Common.{◌≡◌, ℕ, zero, suc, ◌-◌, ◌<◌, ◌^◌, nat_eq, Bool, true, false, cond, ◌&&◌, Option, Some, None, unwrap_or, List, [], ◌∷◌, min, max, refl, ap, ◌∙◌, arith}
use Rattle.std.specs.{Int.bit_at, Int.bit_not, Int.w32, List.list_all}
use Rattle.std.proofs.lemmas.Bool.{and_parts, ltb-true}
use Rattle.std.proofs.lemmas.Nat.Bits.{bit_at-lt, bit_at-zero, bit_at_and, bit_at_not, bit_at_or}
use Rattle.osbase.specs.{declared.references.TaskRef.TaskRef, declared.marks.Mark.Mark, declared.references.Runner.Runner, Interrupts.running_job, Interrupts.runner_of_job}
use Rattle.osbase.specs.History.{History, Entry, Printed, Noted, ResourceOccupied, ResourceReleased, InterruptsSuspended, InterruptsResumed, Done, same_runner, same_task, with_cleared, with_none_set, with_set}
use Rattle.oscript.specs.declared.Op.{Op}
use Rattle.oscript.specs.Runners.{Row, row_after, row_by, row_of, row_step}
use Rattle.osrunner.specs.Laws.{is_in_mask, has_mask, last_word, said_by}

set-word : (x y : ℕ) (word : Bool) → x < 2 → y < 2 → nat_eq x 1 ≡ word → nat_eq (max x y) 1 ≡ unwrap_or (cond (nat_eq y 1) (Some true) None) word
set-word zero zero word h k e = e
set-word zero (suc zero) word h k e = refl
set-word (suc zero) zero word h k e = e
set-word (suc zero) (suc zero) word h k e = refl
set-word (suc (suc x)) y word h k e = absurd (omega (arith, h))
set-word x (suc (suc y)) word h k e = absurd (omega (arith, k))

cleared-word : (x y : ℕ) (word : Bool) → x < 2 → y < 2 → nat_eq x 1 ≡ word → nat_eq (min x (1 - y)) 1 ≡ unwrap_or (cond (nat_eq y 1) (Some false) None) word
cleared-word zero zero word h k e = e
cleared-word zero (suc zero) word h k e = refl
cleared-word (suc zero) zero word h k e = e
cleared-word (suc zero) (suc zero) word h k e = refl
cleared-word (suc (suc x)) y word h k e = absurd (omega (arith, h))
cleared-word x (suc (suc y)) word h k e = absurd (omega (arith, k))

-- an activation, events that are set, and events that are cleared: each for this task's row and for another's
word-begun : (mine : Bool) (event : ℕ) (row : Row) (before : Bool) → is_in_mask row.events.set event ≡ before → is_in_mask (cond mine (record row { events = with_none_set row.events }) row).events.set event ≡ unwrap_or (cond mine (Some false) None) before
word-begun true event row before e = ap (λ n. nat_eq n 1) (bit_at-zero event)
word-begun false event row before e = e

word-set : (mine : Bool) (mask event : ℕ) (row : Row) (before : Bool) → is_in_mask row.events.set event ≡ before
    → is_in_mask (cond mine (record row { events = with_set mask row.events }) row).events.set event ≡ unwrap_or (cond (mine && is_in_mask mask event) (Some true) None) before
word-set true mask event row before e =
    ap (λ n. nat_eq n 1) (bit_at_or row.events.set mask event) ∙ set-word (bit_at row.events.set event) (bit_at mask event) before (bit_at-lt row.events.set event) (bit_at-lt mask event) e
word-set false mask event row before e = e

word-cleared : (mine : Bool) (mask event : ℕ) (row : Row) (before : Bool) → mask < 2 ^ 32 → event < 32 → is_in_mask row.events.set event ≡ before
    → is_in_mask (cond mine (record row { events = with_cleared mask row.events }) row).events.set event ≡ unwrap_or (cond (mine && is_in_mask mask event) (Some false) None) before
word-cleared true mask event row before small below e =
    ap (λ n. nat_eq n 1) (bit_at_and row.events.set (bit_not w32 mask) event ∙ ap (min (bit_at row.events.set event)) (bit_at_not w32 mask event small below))
    ∙ cleared-word (bit_at row.events.set event) (bit_at mask event) before (bit_at-lt row.events.set event) (bit_at-lt mask event) e
word-cleared false mask event row before small below e = e

-- an entry that sets and clears no event
word-kept : (mine : Bool) (event : ℕ) (new row : Row) (before : Bool) → new.events.set ≡ row.events.set → is_in_mask row.events.set event ≡ before → is_in_mask (cond mine new row).events.set event ≡ before
word-kept true event new row before same e = ap (λ set. is_in_mask set event) same ∙ e
word-kept false event new row before same e = e

pub last-said : (script : List Op) (t : TaskRef) (event : ℕ) (h : History) → event < 32 → list_all has_mask h ≡ true → is_in_mask (row_of script (Runner.Task t) h).events.set event ≡ last_word t event h
last-said script t event [] below masks = ap (λ n. nat_eq n 1) (bit_at-zero event)
last-said script t event (e ∷ h) below masks = of e rest.0 (last-said script t event h below rest.1)
  where
    rest : (has_mask e ≡ true) × (list_all has_mask h ≡ true)
    rest = and_parts (has_mask e) (list_all has_mask h) masks

    row : Row
    row = row_of script (Runner.Task t) h

    running : Option Runner
    running = runner_of_job (running_job h)

    kept : (e : Entry) (r : Runner) → (row_step script e row).events.set ≡ row.events.set → is_in_mask row.events.set event ≡ last_word t event h
        → is_in_mask (cond (same_runner r (Runner.Task t)) (row_step script e row) row).events.set event ≡ last_word t event h
    kept e r none same = word-kept (same_runner r (Runner.Task t)) event (row_step script e row) row (last_word t event h) none same

    ticked : (who : Option Runner) → is_in_mask row.events.set event ≡ last_word t event h → is_in_mask (row_by script (Runner.Task t) (Printed Mark.Tick) who row).events.set event ≡ last_word t event h
    ticked None same = same
    ticked (Some r) same = kept (Printed Mark.Tick) r refl same

    of : (e : Entry) → has_mask e ≡ true → is_in_mask row.events.set event ≡ last_word t event h → is_in_mask (row_after script (Runner.Task t) running e row).events.set event ≡ unwrap_or (said_by t event e) (last_word t event h)
    of (Printed (Mark.Activated u)) mask same = word-begun (same_task u t) event row (last_word t event h) same
    of (Printed (Mark.EventSet u m)) mask same = word-set (same_task u t) m event row (last_word t event h) same
    of (Printed (Mark.EventCleared u m)) mask same = word-cleared (same_task u t) m event row (last_word t event h) (ltb-true m (2 ^ 32) mask) below same
    of (Printed (Mark.EventAwaited u m)) mask same = kept (Printed (Mark.EventAwaited u m)) (Runner.Task u) refl same
    of (Printed (Mark.Released u)) mask same = kept (Printed (Mark.Released u)) (Runner.Task u) refl same
    of (Printed (Mark.Terminated u)) mask same = kept (Printed (Mark.Terminated u)) (Runner.Task u) refl same
    of (Noted (ResourceOccupied r x)) mask same = kept (Noted (ResourceOccupied r x)) r refl same
    of (Noted (ResourceReleased r index)) mask same = kept (Noted (ResourceReleased r index)) r refl same
    of (Printed Mark.Tick) mask same = ticked running same
    of (Noted (InterruptsSuspended r)) mask same = kept (Noted (InterruptsSuspended r)) r refl same
    of (Noted (InterruptsResumed r)) mask same = kept (Noted (InterruptsResumed r)) r refl same
    of (Noted (Done r status value)) mask same = kept (Noted (Done r status value)) r refl same
    of e mask same = same
