-- What a step's functions do to the state they do to every history: what follows from an item, and dispatch.
use Rattle.std.proofs.Common.{◌≡◌, ℕ, ◌+◌, Bool, true, false, Option, Some, None, List, ◌∷◌, ◌++◌, refl, ap, sym, subst, ◌∙◌, append_assoc, Vec, Global, arith}
use Rattle.std.specs.Option.{option_map_or}
use Rattle.std.proofs.lemmas.Bool.{cond_both}
use Rattle.osbase.specs.{declared.references.Runner.Runner, declared.references.TaskRef.TaskRef, declared.histories.Job.Job, declared.items.Item.Item, declared.marks.Mark.Mark, History.History, History.Took, History.same_job}
use Rattle.osplan.specs.{Clocked.are_clocks_within, View.View}
use Rattle.osstate.specs.{Does.Tracks, Queries.best_in, Queries.running_in, State.KernelState, State.Stands, Steps.state_after}
use Rattle.osstate.proofs.Histories.{state-stands}
use Rattle.osawait.specs.Free.{may_dispatch}
use Rattle.osacts.specs.{Acts.Acts, Acts.does, Laws.are_permitted, Runs.says, Steps.Steps}
use Rattle.osacts.proofs.{Law.lines-after, Law.stands-after, Within.runs-within}
use Rattle.oskernel.specs.Step.{dispatched, dispatches, enters, goes_to}

-- ---- dispatch

-- Dispatch only prints lines.
pub dispatch-permitted : (s q : KernelState) → are_permitted (dispatches s) q ≡ true
dispatch-permitted s q = cond_both (may_dispatch s) (are_permitted (goes_to s (best_in s)) q) true (λ (b : Bool). b ≡ true) (λ goes. gone (best_in s)) (λ waits. refl)
  where
    entered : (o : Option TaskRef) (r : Runner) → are_permitted (enters o r) q ≡ true
    entered o r = grind arith

    gone : (o : Option Job) → are_permitted (goes_to s o) q ≡ true
    gone None = refl
    gone (Some j) =
        cond_both (option_map_or (same_job j) (running_in s) false) true (are_permitted (enters s.tasks.current j.runner) q) (λ (b : Bool). b ≡ true) (λ runs. refl) (λ other. entered s.tasks.current j.runner)

-- ---- every history

-- The entry of an item that was taken.
pub took : {v : View} {h : History} {earlier base : List Mark} {s : KernelState} {marks : List Mark} (item : Item) → are_clocks_within s.view.own ≡ true
    → Tracks v h earlier base s marks → Tracks v (Took item ∷ h) earlier base (state_after (Took item) s) marks
took {v} {h} item within t = record {
  stands = record {
    is = ap (state_after (Took item)) t.stands.is ∙ state-stands v (Took item) h (subst (λ (q : KernelState). are_clocks_within q.view.own ≡ true) t.stands.is within);
    granted = t.stands.granted;
  };
  added = t.added;
  behind = t.behind;
  shows = t.shows;
}

-- These acts do to every history of the state what they do to the state.
pub tracked : {v : View} {h : History} {earlier base : List Mark} {most marks : ℕ} {s s' : KernelState} {vec vec' : Vec Mark Global} (x : Acts) → are_clocks_within s.view.own ≡ true → are_permitted x s ≡ true
    → Steps most marks x s s' vec vec' → Tracks v h earlier base s vec.items → Tracks v (does x v h) earlier base s' vec'.items
tracked {v} {h} {earlier} {base} {s = s} x within permitted steps t = record {
  stands = subst (λ (q : KernelState). Stands v (does x v h) q) (sym steps.state) (stands-after x within permitted t.stands);
  added = t.added ++ says x s;
  behind = steps.prints ∙ ap (λ (ms : List Mark). ms ++ says x s) t.behind ∙ append_assoc base t.added (says x s);
  shows = sym (append_assoc earlier t.added (says x s)) ∙ ap (λ (ms : List Mark). ms ++ says x s) t.shows ∙ sym (lines-after x within permitted t.stands);
}

-- Dispatch does to every history of the state what it does to the state.
pub dispatch-tracked : {v : View} {h : History} {earlier base : List Mark} {most marks : ℕ} {s s' : KernelState} {vec vec' : Vec Mark Global} → are_clocks_within s.view.own ≡ true
    → Steps most marks (dispatches s) s s' vec vec' → Tracks v h earlier base s vec.items → Tracks v (dispatched v h) earlier base s' vec'.items
dispatch-tracked {v} {h} {earlier} {base} {s = s} {s' = s'} {vec' = vec'} within steps t =
    subst (λ (k : History). Tracks v k earlier base s' vec'.items) (ap (λ (q : KernelState). does (dispatches q) v h) t.stands.is) (tracked (dispatches s) within (dispatch-permitted s s) steps t)

-- The acts after an item count no other item.
pub counted : {most marks most' marks' : ℕ} (s : KernelState) {s' s'' : KernelState} {vec vec' vec'' : Vec Mark Global} (item : Item) (x y : Acts) → Steps most marks x (state_after (Took item) s) s' vec vec' → Steps most' marks' y s' s'' vec' vec'' → s''.progress.items ≡ s.progress.items + 1
counted s {s' = s'} item x y first second =
    let items : KernelState → ℕ = λ q. q.progress.items in
    ap items second.state ∙ (runs-within y s').items ∙ ap items first.state ∙ (runs-within x (state_after (Took item) s)).items
