-- A core that names no object of another core does the same at an item as it does alone.
use native.Mathlib.Omega.{arith}
use Rattle.std.proofs.Common.{◌≡◌, ◌&&◌, ℕ, true, cond, not, Option, None, is_none, option_map, List, [], ◌∷◌, refl, sym, ap, ◌∙◌}
use Rattle.std.proofs.lemmas.Bool.{false≢true}
use Rattle.osbase.specs.{declared.references.CoreId.CoreId, declared.items.CoreSet.CoreSet, declared.items.Item.Item, declared.items.Stimulus.Stimulus, declared.histories.Job.Job, Phases.is_going, Phases.is_scheduling, Spins.is_owing, Sets.has_core}
use Rattle.osbase.specs.Counting.{alarm_after, alarm_of, counts_after, counts_of, table_after, table_state}
use Rattle.osbase.specs.History.{Entry, History, Took, Printed, Noted, agreement_after, agreement_of, current_task}
use Rattle.osbase.proofs.Same.{same_core-true}
use Rattle.osplan.specs.View.{Around, View}
use Rattle.osstate.specs.Readings.{best_job, knows_started, running}
use Rattle.osacts.specs.Seen.{seen_of}
use Rattle.osservice.proofs.Kept.{IsKept, anybody, is_local, is_within, nobody, seen_as}
use Rattle.osservice.proofs.SeenSame.{ReadsSame, seen-same}
use Rattle.oskernel.specs.Step.{after, effect}
use Rattle.oskernel.proofs.Among.{among, base_of, best-later, count-same, course-same, current-same, delay, got-same, later, open-same, pending-same, phase-same, reads-same, rows-same, runner-same, running-later, stamp-later}
use Rattle.oskernel.proofs.Carried.{NamesAllow, acting-anybody, after-carried, is_replied, leave_all, next_job, next_of}

-- What is around a core that is the master of these, where there are no spinlocks.
abbrev pub around_master : List CoreId → Around
around_master ids = record { is_master = true; cores = ids; links = [] }

-- What the core sees alone.
abbrev pub alone_view : View → List CoreId → View
alone_view v ids = seen_as v (around_master ids)

module _ (v : View) (ids : List CoreId) (s : CoreSet) where
  abbrev self : View
  self = alone_view v ids

  -- The history in the world of one alone.
  abbrev here : History → History
  here k = among s (base_of v.around.is_master) k

  -- The histories in the world and alone, in both of which the core is started or in neither.
  record Along (h k : History) : Type 0 where
    pub same : h ≡ here k
    pub started : knows_started h v.core ≡ knows_started k v.core

  later-next : (d : ℕ) (o p : Option Job) → next_job (option_map (later d) o) (option_map (later d) p) ≡ next_job o p
  later-next d o p = grind (arith, stamp-later d)

  next-here : (k : History) → next_of v (here k) ≡ next_of self k
  next-here k =
      let next = (λ i. next_job (best-later s v.around.is_master v k i) (running-later s v.around.is_master v k i)) ∙ later-next (delay v.around.is_master) (best_job self k) (running self k) in
      λ i. cond (is_scheduling (phase-same s v.around.is_master k i) && ((is_none (open-same s v.around.is_master k i) && not (is_owing (got-same s v.around.is_master k i))) && is_going (course-same s v.around.is_master k i))) (next i) None

  steers : (h k : History) → Along h k → (current_task h ≡ current_task k) × (next_of v h ≡ next_of self k)
  steers h k p = (ap current_task p.same ∙ current-same s v.around.is_master k, ap (next_of v) p.same ∙ next-here k)

  reads-here : (k : History) → ReadsSame v (here k) k
  reads-here k = record {
    jobs = λ r. count-same s v.around.is_master r k;
    rows = rows-same s v.around.is_master v k;
    pending = λ i. pending-same s v.around.is_master i k;
    counts = λ c. reads-same s v.around.is_master (counts_of c) (λ e j p. ap (counts_after c e) p) (λ x y h. refl) refl k;
    settings = λ c a. reads-same s v.around.is_master (alarm_of c a) (λ e j p. ap (alarm_after c a e) p) (λ x y h. refl) refl k;
    tables = λ c t. reads-same s v.around.is_master (table_state c t) (λ e j p. ap (table_after c t e) p) (λ x y h. refl) refl k;
    agreement = reads-same s v.around.is_master agreement_of (λ e j p. ap (agreement_after e) p) (λ x y h. refl) refl k;
    course = course-same s v.around.is_master k;
    running = runner-same s v.around.is_master v k;
    awaits = open-same s v.around.is_master k;
    spins = got-same s v.around.is_master k;
  }

  local : (e : Entry) (h k : History) → is_local anybody e ≡ true → Along h k → Along (e ∷ h) (e ∷ k)
  local (Printed m) h k is p = record { same = rw p.same refl; started = p.started }
  local (Noted n) h k is p = record { same = rw p.same refl; started = p.started }
  local (Took i) h k is p = absurd (false≢true is)

  own_started : (core : CoreId) (h k : History) → is_within v nobody core ≡ true → Along h k → knows_started h core ≡ knows_started k core
  own_started core h k within p =
      let same = same_core-true core v.core (grind (arith, within)) in
      ap (knows_started h) same ∙ p.started ∙ ap (knows_started k) (sym same)

  kept : IsKept (leave_all v nobody nobody) (around_master ids) Along
  kept = record {
    holds = record {
      local = local;
      asked = λ core message h k m p. absurd (false≢true m);
      replied = λ core status value h k m p. absurd (false≢true m);
      opened = λ call h k m n p. absurd (false≢true m);
    };
    started = own_started;
    shared = λ m h k p. absurd (false≢true m);
    reads = λ h k p. ap (seen_of v) p.same ∙ seen-same v (here k) k (reads-here k) (around_master ids);
    seen = λ h k p. (acting-anybody v nobody nobody h).seen;
  }

  module _ (allowed : NamesAllow v nobody) where
    -- Two items with the same effect: the first is taken in the world and the second alone.
    same-after : (k : History) (item item' : Item) → is_replied nobody anybody item ≡ true → effect item ≡ effect item' → Along (Took item ∷ here k) (Took item' ∷ k) → after v (here k) item ≡ here (after self k item')
    same-after k item item' replied same along = (after-carried (leave_all v nobody nobody) allowed (around_master ids) Along kept steers (λ h n p. acting-anybody v nobody nobody h) (here k) k item item' replied same along).same

    replied : (stimulus : Stimulus) → is_replied nobody anybody (Item.Stim stimulus) ≡ true
    replied stimulus = grind arith

    -- The same holds for the next stimulus, the end of the stimuli, and the second gate.
    pub same-stimulus : (stimulus : Stimulus) (k : History) → knows_started (here k) v.core ≡ true → knows_started k v.core ≡ true → after v (here k) (Item.Stim stimulus) ≡ here (after self k (Item.Stim stimulus))
    same-stimulus stimulus k there alone = same-after k (Item.Stim stimulus) (Item.Stim stimulus) (replied stimulus) refl (record { same = refl; started = there ∙ sym alone })

    pub same-drained : (k : History) → knows_started (here k) v.core ≡ true → knows_started k v.core ≡ true → after v (here k) Item.Drained ≡ here (after self k Item.Drained)
    same-drained k there alone = same-after k Item.Drained Item.Drained refl refl (record { same = refl; started = there ∙ sym alone })

    pub same-gate : (k : History) (own : CoreSet) → has_core s v.core ≡ true → has_core own v.core ≡ true → after v (here k) (Item.Pass2 s) ≡ here (after self k (Item.Pass2 own))
    same-gate k own there alone = same-after k (Item.Pass2 s) (Item.Pass2 own) refl refl (record { same = refl; started = there ∙ sym alone })
