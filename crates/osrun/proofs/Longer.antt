-- A core's items, and one more.
use mathlib.Core.List.{IsPrefix}
use Rattle.std.proofs.Common.{◌≡◌, cond, Bool, Option, true, ◌||◌, Some, None, List, [], ◌∷◌, ◌++◌, length, refl, ◌∙◌, arith, append-nil, ◌+◌}
use Rattle.std.specs.List.{slice_get}
use Rattle.osbase.specs.{declared.references.CoreId.CoreId, declared.items.Item.Item, declared.items.Stimulus.Stimulus, declared.histories.Course.Course, declared.turns.CoreStimuli.CoreStimuli, History.History, History.course_of, Phases.is_going, Runs.stimuli_of}
use Rattle.osplan.specs.{declared.plans.Plan.Plan, View.View, View.view_of}
use Rattle.oskernel.specs.Step.{after, history_from, solo_from, takes, outbox_size}
use Rattle.osrun.specs.CoreRuns.{stimulus_count}
use Rattle.osrun.specs.Fits.{has_drained, is_drain, stimuli_in, FitsCore, history_by}
use Rattle.std.proofs.lemmas.Option.{slice_get_past}
use Rattle.osrun.proofs.{Beginnings.begins-next, Beginnings.begins-whole, Going.going-before}

-- The history after one more item.
pub history_from-push : (v : View) (h : History) (items : List Item) (item : Item) → history_from v h (items ++ item ∷ []) ≡ after v (history_from v h items) item
history_from-push v h [] item = refl
history_from-push v h (i ∷ items) item = history_from-push v (after v h i) items item

-- The stimuli among the items, with one more item.
stimuli_in-push : (items : List Item) (item : Item) → stimuli_in (items ++ item ∷ []) ≡ stimuli_in items ++ stimuli_in (item ∷ [])
stimuli_in-push [] item = refl
stimuli_in-push (i ∷ items) item = grind (arith, stimuli_in-push items item)

pub length-stimuli_in : (items : List Item) → length (stimuli_in items) ≡ stimulus_count items
length-stimuli_in [] = refl
length-stimuli_in (i ∷ items) = grind (arith, length-stimuli_in items)

has_drained-push : (items : List Item) (item : Item) → has_drained (items ++ item ∷ []) ≡ (has_drained items || is_drain item)
has_drained-push [] item = grind arith
has_drained-push (i ∷ items) item = grind (arith, has_drained-push items item)

pub stimulus_count-push : (items : List Item) (item : Item) → stimulus_count (items ++ item ∷ []) ≡ stimulus_count items + stimulus_count (item ∷ [])
stimulus_count-push [] item = omega arith
stimulus_count-push (i ∷ items) item = grind (arith, stimulus_count-push items item)

-- If all items may be taken in turn, the first of them may be taken.
some-if : {A : Type 0} (b : Bool) (o : Option A) (x : A) → cond b o None ≡ Some x → b ≡ true
some-if b o x e = grind arith

pub solo-takes : (v : View) (h : History) (i : Item) (is : List Item) → solo_from v h (i ∷ is) ≡ Some (history_from v h (i ∷ is)) → takes outbox_size v h i ≡ true
solo-takes v h i is each = some-if (takes outbox_size v h i) (solo_from v (after v h i) is) _ each

pub solo-push : (v : View) (h : History) (items : List Item) (item : Item) → solo_from v h items ≡ Some (history_from v h items) → takes outbox_size v (history_from v h items) item ≡ true → solo_from v h (items ++ item ∷ []) ≡ Some (after v (history_from v h items) item)
solo-push v h [] item so_far taken = rw taken refl
solo-push v h (i ∷ items) item so_far taken =
    let takes_first = solo-takes v h i items so_far in
    rw takes_first (solo-push v (after v h i) items item (rw takes_first at so_far) taken)

-- What an item says of its core's stimuli: a stimulus is the next one, and draining says that none is left, unless the
-- core is down or halted.
abbrev pub IsInTurn : List Stimulus → Course → List Item → Item → Type 0
IsInTurn listed course past (Item.Stim s) = slice_get listed (length (stimuli_in past)) ≡ Some s
IsInTurn listed course past Item.Drained = is_going course ≡ true → slice_get listed (length (stimuli_in past)) ≡ None
IsInTurn listed course past item = Unit {0}

-- A core's items, and one more that is in turn.
module _ (plan : Plan) (stimuli : List CoreStimuli) (core : CoreId) (past : List Item) (fits : FitsCore plan stimuli core past) where
  abbrev listed : List Stimulus
  listed = stimuli_of stimuli core

  abbrev course : Course
  course = course_of (history_by plan core past)

  begins_on : (item : Item) → IsInTurn listed course past item → IsPrefix (stimuli_in past ++ stimuli_in (item ∷ [])) listed
  begins_on (Item.Stim s) next = begins-next (stimuli_in past) listed s fits.begins next
  begins_on item next = rw append-nil fits.begins

  drains_on : (item : Item) → IsInTurn listed course past item → (has_drained past || is_drain item) ≡ true → is_going course ≡ true → stimuli_in past ++ stimuli_in (item ∷ []) ≡ listed
  drains_on (Item.Stim s) next drained going = absurd (grind (arith, next, fits.drains, slice_get_past listed (length listed)))
  drains_on Item.Drained next drained going = append-nil (stimuli_in past) ∙ begins-whole (stimuli_in past) listed fits.begins (next going)
  drains_on item next drained going = append-nil (stimuli_in past) ∙ grind (arith, fits.drains)

  pub core-on : (item : Item) → IsInTurn listed course past item → takes outbox_size (view_of plan core) (history_by plan core past) item ≡ true → FitsCore plan stimuli core (past ++ item ∷ [])
  core-on item next taken = record {
    alone = rw history_from-push (solo-push (view_of plan core) [] past item fits.alone taken);
    begins = rw stimuli_in-push (begins_on item next);
    drains = λ drained going. rw stimuli_in-push (drains_on item next (rw has_drained-push at drained) (going-before (view_of plan core) (history_by plan core past) item (rw history_from-push at going)));
  }
