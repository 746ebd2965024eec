-- The spinlocks that a core got by its history are those that it holds by its calls.
use Rattle.std.proofs.Common.{◌≡◌, ◌==◌, ◌<◌, ◌++◌, Bool, true, false, if◌then◌else◌, Option, Some, List, [], ◌∷◌, inl, inr, refl, sym, ap, ◌∙◌, arith}
use Rattle.osbase.specs.{declared.references.SpinlockId.SpinlockId, declared.references.Runner.Runner, declared.items.Item.Item, declared.marks.Mark.Mark, declared.histories.GotSpinlock.GotSpinlock, declared.histories.OpenCall.OpenCall, declared.limits.TheConstants.SPINLOCKS}
use Rattle.osbase.specs.History.{Entry, History, Note, Noted, Printed, Took, open_call}
use Rattle.osbase.specs.Spins.{all_owed, got_spinlocks, has_spinlock, owed_by, same_spinlock, spins_after, without_spinlock}
use Rattle.osplan.specs.View.{View}
use Rattle.osstate.specs.State.{state_of}
use Rattle.osadmit.specs.Admission.{admits}
use Rattle.oskernel.specs.Step.{after, history_from, outbox_size, solo, solo_from}
use Rattle.oskernel.proofs.{Holding.quiet_after, Stages.solo-parts}
use Rattle.osshared.specs.Histories.{IsLegal, Thinned, calls_by, state_after}
use Rattle.osspin.specs.Holding.{holds_after, holds_by}
use Rattle.osspin.specs.Spins.{IsRefusedCall, SpinEntry, holder_of, is_held_by, no_holders, spinlocks}
use Rattle.osspin.proofs.Held.{held-by}
use Rattle.osrun.specs.{Requests.Calls, Requests.call_of_item, Fits.AreAnswered}
use Rattle.osrun.proofs.Called.{called-for}

module _ (l : SpinlockId) where
  abbrev has : List GotSpinlock → Bool
  has got = has_spinlock l got

  -- This spinlock is in the list at most once.
  abbrev IsOnce : List GotSpinlock → Type 0
  IsOnce got = has (without_spinlock l got) ≡ false

  -- ---- whose job has a spinlock makes no difference

  has-owed : (got : List GotSpinlock) → has (all_owed got) ≡ has got
  has-owed [] = refl
  has-owed (g ∷ got) = grind (arith, has-owed got)

  once-owed : (got : List GotSpinlock) → IsOnce got → IsOnce (all_owed got)
  once-owed [] once = refl
  once-owed (g ∷ got) once = grind (arith, once-owed got, has-owed got)

  has-owed_by : (r : Runner) (got : List GotSpinlock) → has (owed_by r got) ≡ has got
  has-owed_by r [] = refl
  has-owed_by r (g ∷ got) = grind (arith, has-owed_by r got)

  once-owed_by : (r : Runner) (got : List GotSpinlock) → IsOnce got → IsOnce (owed_by r got)
  once-owed_by r [] once = refl
  once-owed_by r (g ∷ got) once = grind (arith, once-owed_by r got, has-owed_by r got)

  -- ---- one more, and one less

  less : (k : SpinlockId) (got : List GotSpinlock) → has got ≡ false → has (without_spinlock k got) ≡ false
  less k [] none = refl
  less k (g ∷ got) none = grind (arith, less k got)

  once-without : (k : SpinlockId) (got : List GotSpinlock) → IsOnce got → IsOnce (without_spinlock k got)
  once-without k [] once = refl
  once-without k (g ∷ got) once = grind (arith, once-without k got, less k got, less l got)

  freed-by : (k : SpinlockId) (got : List GotSpinlock) → IsOnce got → has (without_spinlock k got) ≡ (if same_spinlock k l then false else has got)
  freed-by k [] once = grind arith
  freed-by k (g ∷ got) once = grind (arith, freed-by k got)

  -- ---- in each history

  step-once : (e : Entry) (calling : Option OpenCall) (got : List GotSpinlock) → IsOnce got → IsOnce (spins_after e calling got)
  step-once e calling got once = grind (arith, once, once-without, once-owed, once-owed_by)

  all-once : (h : History) → IsOnce (got_spinlocks h)
  all-once [] = refl
  all-once (e ∷ h) = step-once e (open_call h) (got_spinlocks h) (all-once h)

  printed-same : (m : Mark) (h : History) → has (got_spinlocks (Printed m ∷ h)) ≡ has (got_spinlocks h)
  printed-same m h = grind (arith, has-owed_by)

  noted-same : (n : Note) (h : History) → has (got_spinlocks (Noted n ∷ h)) ≡ has (got_spinlocks h)
  noted-same n h = grind (arith, has-owed)

  -- ---- an item, and its call

  calls-append : (xs ys : List SpinEntry) (b : Bool) → holds_by l (xs ++ ys) b ≡ holds_by l ys (holds_by l xs b)
  calls-append [] ys b = refl
  calls-append (x ∷ xs) ys b = calls-append xs ys (if x.call.lock.index == l.index then holds_after x.call.action x.reply b else b)

  module _ (v : View) where
    item-calls : (h : History) (i : Item) → admits outbox_size (state_of v h) i ≡ true → has (got_spinlocks (Took i ∷ h)) ≡ holds_by l (call_of_item v.core i) (has (got_spinlocks h))
    item-calls h i may = grind (arith, may, has-owed, freed-by, all-once h)

    got-calls : (h : History) (items : List Item) (calls : Calls) → solo_from v h items ≡ Some (history_from v h items) → AreAnswered v h items calls
        → has (got_spinlocks (history_from v h items)) ≡ holds_by l calls.spins (has (got_spinlocks h))
    got-calls h [] calls each none = rw none refl
    got-calls h (i ∷ is) calls each answers =
        let parts = solo-parts v h i is each in
        rw (answers.4, calls-append, called-for v.core _ answers.0 answers.1 i answers.2.names)
        (got-calls (after v h i) is answers.3 parts.1 answers.5
        ∙ ap (holds_by l answers.3.spins) (quiet_after (λ (k : History). has (got_spinlocks k)) printed-same noted-same v h i ∙ item-calls h i parts.0))

  -- ---- refused calls change nothing

  thin-holds : (xs ys : List SpinEntry) → Thinned IsRefusedCall xs ys → (b : Bool) → holds_by l xs b ≡ holds_by l ys b
  thin-holds [] ys none b = grind arith
  thin-holds (x ∷ xs) ys (inl stays) b = rw stays.1 (thin-holds xs stays.0 stays.2 _)
  thin-holds (x ∷ xs) ys (inr goes) b = grind (arith, goes.0, thin-holds xs ys goes.1)

  pub held-got : l.index < SPINLOCKS → (v : View) (items : List Item) (calls : Calls) → solo v items ≡ Some (history_from v [] items) → AreAnswered v [] items calls
      → (all : List SpinEntry) → IsLegal spinlocks tt all → Thinned IsRefusedCall (calls_by v.core all) calls.spins
      → is_held_by v.core (holder_of (state_after spinlocks no_holders all) l) ≡ has_spinlock l (got_spinlocks (history_from v [] items))
  held-got known v items calls each answers all legal thin =
      held-by v.core l known all legal ∙ thin-holds (calls_by v.core all) calls.spins thin false ∙ sym (got-calls v [] items calls each answers)
