-- The spinlocks that a core has.
use Rattle.std.proofs.Common.{◌≡◌, ◌≢◌, ◌⊎◌, ◌&&◌, ◌||◌, Bool, true, false, not, cond, Option, Some, None, unwrap_or, List, [], ◌∷◌, map, refl, ap, sym, subst, ◌∙◌, arith}
use Rattle.std.specs.{Option.option_map_or}
use Rattle.std.proofs.{lemmas.Bool.and_parts, lemmas.Bool.cond_both, lemmas.Bool.eqb-true, lemmas.Bool.false≢true, lemmas.Bool.Decides.nat_tests, lemmas.Option.none-some}
use Rattle.osbase.specs.{declared.items.Item.Item, declared.marks.Mark.Mark, declared.references.Runner.Runner, declared.references.SpinlockId.SpinlockId, declared.histories.GotSpinlock.GotSpinlock, declared.histories.OpenCall.OpenCall}
use Rattle.osbase.specs.History.{History, Note, Noted, Printed, Took, WentDown, open_call}
use Rattle.osbase.specs.Spins.{got_spinlocks, has_spinlock, is_got_by, owed, same_spinlock, with_spinlock, without_spinlock}
use Rattle.osplan.specs.View.{View}
use Rattle.osstate.specs.State.{state_of}
use Rattle.osadmit.specs.Admission.{admits, is_get_of, is_try_of}
use Rattle.oskernel.specs.Step.{after, outbox_size, solo_from, takes}
use Rattle.oskernel.proofs.Holding.{kept_after}
use Rattle.oslaws.specs.Spinlocks.{is_granted, is_one_of, one_more, unfreed}
use Rattle.oslaws.proofs.Once.{Apart, Keyed, apart-map, apart-without, in-map, in-without, outside, outside-map, outside-none, outside-without}

pub by-number : (a b : SpinlockId) → same_spinlock a b ≡ true → a ≡ b
by-number a b same = λ i. record { index = eqb-true a.index b.index same i }

pub spin-tells : (a b : SpinlockId) → ((same_spinlock a b ≡ true) × (a ≡ b)) ⊎ ((same_spinlock a b ≡ false) × (a ≢ b))
spin-tells a b = grind (arith, nat_tests, by-number a b)

abbrev pub spins : Keyed GotSpinlock SpinlockId
spins = record { key = λ g. g.lock; same = same_spinlock; tells = spin-tells; without = without_spinlock; without_none = λ l. refl; without_front = λ l g got. refl }

-- A core has exactly the spinlocks that were granted, each once, in the order in which they were granted.
pub record Has (got : List GotSpinlock) (granted : SpinlockId → Bool) (order : List SpinlockId → List SpinlockId) : Type 0 where
  pub apart : Apart spins got
  pub each : (l : SpinlockId) → has_spinlock l got ≡ granted l
  pub ordered : (freed : List SpinlockId) → outside spins freed got ≡ order freed

abbrev pub Right : History → Type 0
Right h = Has (got_spinlocks h) (λ (l : SpinlockId). is_granted l h) (λ (freed : List SpinlockId). unfreed freed h)

module _ {got : List GotSpinlock} {granted : SpinlockId → Bool} {order : List SpinlockId → List SpinlockId} (has : Has got granted order) where
  -- who has them makes no difference
  owed-has : (f : GotSpinlock → GotSpinlock) → ((g : GotSpinlock) → (f g).lock ≡ g.lock) → Has (map f got) granted order
  owed-has f keeps = record {
    apart = apart-map spins f keeps got has.apart;
    each = λ l. in-map spins f keeps l got ∙ has.each l;
    ordered = λ freed. outside-map spins f keeps freed got ∙ has.ordered freed;
  }

  ended-has : (r : Runner) → Has (map (λ (g : GotSpinlock). cond (is_got_by r g) (owed g) g) got) granted order
  ended-has r = owed-has (λ (g : GotSpinlock). cond (is_got_by r g) (owed g) g) (λ g. cond_both (is_got_by r g) (owed g) g (λ (x : GotSpinlock). x.lock ≡ g.lock) (λ its. refl) (λ other. refl))

  freed-has : (k : SpinlockId) → Has (without_spinlock k got) (λ (l : SpinlockId). not (same_spinlock k l) && granted l) (λ (freed : List SpinlockId). order (k ∷ freed))
  freed-has k = record {
    apart = apart-without spins k got has.apart;
    each = λ l. in-without spins k l got has.apart ∙ ap (λ (b : Bool). not (same_spinlock k l) && b) (has.each l);
    ordered = λ freed. outside-without spins k freed got has.apart ∙ has.ordered (k ∷ freed);
  }

  granted-has : (k : SpinlockId) (call : OpenCall)
      → Has (with_spinlock k (Some call) got) (λ (l : SpinlockId). same_spinlock k l || granted l) (λ (freed : List SpinlockId). one_more (is_one_of k freed || granted k) k (order freed))
  granted-has k call = record {
    apart = grind (arith, has.apart);
    each = λ l. grind (arith, spin-tells k l, has.each k, has.each l);
    ordered = λ freed. grind (arith, has.each k, has.ordered freed);
  }

  -- a grant adds the spinlock by the call that awaits it
  called-has : (awaits : OpenCall → Bool) (k : SpinlockId) (calling : Option OpenCall) → option_map_or awaits calling false ≡ true
      → Has (with_spinlock k calling got) (λ (l : SpinlockId). same_spinlock k l || granted l) (λ (freed : List SpinlockId). one_more (is_one_of k freed || granted k) k (order freed))
  called-has awaits k None is = absurd (false≢true is)
  called-has awaits k (Some call) is = granted-has k call

-- ---- in each history

pub printed : (m : Mark) (h : History) → Right h → Right (Printed m ∷ h)
printed (Mark.Terminated t) h right = ended-has right (Runner.Task t)
printed (Mark.IsrLeft i) h right = ended-has right (Runner.Isr i)
printed m h right = right

pub noted : (n : Note) (h : History) → Right h → Right (Noted n ∷ h)
noted WentDown h right = owed-has right owed (λ g. refl)
noted n h right = right

pub took : (v : View) (h : History) (i : Item) → admits outbox_size (state_of v h) i ≡ true → Right h → Right (Took i ∷ h)
took v h (Item.Granted k) may right = called-has right (λ (call : OpenCall). is_get_of k call.awaits) k (open_call h) (and_parts _ _ may).1
took v h (Item.Tried k true) may right = called-has right (λ (call : OpenCall). is_try_of k call.awaits) k (open_call h) (and_parts _ _ may).1
took v h (Item.Freed k) may right = freed-has right k
took v h (Item.Halt core status) may right = owed-has right owed (λ g. refl)
took v h i may right = right

-- Items that may be taken in turn keep a property that each entry keeps.
pub always : (P : History → Type 0) → ((m : Mark) (h : History) → P h → P (Printed m ∷ h)) → ((n : Note) (h : History) → P h → P (Noted n ∷ h)) → (v : View)
    → ((h : History) (i : Item) → admits outbox_size (state_of v h) i ≡ true → P h → P (Took i ∷ h)) → (items : List Item) (h next : History) → solo_from v h items ≡ Some next → P h → P next
always P marks notes v takes_item [] h next is p = subst P (ap (λ (o : Option History). unwrap_or o h) is) p
always P marks notes v takes_item (i ∷ items) h next is p =
    cond_both (takes outbox_size v h i) (solo_from v (after v h i) items) None (λ (o : Option History). o ≡ Some next → P next)
    (λ may rest. always P marks notes v takes_item items (after v h i) next rest (kept_after P marks notes v h i (takes_item h i (and_parts _ (admits outbox_size (state_of v h) i) may).1 p))) (λ no rest. absurd (none-some _ rest)) is

pub right-first : Right []
right-first = record { apart = tt; each = λ l. refl; ordered = λ freed. refl }

pub locks-unfreed : (h : History) → Right h → map (λ (g : GotSpinlock). g.lock) (got_spinlocks h) ≡ unfreed [] h
locks-unfreed h right = sym (outside-none spins (got_spinlocks h)) ∙ right.ordered []
