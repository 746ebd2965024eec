-- The spinlocks that a core has: those that it was granted and that were not freed since.
use Rattle.std.specs.Prelude.{◌≡◌, ◌&&◌, ◌||◌, Bool, true, false, not, if◌then◌else◌, List, [], ◌∷◌, map}
use Rattle.std.specs.List.{list_any}
use Rattle.osbase.specs.{declared.items.Item.Item, declared.references.SpinlockId.SpinlockId, declared.histories.GotSpinlock.GotSpinlock, History.History, History.Took, Spins.got_spinlocks, Spins.has_spinlock, Spins.same_spinlock}

-- Of the items that grant the spinlock or free it, the newest grants it. A try without success does neither.
-- [AUTOSAR SWS OS 4.x, GetSpinlock, TryToGetSpinlock and ReleaseSpinlock]
abbrev pub is_granted : SpinlockId → History → Bool
is_granted l [] = false
is_granted l (Took (Item.Granted k) ∷ h) = same_spinlock k l || is_granted l h
is_granted l (Took (Item.Tried k true) ∷ h) = same_spinlock k l || is_granted l h
is_granted l (Took (Item.Freed k) ∷ h) = not (same_spinlock k l) && is_granted l h
is_granted l (e ∷ h) = is_granted l h

-- The spinlock is one of these.
abbrev pub is_one_of : SpinlockId → List SpinlockId → Bool
is_one_of l locks = list_any (λ (k : SpinlockId). same_spinlock l k) locks

-- The list with one more granted spinlock, unless the grant counts for nothing.
abbrev pub one_more : Bool → SpinlockId → List SpinlockId → List SpinlockId
one_more is_void l locks = if is_void then locks else l ∷ locks

-- The spinlocks that an item granted and no later one freed, the newest first. The entries are read from the newest
-- back. `freed` has the spinlocks that newer items free. A grant of a spinlock that the core has already counts for
-- nothing.
-- [AUTOSAR SWS OS 4.x, GetSpinlock, TryToGetSpinlock and ReleaseSpinlock]
abbrev pub unfreed : List SpinlockId → History → List SpinlockId
unfreed freed [] = []
unfreed freed (Took (Item.Granted l) ∷ h) = one_more (is_one_of l freed || is_granted l h) l (unfreed freed h)
unfreed freed (Took (Item.Tried l true) ∷ h) = one_more (is_one_of l freed || is_granted l h) l (unfreed freed h)
unfreed freed (Took (Item.Freed l) ∷ h) = unfreed (l ∷ freed) h
unfreed freed (e ∷ h) = unfreed freed h

-- The core has the spinlocks that an item granted and no later one freed, the newest first, whichever jobs requested
-- them. So it has a spinlock exactly if `is_granted` says so.
-- [AUTOSAR SWS OS 4.x, GetSpinlock, TryToGetSpinlock and ReleaseSpinlock]
pub record HasWhatWasGranted (h : History) : Type 0 where
  pub locks : map (λ (g : GotSpinlock). g.lock) (got_spinlocks h) ≡ unfreed [] h
  pub each : (l : SpinlockId) → has_spinlock l (got_spinlocks h) ≡ is_granted l h
