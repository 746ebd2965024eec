-- Which runner's job has a spinlock, or whether its release is owed.
use Rattle.std.specs.Prelude.{◌≡◌, ◌&&◌, Bool, true, false, not, if◌then◌else◌, Option, None, option_map, [], ◌∷◌, map}
use Rattle.std.specs.{List.list_any, Option.option_map_or}
use Rattle.osbase.specs.{declared.items.Item.Item, declared.references.Runner.Runner, declared.references.SpinlockId.SpinlockId, declared.histories.OpenCall.OpenCall, Spins.got_spinlocks, Spins.same_spinlock}
use Rattle.osbase.specs.History.{Entry, History, Noted, Took, WentDown, open_call}
use Rattle.oslaws.specs.{Jobs.ends_job, Spinlocks.is_granted, Spinlocks.unfreed}

-- The entry, after this history, grants the core the spinlock, which it does not have yet.
abbrev pub grants : SpinlockId → Entry → History → Bool
grants l (Took (Item.Granted k)) h = same_spinlock k l && not (is_granted l h)
grants l (Took (Item.Tried k true)) h = same_spinlock k l && not (is_granted l h)
grants l e h = false

-- The runner whose call was open when the core was granted the spinlock last.
-- [AUTOSAR SWS OS 4.x, GetSpinlock and TryToGetSpinlock]
abbrev pub granted_to : SpinlockId → History → Option Runner
granted_to l [] = None
granted_to l (e ∷ h) = if grants l e h then option_map (λ (call : OpenCall). call.runner) (open_call h) else granted_to l h

-- The entries since the core was granted the spinlock last.
abbrev pub since_grant : SpinlockId → History → History
since_grant l [] = []
since_grant l (e ∷ h) = if grants l e h then [] else e ∷ since_grant l h

-- The entry makes releases owed: a job of `asker`, if there is one, ends, or the core goes down or is halted. [own]
abbrev pub makes_owed : Option Runner → Entry → Bool
makes_owed asker (Took (Item.Halt core status)) = true
makes_owed asker (Noted WentDown) = true
makes_owed asker e = option_map_or (λ (r : Runner). ends_job r e) asker false

-- The runner whose job has the spinlock: the one that was granted it, unless the release became owed since.
abbrev pub holder_by : SpinlockId → History → Option Runner
holder_by l h = if list_any (makes_owed (granted_to l h)) (since_grant l h) then None else granted_to l h

-- The core has the spinlocks that an item granted and no later one freed, the newest first, each with this holder.
-- [AUTOSAR SWS OS 4.x, GetSpinlock, TryToGetSpinlock and ReleaseSpinlock; that a release is owed: own]
pub record HaveTheirHolders (h : History) : Type 0 where
  pub spins : got_spinlocks h ≡ map (λ (l : SpinlockId). record { lock = l; holder = holder_by l h }) (unfreed [] h)
