-- Whether a job holds a resource, by the newest entry that takes or releases it.
use Rattle.std.specs.Prelude.{◌≡◌, ℕ, ◌==◌, ◌&&◌, ◌||◌, Bool, true, false, not, IsTrue, List, [], ◌∷◌}
use Rattle.osbase.specs.declared.references.Runner.{Runner}
use Rattle.osbase.specs.History.{History, Entry, Noted, ResourceOccupied, ResourceReleased, is_held, same_runner}
use Rattle.oscript.specs.{declared.Op.Op, Runners.row_of}
use Rattle.oslaws.specs.Jobs.{ends_job}

-- Of the entries by which a job of the runner takes the resource of this number, releases it, or ends, the newest takes
-- it.
-- [OSEK/VDX OS 2.2.3, section 8.2; AUTOSAR SWS OS 4.x, SWS_Os_00070, for the end]
abbrev pub is_taken : Runner → ℕ → History → Bool
is_taken r n [] = false
is_taken r n (Noted (ResourceOccupied q x) ∷ h) = (same_runner q r && (x.index == n)) || is_taken r n h
is_taken r n (Noted (ResourceReleased q k) ∷ h) = not (same_runner q r && (k == n)) && is_taken r n h
is_taken r n (e ∷ h) = not (ends_job r e) && is_taken r n h

-- The entry takes a resource that a job of the runner has taken already. GetResource refuses that with E_OS_ACCESS.
-- [OSEK/VDX OS 2.2.3, section 13.4.3.1]
abbrev pub takes_again : Runner → Entry → History → Bool
takes_again r (Noted (ResourceOccupied q x)) h = same_runner q r && is_taken r x.index h
takes_again r e h = false

-- No entry takes a resource that a job of the runner has taken already.
abbrev pub takes_none_again : Runner → History → Bool
takes_none_again r [] = true
takes_none_again r (e ∷ h) = not (takes_again r e h) && takes_none_again r h

-- If the runner's jobs never take a resource that one of them has taken already, the oldest job holds a resource
-- exactly if `is_taken` says so. This holds whatever the runner's script is.
-- [OSEK/VDX OS 2.2.3, section 8.2]
pub record HoldsByLastWord (r : Runner) (h : History) : Type 0 where
  pub held : IsTrue (takes_none_again r h) → (script : List Op) (n : ℕ) → is_held n (row_of script r h).held ≡ is_taken r n h
