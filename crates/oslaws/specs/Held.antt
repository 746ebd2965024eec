-- What a job holds: what it took and did not release.
use Rattle.std.specs.Prelude.{◌≡◌, ℕ, ◌==◌, Bool, if◌then◌else◌, List, [], ◌∷◌}
use Rattle.std.specs.List.{list_any}
use Rattle.osbase.specs.{declared.references.Runner.Runner, declared.histories.HeldResource.HeldResource}
use Rattle.osbase.specs.History.{History, Noted, ResourceOccupied, ResourceReleased, same_runner}
use Rattle.oscript.specs.{declared.Op.Op, Runners.row_of}
use Rattle.oslaws.specs.Jobs.{since_end}

-- Whether the number is in the list.
abbrev pub is_among : ℕ → List ℕ → Bool
is_among n numbers = list_any (λ (m : ℕ). n == m) numbers

-- The list without the first occurrence of the number.
abbrev pub without_one : ℕ → List ℕ → List ℕ
without_one n [] = []
without_one n (m ∷ numbers) = if n == m then numbers else m ∷ without_one n numbers

-- The resources that the runner took and no later release gave back, the newest first. The entries are read from the
-- newest back. `released` has the numbers of resources that newer entries release: each cancels the next older taking
-- of its resource. [OSEK/VDX OS 2.2.3, section 8.2]
abbrev pub unreleased : Runner → List ℕ → History → List HeldResource
unreleased r released [] = []
unreleased r released (Noted (ResourceReleased q n) ∷ h) = unreleased r (if same_runner q r then n ∷ released else released) h
unreleased r released (Noted (ResourceOccupied q x) ∷ h) =
    if same_runner q r
    then (if is_among x.index released then unreleased r (without_one x.index released) h else x ∷ unreleased r released h)
    else unreleased r released h
unreleased r released (e ∷ h) = unreleased r released h

-- The oldest job of the runner holds what the runner took, and did not release, since its last job ended. This holds
-- whatever the runner's script is.
-- [OSEK/VDX OS 2.2.3, section 8.2; AUTOSAR SWS OS 4.x, SWS_Os_00070, that an end gives all back]
pub record HoldsWhatItTook (r : Runner) (h : History) : Type 0 where
  pub held : (script : List Op) → (row_of script r h).held ≡ unreleased r [] (since_end r h)
