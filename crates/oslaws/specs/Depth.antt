-- How often a job has suspended interrupts: the suspensions without the resumptions.
use Rattle.std.specs.Prelude.{◌≡◌, ◌≤◌, ◌+◌, ◌&&◌, nat_le, Bool, true, false, IsTrue, [], ◌∷◌, List}
use Rattle.osbase.specs.declared.references.Runner.{Runner}
use Rattle.osbase.specs.History.{History, Entry, Noted, InterruptsSuspended, InterruptsResumed, same_runner}
use Rattle.oscript.specs.{declared.Op.Op, Runners.row_of}
use Rattle.oslaws.specs.Jobs.{how_many, since_end}

-- The entry suspends interrupts for a job of the runner.
abbrev pub suspends : Runner → Entry → Bool
suspends r (Noted (InterruptsSuspended q)) = same_runner q r
suspends r e = false

-- The entry resumes interrupts for a job of the runner.
abbrev pub resumes : Runner → Entry → Bool
resumes r (Noted (InterruptsResumed q)) = same_runner q r
resumes r e = false

-- Among these entries, the runner has at least as many suspensions as resumptions, and at most 255 more.
abbrev pub are_balanced : Runner → History → Bool
are_balanced r h =
    let suspended = how_many (suspends r) h in
    let resumed = how_many (resumes r) h in
    nat_le resumed suspended && nat_le suspended (resumed + 255)

-- After each of these entries, the runner had at least as many suspensions as resumptions so far, and at most 255 more.
abbrev pub were_balanced : Runner → History → Bool
were_balanced r [] = true
were_balanced r (e ∷ h) = are_balanced r (e ∷ h) && were_balanced r h

-- The depth says how often a job has interrupts suspended. If the entries since the runner's last job ended pass
-- `were_balanced`, the depth of its oldest job is the suspensions among them less the resumptions. In any case the
-- depth is 255 at most. All this holds whatever the runner's script is.
-- [OSEK/VDX OS 2.2.3, section 13.3.2.3 and 13.3.2.4; the most: own]
pub record CountsSuspensions (r : Runner) (h : History) : Type 0 where
  pub count : IsTrue (were_balanced r (since_end r h)) → (script : List Op)
      → (row_of script r h).depth + how_many (resumes r) (since_end r h) ≡ how_many (suspends r) (since_end r h)
  pub most : (script : List Op) → (row_of script r h).depth ≤ 255
