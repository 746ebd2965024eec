-- What a task waits for.
use Rattle.std.proofs.Common.{◌≡◌, List, [], ◌∷◌, refl, arith}
use Rattle.osbase.specs.{declared.references.TaskRef.TaskRef, declared.references.Runner.Runner, History.History}
use Rattle.oscript.specs.{declared.Op.Op, Runners.row_of}
use Rattle.oslaws.specs.Waits.{last_wait}

pub last-waited : (script : List Op) (t : TaskRef) (h : History) → (row_of script (Runner.Task t) h).events.awaited ≡ last_wait t h
last-waited script t [] = refl
last-waited script t (e ∷ h) = grind (arith, last-waited script t h)
