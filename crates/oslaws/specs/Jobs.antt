-- What a runner's job has done: the entries since the last job of that runner ended.
use Rattle.std.specs.Prelude.{ℕ, suc, Bool, false, if◌then◌else◌, [], ◌∷◌}
use Rattle.osbase.specs.{declared.marks.Mark.Mark, declared.references.Runner.Runner}
use Rattle.osbase.specs.History.{History, Entry, Printed, same_runner}

-- The entry ends a job of the runner: a task's job by its termination, an ISR's by its return.
-- [OSEK/VDX OS 2.2.3, section 4.3 and 6]
abbrev pub ends_job : Runner → Entry → Bool
ends_job r (Printed (Mark.Terminated t)) = same_runner (Runner.Task t) r
ends_job r (Printed (Mark.IsrLeft i)) = same_runner (Runner.Isr i) r
ends_job r e = false

-- The entries since the last end of one of the runner's jobs, the newest first.
abbrev pub since_end : Runner → History → History
since_end r [] = []
since_end r (e ∷ h) = if ends_job r e then [] else e ∷ since_end r h

-- How many of the entries pass a test.
abbrev pub how_many : (Entry → Bool) → History → ℕ
how_many test [] = 0
how_many test (e ∷ h) = if test e then suc (how_many test h) else how_many test h
