-- What a task waits for.
use Rattle.std.specs.Prelude.{◌≡◌, ℕ, if◌then◌else◌, Option, Some, None, unwrap_or, List, [], ◌∷◌}
use Rattle.osbase.specs.{declared.references.TaskRef.TaskRef, declared.references.Runner.Runner, declared.marks.Mark.Mark}
use Rattle.osbase.specs.History.{History, Entry, Printed, same_task}
use Rattle.oscript.specs.{declared.Op.Op, Runners.row_of}

-- What an entry says of the task's wait: that it waits for these events now, that it waits for none, or nothing.
-- [OSEK/VDX OS 2.2.3, section 13.5.3.4, WaitEvent; section 4.2.1, for the release]
abbrev pub wait_by : TaskRef → Entry → Option (Option ℕ)
wait_by t (Printed (Mark.EventAwaited u mask)) = if same_task u t then Some (Some mask) else None
wait_by t (Printed (Mark.Released u)) = if same_task u t then Some None else None
wait_by t e = None

-- The task's wait by the newest entry that says anything of it. At first a task does not wait.
abbrev pub last_wait : TaskRef → History → Option ℕ
last_wait t [] = None
last_wait t (e ∷ h) = unwrap_or (wait_by t e) (last_wait t h)

-- A task waits for the events that it named when it last began to wait, unless it was released since. This holds
-- whatever the task's script is.
-- [OSEK/VDX OS 2.2.3, section 4.2.1 and 13.5.3.4]
pub record WaitsAsLastSaid (t : TaskRef) (h : History) : Type 0 where
  pub awaited : (script : List Op) → (row_of script (Runner.Task t) h).events.awaited ≡ last_wait t h
