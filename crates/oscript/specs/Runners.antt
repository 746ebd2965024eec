-- The row of a runner of a core, which is a task or an ISR: the runner's state after a history.
--
-- Only the oldest of a runner's live jobs has begun or holds anything, so a runner has one row. A new reading of a
-- runner is one more field, and a line for each entry that changes it.
use Rattle.std.specs.Prelude.{ℕ, suc, if◌then◌else◌, Option, Some, None, List, [], ◌∷◌, map, replicate, slice_set}
use Rattle.osbase.specs.{declared.limits.TheConstants.RESOURCES, declared.references.Runner.Runner, declared.histories.HeldResource.HeldResource, declared.histories.TaskEvents.TaskEvents, declared.marks.Mark.Mark}
use Rattle.osbase.specs.History.{History, Entry, Printed, Noted, ResourceOccupied, ResourceReleased, InterruptsSuspended, InterruptsResumed, Done, no_events, same_runner, with_awaited, with_cleared, with_none_set, with_set, without_resource}
use Rattle.osbase.specs.Interrupts.{deeper, running_job, runner_of_job, shallower}
use Rattle.oscript.specs.{declared.Op.Op, declared.Frame.Frame, Frames.completed, Frames.new_frame, Frames.rewound}

-- The resources that the runner's oldest live job holds, the newest first; the events of its task; the place of that
-- job in its script, or of the next job; how often that job has suspended interrupts; how many ticks of its execution
-- budget it has used; and, for each resource, at how many ticks a job of the runner was running since a job of the
-- runner last took the resource. [OSEK/VDX OS 2.2.3, section 7, 8 and 13.3; AUTOSAR SWS OS 4.x, section 7.7.2, for the
-- budget; the place in a script, that budgets are counted in ticks and that a lock budget is a resource's are this
-- project's own]
pub record Row : Type 0 where
  pub held : List HeldResource
  pub events : TaskEvents
  pub frame : Frame
  pub depth : ℕ
  pub used : ℕ
  pub lock_used : List ℕ

-- The row of a runner before its first job: it holds nothing, has no event, is at operation 0, and has suspended and
-- used nothing.
abbrev pub first_row : Row
first_row = record { held = []; events = no_events; frame = new_frame; depth = 0; used = 0; lock_used = replicate RESOURCES 0 }

-- The runner whose row an entry changes, if it changes one. A tick changes the row of the runner whose job is running.
abbrev pub runner_of : Option Runner → Entry → Option Runner
runner_of running (Noted (ResourceOccupied r x)) = Some r
runner_of running (Noted (ResourceReleased r index)) = Some r
runner_of running (Noted (InterruptsSuspended r)) = Some r
runner_of running (Noted (InterruptsResumed r)) = Some r
runner_of running (Noted (Done r status value)) = Some r
runner_of running (Printed (Mark.Activated t)) = Some (Runner.Task t)
runner_of running (Printed (Mark.Terminated t)) = Some (Runner.Task t)
runner_of running (Printed (Mark.IsrLeft i)) = Some (Runner.Isr i)
runner_of running (Printed (Mark.EventSet t mask)) = Some (Runner.Task t)
runner_of running (Printed (Mark.EventCleared t mask)) = Some (Runner.Task t)
runner_of running (Printed (Mark.EventAwaited t mask)) = Some (Runner.Task t)
runner_of running (Printed (Mark.Released t)) = Some (Runner.Task t)
runner_of running (Printed Mark.Tick) = running
runner_of running e = None

-- The row of a runner whose job takes a resource: the resource is held now, and the ticks of its lock budget count from
-- zero.
-- [OSEK/VDX OS 2.2.3, section 8.2, for the resource]
abbrev pub holding : HeldResource → Row → Row
holding x row = record row { held = x ∷ row.held; lock_used = slice_set row.lock_used x.index 0 }

-- The row of a runner whose job is running at a tick: one more tick is used of its execution budget, and one more is
-- counted for each resource, held or not. [AUTOSAR SWS OS 4.x, SWS_Os_00028, for the execution budget]
abbrev pub charged : Row → Row
charged row = record row { used = suc row.used; lock_used = map suc row.lock_used }

-- The row of a runner whose job has ended: the job gives back all that it held and resumes interrupts, and the next one
-- begins at the first operation, with its whole budget. [AUTOSAR SWS OS 4.x, SWS_Os_00070, for the resources;
-- SWS_Os_00473 and, of an ISR, SWS_Os_00474, for the budget]
abbrev pub ended : Row → Row
ended row = record row { held = []; frame = rewound row.frame; depth = 0; used = 0 }

-- The row of a runner whose job waits for the events of this mask. The used ticks are 0 again, so the job has its whole
-- budget once it is released.
-- [OSEK/VDX OS 2.2.3, section 13.5.3.4; AUTOSAR SWS OS 4.x, SWS_Os_00473, for the budget]
abbrev pub waiting_for : ℕ → Row → Row
waiting_for mask row = record row { events = with_awaited (Some mask) row.events; used = 0 }

-- How an entry changes the row of its runner, which has this script: a resource is taken or given back; interrupts are
-- suspended or resumed; an operation is done; the oldest job ends; events are set or cleared; the task waits, or is
-- released; a tick of its budgets is used. An activation leaves no event set. Only an operation that is done reads the
-- script.
-- [OSEK/VDX OS 2.2.3, section 8.2, 7, 13.3.2 and 13.5.3; that an activation clears the events: section 13.2.3.1]
abbrev pub row_step : List Op → Entry → Row → Row
row_step script (Noted (ResourceOccupied r x)) row = holding x row
row_step script (Noted (ResourceReleased r index)) row = record row { held = without_resource index row.held }
row_step script (Noted (InterruptsSuspended r)) row = record row { depth = deeper row.depth }
row_step script (Noted (InterruptsResumed r)) row = record row { depth = shallower row.depth }
row_step script (Noted (Done r status value)) row = record row { frame = completed script row.frame status value }
row_step script (Printed (Mark.Activated t)) row = record row { events = with_none_set row.events }
row_step script (Printed (Mark.Terminated t)) row = ended row
row_step script (Printed (Mark.IsrLeft i)) row = ended row
row_step script (Printed (Mark.EventSet t mask)) row = record row { events = with_set mask row.events }
row_step script (Printed (Mark.EventCleared t mask)) row = record row { events = with_cleared mask row.events }
row_step script (Printed (Mark.EventAwaited t mask)) row = waiting_for mask row
row_step script (Printed (Mark.Released t)) row = record row { events = with_awaited None row.events }
row_step script (Printed Mark.Tick) row = charged row
row_step script e row = row

-- What an entry does to the row of this runner: nothing, if the entry changes another runner's row or none.
abbrev pub row_by : List Op → Runner → Entry → Option Runner → Row → Row
row_by script r e None row = row
row_by script r e (Some q) row = if same_runner q r then row_step script e row else row

-- The row of the runner `r` after an entry; `running` is the runner whose job was running before it.
abbrev pub row_after : List Op → Runner → Option Runner → Entry → Row → Row
row_after script r running e row = row_by script r e (runner_of running e) row

-- The row of the runner `r`, whose script is `script`, after a history. The code keeps the row and no history.
abbrev pub row_of : List Op → Runner → History → Row
row_of script r [] = first_row
row_of script r (e ∷ h) = row_after script r (runner_of_job (running_job h)) e (row_of script r h)
