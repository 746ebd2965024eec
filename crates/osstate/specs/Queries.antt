-- Queries of the state. A query of a history is that of the history's state.
use Rattle.std.specs.Prelude.{◌==◌, Bool, nat_le, Option}
use Rattle.osbase.specs.{declared.references.Runner.Runner, declared.references.TaskRef.TaskRef, declared.histories.Job.Job, History.History, History.job_count}
use Rattle.oscript.specs.{declared.Action.Action, Frames.action_at}
use Rattle.osplan.specs.View.{View}
use Rattle.osrunner.specs.Rows.{frame_in}
use Rattle.osjobs.specs.Jobs.{best_among, raised_among, running_among}
use Rattle.osstate.specs.{Readings.script_of, Sound.activation_limit, State.KernelState, State.state_of}

-- The running job: that of the ISR that was entered last, or else the oldest live job of the task in the running state.
-- [OSEK/VDX OS 2.2.3, section 4.2 and 6]
abbrev pub running_in : KernelState → Option Job
running_in s = running_among s.tasks

-- The job whose priority is raised: that of the task in the running state, if the task is not preemptable and does not
-- give way.
abbrev pub raised_in : KernelState → Option Job
raised_in s = raised_among s.view.own s.tasks

-- The job to run: the running one, if it has suspended interrupts; else the oldest ISR job of the greatest level. If
-- there is none, the oldest of the task jobs with the greatest current priority; those that wait do not count.
abbrev pub best_in : KernelState → Option Job
best_in s = best_among s.view.own s.tasks

-- What the oldest live job of a task or an ISR does next: an operation of its script, or its end.
abbrev pub next_action_in : Runner → KernelState → Action
next_action_in r s = action_at (script_of s.view.own r) (frame_in r s.tasks.rows)

-- As many jobs of the task are live as it may have. A task of another core may have none.
-- [OSEK/VDX OS 2.2.3, section 4.3, multiple requesting]
abbrev pub is_at_limit_in : TaskRef → KernelState → Bool
is_at_limit_in t s = nat_le (activation_limit s.view.own (Runner.Task t)) (job_count (Runner.Task t) s.tasks.jobs)

-- As many jobs of the task are live after this history as it may have. A task of another core may have none.
abbrev pub is_at_limit : View → TaskRef → History → Bool
is_at_limit v t h = is_at_limit_in t (state_of v h)

-- No job of the task is live. [OSEK/VDX OS 2.2.3, section 4.2.1, the suspended state]
abbrev pub is_suspended_in : TaskRef → KernelState → Bool
is_suspended_in t s = job_count (Runner.Task t) s.tasks.jobs == 0

-- No job of the task is live after this history.
abbrev pub is_suspended : View → TaskRef → History → Bool
is_suspended v t h = is_suspended_in t (state_of v h)
