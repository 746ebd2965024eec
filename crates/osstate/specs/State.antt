-- The state that a kernel keeps, and when it is the state of a history.
use Rattle.std.specs.Prelude.{◌≡◌, IsTrue, length, map}
use Rattle.osbase.specs.{declared.references.CoreId.CoreId, Interrupts.entered_isrs, Interrupts.isr_jobs, Sets.core_ids, Spins.got_spinlocks}
use Rattle.osbase.specs.History.{History, began_count, agreement_of, course_of, started_cores, live_jobs, current_task, giving_way, open_call, outbox, queued_count, received_count, item_count}
use Rattle.osplan.specs.View.{View}
use Rattle.osjobs.specs.{Jobs.IsrState, Jobs.JobState, OwnTasks.own_tasks}
use Rattle.osclock.specs.Clocks.{ClockState, are_settings_granted, clocks_of}
use Rattle.ostable.specs.Tables.{TableStates, tables_of}
use Rattle.osprogress.specs.{declared.progress.Progress.Progress, Border.BorderState}
use Rattle.osstate.specs.Readings.{phase_at, rows_of}

-- What a kernel keeps, in groups: what the core sees of the configuration, and readings of the core's history.
pub record KernelState : Type 0 where
  pub view : View
  pub progress : Progress
  pub tasks : JobState
  pub clocks : ClockState
  pub tables : TableStates
  pub border : BorderState

-- A core's progress after a history: its phase; whether it runs, is down or was halted; and what it learned at the
-- gates. Also how many start-list entries it has done, items it has taken, and entries its history has.
abbrev pub progress_of : View → History → Progress
progress_of v h = record {
  phase = phase_at v h;
  course = course_of h;
  began = began_count h;
  agreement = agreement_of h;
  started = started_cores h;
  items = item_count h;
  entries = length h;
}

-- The live jobs of ISRs after a history, and the ISRs that were entered.
abbrev pub isrs_of : History → IsrState
isrs_of h = record { live = isr_jobs h; entered = entered_isrs h }

-- What is kept of a core's tasks and ISRs after a history: the tasks, their live jobs, which task is in the running
-- state, who gives way, the rows, the live jobs of ISRs, and the ISRs that were entered.
abbrev pub tasks_of : View → History → JobState
tasks_of v h = record { tasks = own_tasks v.own; jobs = live_jobs h; current = current_task h; giving_way = giving_way h; rows = rows_of v.own h; isrs = isrs_of h }

-- What crosses the core's border, after a history: the open call, letters that wait, how many were queued for and
-- received from each core, and the spinlocks that the core got.
abbrev pub border_of : History → BorderState
border_of h = record {
  open_call = open_call h;
  outbox = outbox h;
  queued = map (λ (d : CoreId). queued_count d h) core_ids;
  received = map (λ (s : CoreId). received_count s h) core_ids;
  spins = got_spinlocks h;
}

-- The state of a core with this view after a history: all readings of the history.
abbrev pub state_of : View → History → KernelState
state_of v h = record { view = v; progress = progress_of v h; tasks = tasks_of v h; clocks = clocks_of v.own h; tables = tables_of v.own h; border = border_of h }

-- The state is that of this history of this core: each field is what is read off the history. Each alarm was set as a
-- service grants it. This is a relation, so that the kernel need not store the history. [own]
pub record Stands (v : View) (h : History) (s : KernelState) : Type 0 where
  pub is : s ≡ state_of v h
  pub granted : IsTrue (are_settings_granted v.own h)
