-- What a service may read.
use Rattle.std.specs.Prelude.{ℕ, Bool, nat_le, ◌==◌, Option, option_map, List}
use Rattle.osbase.specs.{declared.references.AlarmRef.AlarmRef, declared.references.CoreId.CoreId, declared.references.CounterRef.CounterRef, declared.references.IsrRef.IsrRef, declared.references.SpinlockId.SpinlockId, declared.references.TableRef.TableRef, declared.references.TaskRef.TaskRef, declared.references.Runner.Runner, declared.histories.Course.Course, declared.histories.Job.Job, declared.histories.GotSpinlock.GotSpinlock, declared.histories.OpenCall.OpenCall, declared.items.Agreement.Agreement, declared.items.CoreSet.CoreSet, Spins.got_spinlocks}
use Rattle.osbase.specs.History.{History, agreement_of, course_of, job_count, live_jobs, open_call, same_core, started_cores}
use Rattle.oscript.specs.Runners.{Row}
use Rattle.osplan.specs.{declared.plans.Core.Core, View.View}
use Rattle.osclock.specs.Clocks.{counts_to_by, counts_to_value_by, due_by, is_in_use_by, left_by, value_by}
use Rattle.ostable.specs.{declared.table.TableStatus.TableStatus, declared.tables.DueTable.DueTable, Ahead.status_of, Tables.due_tables_by, Tables.next_by, Tables.state_by}
use Rattle.osrunner.specs.Rows.{is_occupied}
use Rattle.osstate.specs.Readings.{is_pending, row_at, rows_of, running}
use Rattle.osstate.specs.Sound.{activation_limit}

-- What a core may read for what it does next: its own part of the configuration, and what its history says of its own
-- objects, its start, its open call and the spinlocks that it got. It has no stamp, no object of another core, and not
-- which cores were started. [own]
pub record Seen : Type 0 where
  -- the core's number and its own part of the configuration
  pub id : CoreId
  pub core : Core
  -- how many jobs of a runner are live, and its row: what its oldest job holds, its events, where that job is in its
  -- script, how often it has suspended interrupts without resuming them, and how many ticks of its budgets it has used
  pub jobs : Runner → ℕ
  pub row : Runner → Row
  -- whether a job holds the resource of this index
  pub is_occupied : ℕ → Bool
  -- whether a job of the ISR is pending
  pub is_pending : IsrRef → Bool
  -- a counter's value; after how many counts it has a given value; which alarms and tables are due at its next count
  pub value : CounterRef → ℕ
  pub counts_to_value : CounterRef → ℕ → ℕ
  pub due : CounterRef → List AlarmRef
  pub due_tables : CounterRef → List DueTable
  -- whether an alarm is in use; how many counts are left; after how many its counter has a given value
  pub is_in_use : AlarmRef → Bool
  pub counts_left : AlarmRef → Option ℕ
  pub counts_to : AlarmRef → ℕ → ℕ
  -- the status of a table, and which table waits for the end of its period
  pub status : TableRef → TableStatus
  pub next : TableRef → Option TableRef
  -- the result of the first gate; whether the core runs, is down or was halted; whose job is running; the open call
  pub agreement : Option Agreement
  pub course : Course
  pub running : Option Runner
  pub awaits : Option OpenCall
  -- the spinlocks that the core got, the newest first, and whose job has each
  pub spins : List GotSpinlock

-- What a core may read for what it does next, as its history has it.
abbrev pub seen_of : View → History → Seen
seen_of v h = record {
  id = v.core;
  core = v.own;
  jobs = λ r. job_count r (live_jobs h);
  row = λ r. row_at v r h;
  is_occupied = λ n. is_occupied n (rows_of v.own h);
  is_pending = λ i. is_pending i h;
  value = λ c. value_by v.own c h;
  counts_to_value = λ c start. counts_to_value_by v.own c start h;
  due = λ c. due_by v.own c h;
  due_tables = λ c. due_tables_by v.own c h;
  is_in_use = λ a. is_in_use_by v.own a h;
  counts_left = λ a. left_by v.own a h;
  counts_to = λ a start. counts_to_by v.own a start h;
  status = λ t. status_of (state_by v.own t h);
  next = λ t. next_by v.own t h;
  agreement = agreement_of h;
  course = course_of h;
  running = option_map (λ (j : Job). j.runner) (running v h);
  awaits = open_call h;
  spins = got_spinlocks h;
}

-- What a core may read of what all cores share: which cores are configured, which were started, and the successor of
-- each spinlock. No separate core reads it. [own]
pub record AllCores : Type 0 where
  pub configured : List CoreId
  pub started : CoreSet
  pub links : List (Option SpinlockId)

-- What a core may read of what all cores share, as its history has it.
abbrev pub all_cores : View → History → AllCores
all_cores v h = record { configured = v.around.cores; started = started_cores h; links = v.around.links }

-- `core` is this core's own number.
abbrev pub is_this_core : Seen → CoreId → Bool
is_this_core s core = same_core core s.id

-- As many jobs of the task are live as it may have. A task of another core may have none.
-- [OSEK/VDX OS 2.2.3, section 4.3, multiple requesting]
abbrev pub is_at_limit : Seen → TaskRef → Bool
is_at_limit s t = nat_le (activation_limit s.core (Runner.Task t)) (s.jobs (Runner.Task t))

-- No job of the task is live. [OSEK/VDX OS 2.2.3, section 4.2.1, the suspended state]
abbrev pub is_suspended : Seen → TaskRef → Bool
is_suspended s t = s.jobs (Runner.Task t) == 0
