-- What acts do to a state, and which lines they print.
--
-- `does` says what acts do to a history. Here the same is said of the state that a history results in, with no history:
-- each act changes the state by the step of its entry. The law (specs/Laws.antt) says that both are the same for every
-- history, so that a function need only say what it does to the state.
use Rattle.std.specs.Prelude.{◌&&◌, Bool, if◌then◌else◌, None, option_map, List, [], ◌∷◌, ◌++◌}
use Rattle.osbase.specs.{declared.references.AlarmRef.AlarmRef, declared.references.CoreId.CoreId, declared.references.CounterRef.CounterRef, declared.references.TableRef.TableRef, declared.histories.Job.Job, declared.marks.Mark.Mark, Counting.counts_to, Interrupts.is_pending_among, Objects.alarm_object, Objects.counter_object, Objects.table_object, Sets.has_core}
use Rattle.osbase.specs.History.{Entry, Printed, Noted, Queued, job_count}
use Rattle.osplan.specs.Objects.{is_own_object}
use Rattle.oscount.specs.declared.counters.Counter.{Counter}
use Rattle.osclock.specs.Clocks.{alarm_in, counter_in, counts_to_in, due_in, is_used, left_in, no_counter}
use Rattle.ostable.specs.declared.table.TableStatus.{TableStatus}
use Rattle.ostable.specs.Tables.{due_tables_in, next_in, status_in, table_in}
use Rattle.osrunner.specs.Rows.{is_occupied, row_in}
use Rattle.osstate.specs.{Queries.running_in, State.KernelState, Steps.next_letter, Steps.state_after}
use Rattle.osacts.specs.Acts.{Act, Prints, Notes, Sends, Acts, nothing, one_then, both, when, if_started, look, look_around}
use Rattle.osacts.specs.Seen.{AllCores, Seen}

-- ---- what a core sees of its state

-- The counter as the state has it, if it is the core's own; else one whose greatest value is 0.
abbrev pub counter_seen : CounterRef → KernelState → Counter
counter_seen c s = if is_own_object s.view.own (counter_object c) then counter_in c s.clocks else no_counter

-- The alarm is one of the core's own.
abbrev pub is_alarm_in : AlarmRef → KernelState → Bool
is_alarm_in a s = is_own_object s.view.own (alarm_object a)

-- The schedule table is one of the core's own.
abbrev pub is_table_in : TableRef → KernelState → Bool
is_table_in t s = is_own_object s.view.own (table_object t)

-- What a core may read for what it does next, as its state has it.
abbrev pub seen_in : KernelState → Seen
seen_in s = record {
  id = s.view.core;
  core = s.view.own;
  jobs = λ r. job_count r s.tasks.jobs;
  row = λ r. row_in r s.tasks.rows;
  is_occupied = λ n. is_occupied n s.tasks.rows;
  is_pending = λ i. is_pending_among i s.tasks.isrs.entered s.tasks.isrs.live;
  value = λ c. (counter_seen c s).value;
  counts_to_value = λ c start. counts_to (counter_seen c s).max (counter_seen c s).value start;
  due = λ c. due_in s.view.own c s.clocks;
  due_tables = λ c. due_tables_in s.view.own c s.tables;
  is_in_use = λ a. is_alarm_in a s && is_used (alarm_in a s.clocks);
  counts_left = λ a. if is_alarm_in a s then left_in s.view.own a s.clocks else None;
  counts_to = λ a start. if is_alarm_in a s then counts_to_in s.view.own a start s.clocks else 0;
  status = λ t. if is_table_in t s then status_in (table_in t s.tables) else TableStatus.Stopped;
  next = λ t. next_in s.view.own t s.tables;
  agreement = s.progress.agreement;
  course = s.progress.course;
  running = option_map (λ (j : Job). j.runner) (running_in s);
  awaits = s.border.open_call;
  spins = s.border.spins;
}

-- What a core may read of what all cores share, as its state has it.
abbrev pub all_cores_in : KernelState → AllCores
all_cores_in s = record { configured = s.view.around.cores; started = s.progress.started; links = s.view.around.links }

-- Core `core` was started, as far as the core with this state learned at the second gate.
abbrev pub knows_started_in : KernelState → CoreId → Bool
knows_started_in s core = has_core s.progress.started core

-- ---- what acts do

-- The entry of an act. A letter gets the next number on the way to its core.
abbrev pub entry_in : Act → KernelState → Entry
entry_in (Prints m) s = Printed m
entry_in (Notes n) s = Noted n
entry_in (Sends core message) s = Noted (Queued core (next_letter s core message))

-- The state after these acts.
abbrev pub runs : Acts → KernelState → KernelState
runs nothing s = s
runs (one_then a x) s = runs x (state_after (entry_in a s) s)
runs (both x y) s = runs y (runs x s)
runs (when b x y) s = if b then runs x s else runs y s
runs (if_started core x y) s = if knows_started_in s core then runs x s else runs y s
runs (look f) s = runs (f (seen_in s)) s
runs (look_around f) s = runs (f (all_cores_in s)) s

-- The line that an act prints; none for a note or a letter.
abbrev pub line_of : Act → List Mark
line_of (Prints m) = m ∷ []
line_of a = []

-- The lines that these acts print, the first one first.
abbrev pub says : Acts → KernelState → List Mark
says nothing s = []
says (one_then a x) s = line_of a ++ says x (state_after (entry_in a s) s)
says (both x y) s = says x s ++ says y (runs x s)
says (when b x y) s = if b then says x s else says y s
says (if_started core x y) s = if knows_started_in s core then says x s else says y s
says (look f) s = says (f (seen_in s)) s
says (look_around f) s = says (f (all_cores_in s)) s
