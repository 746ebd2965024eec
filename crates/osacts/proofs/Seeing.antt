-- What a core sees of its state is what it sees of the history.
use Rattle.std.proofs.Common.{◌≡◌, ◌&&◌, ℕ, nat_lt, Bool, true, false, cond, Option, None, List, length, option_map, refl, ap, sym, ◌∙◌, arith}
use Rattle.std.specs.{List.slice_get, Option.option_map_or}
use Rattle.std.proofs.{lemmas.Bool.ltb-false, lemmas.Option.slice_get_past}
use Rattle.osbase.specs.{declared.references.AlarmRef.AlarmRef, declared.references.CounterRef.CounterRef, declared.references.TableRef.TableRef, declared.histories.Job.Job, Objects.alarm_object, Objects.counter_object, Objects.table_object, Spins.got_spinlocks}
use Rattle.osbase.specs.Counting.{Stopped, alarm_of, counts_of, counts_to, is_in_use, left_of, table_state}
use Rattle.osbase.specs.History.{History, agreement_of, course_of, job_count, live_jobs, open_call, same_core}
use Rattle.osplan.specs.{declared.plans.Alarm.Alarm as AlarmPlan, declared.plans.Core.Core, declared.plans.Counter.Counter as CounterPlan, declared.plans.Table.Table as TablePlan, Clocked.are_clocks_within, Objects.is_own_object}
use Rattle.osplan.specs.View.{View, own_alarm, own_counter, own_table}
use Rattle.oscount.specs.{declared.counters.Counter.Counter, Clocks.counter_at}
use Rattle.osclock.specs.Clocks.{alarm_in, are_settings_granted, clocks_of, counter_by, counter_in, counts_to_by, counts_to_in, counts_to_value_by, is_in_use_by, is_used, left_by, left_in, no_counter}
use Rattle.osclock.proofs.Asked.{counts_to-read, dues-read, left-read, used-read}
use Rattle.osclock.proofs.Law.{counter-at}
use Rattle.osrunner.specs.Rows.{is_occupied}
use Rattle.ostable.specs.{declared.table.TableStatus.TableStatus, Ahead.status_of}
use Rattle.ostable.specs.Tables.{state_by, status_in, table_in, tables_of}
use Rattle.ostable.proofs.Asked.{dues-read as tables-read, next-read, status-read}
use Rattle.osstate.specs.Readings.{is_pending, row_at, rows_of, running}
use Rattle.osstate.specs.State.{state_of}
use Rattle.osacts.specs.{Seen.seen_of, Runs.seen_in}

-- ---- what is no object of the core's own

-- A place that a list of the core's own does not have.
none-there : {A : Type 0} (b : Bool) (xs : List A) (n : ℕ) → b && nat_lt n (length xs) ≡ false → cond b (slice_get xs n) None ≡ None
none-there true xs n e = slice_get_past xs n (ltb-false n (length xs) e)
none-there false xs n e = refl

no-counter : (core : Core) (c : CounterRef) → is_own_object core (counter_object c) ≡ false → own_counter core c ≡ None
no-counter core c e = none-there (same_core c.core core.id) core.counters c.index e

no-alarm : (core : Core) (a : AlarmRef) → is_own_object core (alarm_object a) ≡ false → own_alarm core a ≡ None
no-alarm core a e = none-there (same_core a.core core.id) core.alarms a.index e

no-table : (core : Core) (t : TableRef) → is_own_object core (table_object t) ≡ false → own_table core t ≡ None
no-table core t e = none-there (same_core t.core core.id) core.tables t.index e

-- ---- counters

nothing-over : (count : ℕ) → counter_at 0 count ≡ no_counter
nothing-over count = ap (λ (n : ℕ). let k : Counter = record { max = 0; value = n } in k) (omega arith)

counter-seen : (core : Core) (c : CounterRef) (h : History) (b : Bool) → is_own_object core (counter_object c) ≡ b → cond b (counter_in c (clocks_of core h)) no_counter ≡ counter_by core c h
counter-seen core c h true e = counter-at core c h e
counter-seen core c h false e = sym (ap (λ (o : Option CounterPlan). counter_at (option_map_or (λ (x : CounterPlan). x.max) o 0) (counts_of c h)) (no-counter core c e) ∙ nothing-over (counts_of c h))

-- ---- alarms

used-seen : (core : Core) (a : AlarmRef) (h : History) → are_settings_granted core h ≡ true → (b : Bool) → is_own_object core (alarm_object a) ≡ b → b && is_used (alarm_in a (clocks_of core h)) ≡ is_in_use_by core a h
used-seen core a h set true e = used-read core a h e set
used-seen core a h set false e = sym (ap (λ (o : Option AlarmPlan). is_in_use (option_map_or (λ (x : AlarmPlan). alarm_of x.counter a h) o None)) (no-alarm core a e))

left-seen : (core : Core) (a : AlarmRef) (h : History) → are_clocks_within core ≡ true → are_settings_granted core h ≡ true → (b : Bool) → is_own_object core (alarm_object a) ≡ b → cond b (left_in core a (clocks_of core h)) None ≡ left_by core a h
left-seen core a h within set true e = left-read core a h within e set
left-seen core a h within set false e = sym (ap (λ (o : Option AlarmPlan). left_of (option_map_or (λ (x : AlarmPlan). alarm_of x.counter a h) o None)) (no-alarm core a e))

counts-seen : (core : Core) (a : AlarmRef) (start : ℕ) (h : History) → are_clocks_within core ≡ true → (b : Bool) → is_own_object core (alarm_object a) ≡ b → cond b (counts_to_in core a start (clocks_of core h)) 0 ≡ counts_to_by core a start h
counts-seen core a start h within true e = counts_to-read core a start h within e
counts-seen core a start h within false e = sym (ap (λ (o : Option AlarmPlan). option_map_or (λ (x : AlarmPlan). counts_to_value_by core x.counter start h) o 0) (no-alarm core a e))

-- ---- schedule tables

status-seen : (core : Core) (t : TableRef) (h : History) (b : Bool) → is_own_object core (table_object t) ≡ b → cond b (status_in (table_in t (tables_of core h))) TableStatus.Stopped ≡ status_of (state_by core t h)
status-seen core t h true e = status-read core t h e
status-seen core t h false e = sym (ap (λ (o : Option TablePlan). status_of (option_map_or (λ (x : TablePlan). table_state x.counter t h) o Stopped)) (no-table core t e))

-- ---- the whole

-- The state of a history shows all that the history does.
pub seen-same : (v : View) (h : History) → are_clocks_within v.own ≡ true → are_settings_granted v.own h ≡ true → seen_in (state_of v h) ≡ seen_of v h
seen-same v h within set = λ i. record {
  id = v.core;
  core = v.own;
  jobs = λ r. job_count r (live_jobs h);
  row = λ r. row_at v r h;
  is_occupied = λ n. is_occupied n (rows_of v.own h);
  is_pending = λ isr. is_pending isr h;
  value = λ c. (counter-seen v.own c h (is_own_object v.own (counter_object c)) refl i).value;
  counts_to_value = λ c start. let k : Counter = counter-seen v.own c h (is_own_object v.own (counter_object c)) refl i in counts_to k.max k.value start;
  due = λ c. dues-read v.own c h within set i;
  due_tables = λ c. tables-read v.own c h within i;
  is_in_use = λ a. used-seen v.own a h set (is_own_object v.own (alarm_object a)) refl i;
  counts_left = λ a. left-seen v.own a h within set (is_own_object v.own (alarm_object a)) refl i;
  counts_to = λ a start. counts-seen v.own a start h within (is_own_object v.own (alarm_object a)) refl i;
  status = λ t. status-seen v.own t h (is_own_object v.own (table_object t)) refl i;
  next = λ t. next-read v.own t h i;
  agreement = agreement_of h;
  course = course_of h;
  running = option_map (λ (j : Job). j.runner) (running v h);
  awaits = open_call h;
  spins = got_spinlocks h;
}
