-- If histories agree in a core's own runners, counters, alarms and tables, the core sees the same by each.
use Rattle.std.proofs.Common.{◌≡◌, ℕ, None, filter, filter_map, find, option_map}
use Rattle.std.specs.Option.{option_map_or}
use Rattle.osbase.specs.{declared.references.AlarmRef.AlarmRef, declared.references.CounterRef.CounterRef, declared.references.IsrRef.IsrRef, declared.references.TableRef.TableRef, declared.references.Runner.Runner, declared.histories.Job.Job, Spins.got_spinlocks}
use Rattle.osbase.specs.Counting.{Stopped, alarm_of, counted_once, counts_of, counts_to, is_due, is_in_use, left_of, one_count_more, table_state, value_after}
use Rattle.osbase.specs.History.{History, agreement_of, course_of, job_count, live_jobs, open_call}
use Rattle.osplan.specs.{declared.plans.Alarm.Alarm, declared.plans.Table.Table}
use Rattle.osplan.specs.View.{Around, View, own_alarm, own_table}
use Rattle.osclock.specs.Clocks.{attached_to, counts_to_value_by, max_of, setting_by, value_by}
use Rattle.ostable.specs.Ahead.{due_at, status_of}
use Rattle.ostable.specs.Tables.{due_by, due_table, next_by, state_by, table_refs, timed_by, waits_for}
use Rattle.osrunner.specs.Rows.{is_occupied, row_in}
use Rattle.osstate.specs.Readings.{is_pending, rows_of, running}
use Rattle.osacts.specs.Seen.{seen_of}
use Rattle.osservice.proofs.Kept.{seen_as}

-- What is read off both histories is the same.
pub record ReadsSame (v : View) (h k : History) : Type 0 where
  pub jobs : (r : Runner) → job_count r (live_jobs h) ≡ job_count r (live_jobs k)
  pub rows : rows_of v.own h ≡ rows_of v.own k
  pub pending : (i : IsrRef) → is_pending i h ≡ is_pending i k
  pub counts : (c : CounterRef) → counts_of c h ≡ counts_of c k
  pub settings : (c : CounterRef) (a : AlarmRef) → alarm_of c a h ≡ alarm_of c a k
  pub tables : (c : CounterRef) (s : TableRef) → table_state c s h ≡ table_state c s k
  pub agreement : agreement_of h ≡ agreement_of k
  pub course : course_of h ≡ course_of k
  pub running : option_map (λ (j : Job). j.runner) (running v h) ≡ option_map (λ (j : Job). j.runner) (running v k)
  pub awaits : open_call h ≡ open_call k
  pub spins : got_spinlocks h ≡ got_spinlocks k

module _ (v : View) (h k : History) (same : ReadsSame v h k) where
  value-same : (c : CounterRef) → value_by v.own c h ≡ value_by v.own c k
  value-same c = λ i. value_after (max_of v.own c) (same.counts c i)

  counts_to_value-same : (c : CounterRef) (start : ℕ) → counts_to_value_by v.own c start h ≡ counts_to_value_by v.own c start k
  counts_to_value-same c start = λ i. counts_to (max_of v.own c) (value-same c i) start

  setting-same : (a : AlarmRef) → setting_by v.own a h ≡ setting_by v.own a k
  setting-same a = λ i. option_map_or (λ (x : Alarm). same.settings x.counter a i) (own_alarm v.own a) None

  state-same : (s : TableRef) → state_by v.own s h ≡ state_by v.own s k
  state-same s = λ i. option_map_or (λ (x : Table). same.tables x.counter s i) (own_table v.own s) Stopped

  next-same : (s : TableRef) → next_by v.own s h ≡ next_by v.own s k
  next-same s = λ i. find (λ (u : TableRef). waits_for s (state-same u i)) (table_refs v.own)

  due-same : (s : TableRef) → due_by v.own s h ≡ due_by v.own s k
  due-same s = λ i. option_map_or (λ (x : Table). due_at x (counted_once (same.tables x.counter s i))) (own_table v.own s) None

  -- So the core sees the same, whatever is around it.
  pub seen-same : (around : Around) → seen_of v h ≡ seen_of (seen_as v around) k
  seen-same around = λ i. record {
    id = v.core;
    core = v.own;
    jobs = λ r. same.jobs r i;
    row = λ r. row_in r (same.rows i);
    is_occupied = λ n. is_occupied n (same.rows i);
    is_pending = λ isr. same.pending isr i;
    value = λ c. value-same c i;
    counts_to_value = λ c start. counts_to_value-same c start i;
    due = λ c. filter (λ (a : AlarmRef). is_due (option_map one_count_more (setting-same a i))) (attached_to v.own c);
    due_tables = λ c. filter_map (λ (s : TableRef). option_map (due_table s (next-same s i)) (due-same s i)) (timed_by v.own c);
    is_in_use = λ a. is_in_use (setting-same a i);
    counts_left = λ a. left_of (setting-same a i);
    counts_to = λ a start. option_map_or (λ (x : Alarm). counts_to_value-same x.counter start i) (own_alarm v.own a) 0;
    status = λ s. status_of (state-same s i);
    next = λ s. next-same s i;
    agreement = same.agreement i;
    course = same.course i;
    running = same.running i;
    awaits = same.awaits i;
    spins = same.spins i;
  }
