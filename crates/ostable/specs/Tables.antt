-- The schedule tables of a core: what is read off its history, and what each entry does to them.
use Rattle.std.specs.Prelude.{◌≡◌, ℕ, Bool, false, if◌then◌else◌, IsTrue, Option, None, List, filter_map, find, length, map, option_map, slice_index_or}
use Rattle.std.specs.{List.slice_set, Option.option_map_or}
use Rattle.osbase.specs.{declared.references.CounterRef.CounterRef, declared.references.TableRef.TableRef, Objects.counter_object, Objects.table_object, Sets.numbers_from}
use Rattle.osbase.specs.History.{History, Entry, Noted, CounterIncremented, TableStarted, TableStopped, TableNext}
use Rattle.osbase.specs.Counting.{TableState, Stopped, NextOf, counted_once, same_table, started_after, table_state}
use Rattle.osplan.specs.{declared.plans.Core.Core, declared.plans.Table.Table as TablePlan, Clocked.are_clocks_within, Objects.is_own_object, View.own_table, Counters.each_by}
use Rattle.osattached.specs.Attached.{all_changed, each_changed}
use Rattle.osbase.specs.Families.{Family, goes_by, refs_of, those_by}
use Rattle.ostable.specs.{declared.tables.DueTable.DueTable, declared.table.Due.Due, declared.table.Table.Table, declared.table.TableStatus.TableStatus}
use Rattle.ostable.specs.Ahead.{due_at, due_next, table_at, table_beyond}

-- The state of each table, with what comes next if it runs, and the tables of each counter, in index order.
pub record TableStates : Type 0 where
  pub tables : List Table
  pub timed : List (List TableRef)

-- A reference to the core's table of this index.
abbrev pub table_ref : Core → ℕ → TableRef
table_ref core index = record { core = core.id; index = index }

-- The core's tables, as a family of objects that use its counters.
abbrev pub table_family : Core → Family TableRef TablePlan
table_family core = record { own = own_table core; counter = λ (t : TablePlan). t.counter; ref = table_ref core; count = length core.tables }

-- References to the core's tables, each of which uses one counter, in index order. [AUTOSAR SWS OS 4.x,
-- OsScheduleTableCounterRef]
abbrev pub table_refs : Core → List TableRef
table_refs core = refs_of (table_family core)

-- The table is one of the core's, and uses this counter.
abbrev pub is_timed_by : Core → CounterRef → TableRef → Bool
is_timed_by core c s = goes_by (table_family core) c s

-- The core's tables that use this counter, in index order.
abbrev pub timed_by : Core → CounterRef → List TableRef
timed_by core c = those_by (table_family core) c

-- ---- what is read off a history

-- The state of a table; one that is not the core's own is stopped.
abbrev pub state_by : Core → TableRef → History → TableState
state_by core s h = option_map_or (λ (t : TablePlan). table_state t.counter s h) (own_table core s) Stopped

-- A table after a history: its state, with what comes next if it runs. One that is not the core's own is stopped.
abbrev pub table_by : Core → TableRef → History → Table
table_by core s h = option_map_or (λ (t : TablePlan). table_at t (table_state t.counter s h)) (own_table core s) Table.Stopped

-- After a history: the state of each table, with what comes next if it runs, and each counter's tables in index order.
abbrev pub tables_of : Core → History → TableStates
tables_of core h = record {
  tables = map (λ (n : ℕ). table_by core (table_ref core n) h) (numbers_from 0 (length core.tables));
  timed = each_by core (table_family core) (table_refs core);
}

-- A table in this state waits for the end of a period of table `s`. [AUTOSAR SWS OS 4.x, SWS_Os_00284]
abbrev pub waits_for : TableRef → TableState → Bool
waits_for s (NextOf t) = same_table t s
waits_for s state = false

-- The core's table that waits for the end of a period of table `s`.
abbrev pub next_by : Core → TableRef → History → Option TableRef
next_by core s h = find (λ (u : TableRef). waits_for s (state_by core u h)) (table_refs core)

-- What a table of the core does at its counter's next count; none if it does nothing.
abbrev pub due_by : Core → TableRef → History → Option Due
due_by core s h = option_map_or (λ (t : TablePlan). due_at t (counted_once (table_state t.counter s h))) (own_table core s) None

-- What a table does at a count and, if its period ends, which table begins in its place.
abbrev pub due_table : TableRef → Option TableRef → Due → DueTable
due_table s next due = record { table = s; due = due; next = (if due.ends then next else None) }

-- What a table does at its counter's next count and, if its period ends, which table begins in its place. None if it
-- does nothing.
abbrev pub due_table_by : Core → History → TableRef → Option DueTable
due_table_by core h s = option_map (due_table s (next_by core s h)) (due_by core s h)

-- What the tables of a counter do at its next count, in index order, without those that do nothing. Only a table that
-- runs already before that count does something. [own]
abbrev pub due_tables_by : Core → CounterRef → History → List DueTable
due_tables_by core c h = filter_map (due_table_by core h) (timed_by core c)

-- ---- what an entry does to the state

-- A table as the state has it.
abbrev pub table_in : TableRef → TableStates → Table
table_in s x = slice_index_or x.tables s.index Table.Stopped

-- One of the core's tables after one more count of its counter; any other table stays as it is.
abbrev pub moved : Core → TableRef → Table → Table
moved core s table = option_map_or (λ (t : TablePlan). table_beyond t table) (own_table core s) table

-- The tables after a count of this counter: each of its tables moves on by one count, and no other table changes.
abbrev pub all_moved : Core → CounterRef → List Table → List Table
all_moved core c tables = all_changed (table_family core) c (moved core) Table.Stopped tables

-- The tables after a count of the counter of `timed`: these tables move on one after another, as in the code.
abbrev pub each_moved : Core → List TableRef → List Table → List Table
each_moved core timed tables = each_changed (λ (s : TableRef). s.index) (moved core) Table.Stopped timed tables

-- A table of the core that starts now: its first period begins after `wait` counts. A table that is not the core's own
-- is stopped.
abbrev pub started : Core → TableRef → ℕ → Table
started core s wait = option_map_or (λ (t : TablePlan). table_at t (started_after wait)) (own_table core s) Table.Stopped

abbrev pub with_table : TableRef → Table → TableStates → TableStates
with_table s table x = record x { tables = slice_set x.tables s.index table }

-- The state after an entry. An entry for an object that is not the core's own changes nothing.
abbrev pub tables_by : Core → Entry → TableStates → TableStates
tables_by core (Noted (CounterIncremented c)) x = if is_own_object core (counter_object c) then record x { tables = all_moved core c x.tables } else x
tables_by core (Noted (TableStarted s wait)) x = if is_own_object core (table_object s) then with_table s (started core s wait) x else x
tables_by core (Noted (TableStopped s)) x = if is_own_object core (table_object s) then with_table s Table.Stopped x else x
tables_by core (Noted (TableNext s next)) x = if is_own_object core (table_object next) then with_table next (Table.NextOf s) x else x
tables_by core e x = x

-- ---- what is asked of the state

-- Whether the table is stopped, waits or runs.
abbrev pub status_in : Table → TableStatus
status_in Table.Stopped = TableStatus.Stopped
status_in (Table.NextOf s) = TableStatus.Next
status_in (Table.Running ahead) = TableStatus.Running

-- The table waits for the end of a period of table `s`.
abbrev pub is_next_in : TableRef → Table → Bool
is_next_in s (Table.NextOf t) = same_table t s
is_next_in s table = false

-- The core's table that waits for the end of a period of table `s`.
abbrev pub next_in : Core → TableRef → TableStates → Option TableRef
next_in core s x = find (λ (u : TableRef). is_next_in s (table_in u x)) (table_refs core)

-- What a table of the core does at its counter's next count; none if it does nothing.
abbrev pub due_in : Core → TableRef → TableStates → Option Due
due_in core s x = option_map_or (λ (t : TablePlan). due_next t (table_in s x)) (own_table core s) None

-- What the tables of a counter do at its next count, in index order, without those that do nothing.
abbrev pub due_tables_in : Core → CounterRef → TableStates → List DueTable
due_tables_in core c x = filter_map (λ (s : TableRef). option_map (due_table s (next_in core s x)) (due_in core s x)) (timed_by core c)

-- `x` is what `tables_of` gives for some history of the core, and the core's counters, alarms and tables are within
-- their limits. [own]
pub record AreTables (core : Core) (x : TableStates) : Type 0 where
  pub within : IsTrue (are_clocks_within core)
  pub history : History
  pub is : x ≡ tables_of core history
