-- Schedule tables that wait for the end of another one's period: which may wait for which, and what is done of both at
-- one count.
use Rattle.std.specs.Prelude.{ℕ, ◌+◌, ◌&&◌, ◌||◌, Bool, true, false, is_none, not}
use Rattle.std.specs.{List.list_all, Option.option_map_or}
use Rattle.osbase.specs.{declared.references.TableRef.TableRef, History.Entry, History.Noted, History.TableNext, Counting.same_counter, Objects.table_object}
use Rattle.osplan.specs.{declared.plans.Core.Core, declared.plans.Table.Table as TablePlan, Objects.is_own_object, View.own_table}
use Rattle.ostable.specs.{declared.tables.DueTable.DueTable, declared.table.Table.Table, Tables.TableStates, Tables.table_in, Tables.table_refs}

-- Both are tables of the core, and use the same counter. [AUTOSAR SWS OS 4.x, SWS_Os_00330]
abbrev pub are_of_one_counter : Core → TableRef → TableRef → Bool
are_of_one_counter core s u =
    option_map_or (λ (x : TablePlan). option_map_or (λ (y : TablePlan). same_counter x.counter y.counter) (own_table core u) false) (own_table core s) false

-- If the table `u` waits for another, both are tables of the core and use the same counter.
abbrev pub waits_by_counter : Core → TableRef → Table → Bool
waits_by_counter core u (Table.NextOf s) = are_of_one_counter core s u
waits_by_counter core u table = true

-- No table of the core waits for a table of another counter.
abbrev pub all_wait_by_counter : Core → TableStates → Bool
all_wait_by_counter core x = list_all (λ (u : TableRef). waits_by_counter core u (table_in u x)) (table_refs core)

-- If the entry makes a table wait for another, both are tables of the core and use the same counter. Such entries keep
-- `all_wait_by_counter`.
abbrev pub is_next_by_counter : Core → Entry → Bool
is_next_by_counter core (Noted (TableNext s u)) = are_of_one_counter core s u
is_next_by_counter core e = true

-- What `f` gives for a due table, plus what it gives for the table that begins in its place, if there is one. If tables
-- wait only for tables of their own counter, the sum over all due tables counts no table twice. So there is room for
-- what they post.
abbrev pub with_next : (TableRef → ℕ) → DueTable → ℕ
with_next f d = f d.table + option_map_or f d.next 0

-- The table that is due and the one that begins in its place are the core's own.
abbrev pub are_own : Core → DueTable → Bool
are_own core d = is_own_object core (table_object d.table) && option_map_or (λ (u : TableRef). is_own_object core (table_object u)) d.next true

-- The table repeats: another period follows where one ends. [AUTOSAR SWS OS 4.x, OsScheduleTableRepeating]
abbrev pub repeats : Core → TableRef → Bool
repeats core s = option_map_or (λ (x : TablePlan). x.repeating) (own_table core s) false

-- If the due table repeats and its period ends, none of its expiry points is due. So it processes at most one point at
-- one count. [AUTOSAR SWS OS 4.x, SWS_Os_00444]
abbrev pub ends_alone : Core → DueTable → Bool
ends_alone core d = not (d.due.ends && repeats core d.table) || is_none d.due.point
