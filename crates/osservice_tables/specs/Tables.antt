-- The services of schedule tables: each for tables of the own core.
use Rattle.std.specs.Prelude.{ℕ, pos, nat_le, not, if◌then◌else◌, Bool, false, Option, Some, None, List, [], ◌∷◌}
use Rattle.std.specs.Option.{option_and_then, option_map_or}
use Rattle.osbase.specs.{declared.statuses.Status.TheVariants.EOsNofunc, declared.statuses.Status.TheVariants.EOsState, declared.statuses.Status.TheVariants.EOsValue, declared.references.Runner.Runner, declared.references.TableRef.TableRef, History.TableNext, History.TableStopped, History.TableStarted, Objects.table_object}
use Rattle.osbase.specs.declared.statuses.ServiceId.TheVariants as ServiceId
use Rattle.oscript.specs.declared.Op.{Op}
use Rattle.osplan.specs.{declared.plans.Core.Core, declared.plans.Counter.Counter, declared.plans.Table.Table, Clocked.own_table_sizes, Limits.counter_sizes, Limits.is_table_start, View.own_counter, View.own_table}
use Rattle.ostable.specs.{Status.is_running, Status.is_stopped, Status.number_of, Waiting.are_of_one_counter}
use Rattle.osacts.specs.Acts.{Acts, nothing, both, look, notes}
use Rattle.osservice.specs.{Checks.Check, Named.own_of, Service.Service, Service.serves_own, Service.without_value}
use Rattle.osacts.specs.Seen.{Seen}

-- ---- of a table of the core

abbrev pub is_table_stopped : Seen → TableRef → Bool
is_table_stopped s t = is_stopped (s.status t)

abbrev pub is_table_running : Seen → TableRef → Bool
is_table_running s t = is_running (s.status t)

-- The table is one of the core's own, and the table and its counter, as they are configured, pass this test.
abbrev pub suits : (Table → Counter → Bool) → Core → TableRef → Bool
suits test core t = option_map_or (λ (table : Table). option_map_or (test table) (own_counter core table.counter) false) (own_table core t) false

-- The offset is at least 1, and at most the counter's greatest value less the offset of the table's first expiry point.
-- [AUTOSAR SWS OS 4.x, SWS_Os_00276 and SWS_Os_00332]
abbrev pub is_offset : Core → ℕ → Table → Counter → Bool
is_offset core offset table counter = is_table_start (own_table_sizes core table) (counter_sizes counter) (Some offset)

-- The start is a value of the counter. [AUTOSAR SWS OS 4.x, SWS_Os_00349]
abbrev pub is_value : ℕ → Table → Counter → Bool
is_value start table counter = nat_le start counter.max

-- After how many counts the table's counter has the value `start`. If the counter has it now, a full turn; 0 for a
-- table that is not the core's own.
abbrev pub counts_to_start : Seen → TableRef → ℕ → ℕ
counts_to_start s t start = option_map_or (λ (table : Table). s.counts_to_value table.counter start) (own_table s.core t) 0

-- What StartScheduleTableRel and StartScheduleTableAbs check: that the table is stopped, and then that its counter
-- admits the start. [AUTOSAR SWS OS 4.x, SWS_Os_00276, SWS_Os_00277, SWS_Os_00349 and SWS_Os_00350]
abbrev pub starting_checks : Seen → TableRef → Bool → List Check
starting_checks s t is_admitted = (not (is_table_stopped s t), EOsState) ∷ (not is_admitted, EOsValue) ∷ []

-- The table starts: its first period begins after `wait` counts. [AUTOSAR SWS OS 4.x, SWS_Os_00278 and SWS_Os_00351]
abbrev pub starts_table : TableRef → ℕ → Acts
starts_table t wait = notes (TableStarted t wait)

-- StartScheduleTableRel, for one of the core's tables. If the table is stopped, and its counter admits the offset, the
-- table starts: its first period begins after that many counts. [AUTOSAR SWS OS 4.x, SWS_Os_00278]
abbrev pub relative_start : ℕ → TableRef → Seen → Service
relative_start offset t s = without_value (starting_checks s t (suits (is_offset s.core offset) s.core t)) (starts_table t offset)

-- StartScheduleTableAbs, for one of the core's tables. If the table is stopped, and `start` is a value of its counter,
-- the table starts: its first period begins when the counter has this value. If the counter has it now, this is after a
-- full turn. [AUTOSAR SWS OS 4.x, SWS_Os_00351; the full turn: own]
abbrev pub absolute_start : ℕ → TableRef → Seen → Service
absolute_start start t s = without_value (starting_checks s t (suits (is_value start) s.core t)) (starts_table t (counts_to_start s t start))

-- The table, if one is given, stops: it waits no longer.
abbrev pub quits : Option TableRef → Acts
quits None = nothing
quits (Some u) = notes (TableStopped u)

-- The table that waits for the end of a period of this one, if there is one, waits no longer.
abbrev pub quits_next : TableRef → Acts
quits_next t = look (λ s. quits (s.next t))

-- NextScheduleTable, for two tables. If the second is stopped, and the first runs, the second waits for the end of a
-- period of the first. A table that already waited for the first stops.
-- [AUTOSAR SWS OS 4.x, SWS_Os_00284, SWS_Os_00283, SWS_Os_00309 and SWS_Os_00324]
abbrev pub switch : TableRef × TableRef → Seen → Service
switch p s =
    without_value ((not (is_table_stopped s p.1), EOsState) ∷ (not (is_table_running s p.0), EOsNofunc) ∷ [])
    (both (quits_next p.0) (notes (TableNext p.0 p.1)))

-- StopScheduleTable, for one of the core's tables. If the table is not stopped yet, it stops or waits no longer, and a
-- table that waits for it stops. [AUTOSAR SWS OS 4.x, SWS_Os_00280 and SWS_Os_00281]
abbrev pub stop : TableRef → Seen → Service
stop t s = without_value ((is_table_stopped s t, EOsNofunc) ∷ []) (both (quits_next t) (notes (TableStopped t)))

-- GetScheduleTableStatus, for one of the core's tables: it checks nothing, and answers the number of the table's
-- status. [AUTOSAR SWS OS 4.x, SWS_Os_00289 to SWS_Os_00291]
abbrev pub status_inquiry : TableRef → Seen → Service
status_inquiry t s = record { checks = []; effect = nothing; value = Some (pos (number_of (s.status t))) }

-- ---- of what a script names

-- The two tables, if they have the same counter. [AUTOSAR SWS OS 4.x, SWS_Os_00330]
abbrev pub pair_of : Core → TableRef → TableRef → Option (TableRef × TableRef)
pair_of core t u = if are_of_one_counter core t u then Some (t, u) else None

-- The two tables that a script names, if both are the core's own and have the same counter.
abbrev pub own_pair : Core → Option TableRef → Option TableRef → Option (TableRef × TableRef)
own_pair core from to =
    option_and_then (λ (t : TableRef). option_and_then (pair_of core t) (own_of table_object core to)) (own_of table_object core from)

-- ---- the services; where there is no such table, E_OS_ID. [AUTOSAR SWS OS 4.x, SWS_Os_00275]

-- StartScheduleTableRel, for a table of the own core; else E_OS_ID. [AUTOSAR SWS OS 4.x, SWS_Os_00278]
abbrev pub starts_table_relative : Runner → Option TableRef → ℕ → Acts
starts_table_relative r target offset = serves_own r ServiceId.StartScheduleTableRel (relative_start offset) (λ core. own_of table_object core target)

-- StartScheduleTableAbs, for a table of the own core; else E_OS_ID. [AUTOSAR SWS OS 4.x, SWS_Os_00351]
abbrev pub starts_table_absolute : Runner → Option TableRef → ℕ → Acts
starts_table_absolute r target start = serves_own r ServiceId.StartScheduleTableAbs (absolute_start start) (λ core. own_of table_object core target)

-- NextScheduleTable, for two tables of the own core that have the same counter; else E_OS_ID.
-- [AUTOSAR SWS OS 4.x, SWS_Os_00284]
abbrev pub switches_tables : Runner → Option TableRef → Option TableRef → Acts
switches_tables r from to = serves_own r ServiceId.NextScheduleTable switch (λ core. own_pair core from to)

-- StopScheduleTable, for a table of the own core; else E_OS_ID. [AUTOSAR SWS OS 4.x, SWS_Os_00281]
abbrev pub stops_table : Runner → Option TableRef → Acts
stops_table r target = serves_own r ServiceId.StopScheduleTable stop (λ core. own_of table_object core target)

-- GetScheduleTableStatus, for a table of the own core; else E_OS_ID. [AUTOSAR SWS OS 4.x, SWS_Os_00289 to SWS_Os_00291]
abbrev pub gets_table_status : Runner → Option TableRef → Acts
gets_table_status r target = serves_own r ServiceId.GetScheduleTableStatus status_inquiry (λ core. own_of table_object core target)

-- ---- the operations that are these services

-- What an operation does for a runner, if it is a service of schedule tables.
abbrev pub table_acts : Runner → Op → Option Acts
table_acts r (Op.StartScheduleTableRel target offset) = Some (starts_table_relative r target offset)
table_acts r (Op.StartScheduleTableAbs target start) = Some (starts_table_absolute r target start)
table_acts r (Op.NextScheduleTable from to) = Some (switches_tables r from to)
table_acts r (Op.StopScheduleTable target) = Some (stops_table r target)
table_acts r (Op.GetScheduleTableStatus target x) = Some (gets_table_status r target)
table_acts r op = None
