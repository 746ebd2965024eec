-- Which counters, alarms and schedule tables of a core a kernel has room for.
use Rattle.std.specs.{Prelude.◌&&◌, Prelude.Bool, Prelude.map, List.list_all}
use Rattle.osbase.specs.Objects.{counter_object}
use Rattle.osplan.specs.{declared.plans.Alarm.Alarm, declared.plans.Core.Core, declared.plans.Table.Table, Objects.is_own_object, View.own_counter}
use Rattle.osplan.specs.Limits.{TableSizes, alarm_sizes, are_alarms_within, are_counters_within, are_tables_within, counter_sizes, is_table_timed, table_sizes}

-- An alarm is attached to a counter of its own core. [AUTOSAR SWS OS 4.x, OsAlarmCounterRef; of the same core: own]
abbrev pub is_alarm_attached : Core → Alarm → Bool
is_alarm_attached core alarm = is_own_object core (counter_object alarm.counter)

-- A table is attached to a counter of its own core.
abbrev pub is_table_attached : Core → Table → Bool
is_table_attached core table = is_own_object core (counter_object table.counter)

-- The sizes of a table, with those of its counter if that is one of the core's own.
abbrev pub own_table_sizes : Core → Table → TableSizes
own_table_sizes core table = table_sizes (own_counter core) table

-- The core's counters, alarms and schedule tables are within the limits. Each alarm and table is attached to a counter
-- of the core. The tables' points come in order, at delays that these counters admit. [own]
abbrev pub are_clocks_within : Core → Bool
are_clocks_within core =
    are_counters_within (map counter_sizes core.counters) && are_alarms_within (map (alarm_sizes (own_counter core)) core.alarms)
    && list_all (is_alarm_attached core) core.alarms && are_tables_within (map (own_table_sizes core) core.tables)
    && list_all (is_table_attached core) core.tables && list_all (λ (table : Table). is_table_timed (own_table_sizes core table)) core.tables
