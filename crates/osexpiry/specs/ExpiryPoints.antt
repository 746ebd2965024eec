-- What a schedule table does at a count.
use Rattle.std.specs.Prelude.{ℕ, ◌+◌, ◌==◌, if◌then◌else◌, Option, Some, None, List, slice_get}
use Rattle.std.specs.Option.{option_and_then, option_map_or}
use Rattle.osbase.specs.{declared.references.TableRef.TableRef, History.TableStopped, History.TableStarted}
use Rattle.osbase.specs.declared.marks.Mark.TheVariants as Mark
use Rattle.osplan.specs.{declared.plans.Core.Core, declared.plans.ExpiryPoint.ExpiryPoint, declared.plans.Table.Table, Objects.posted_at, View.own_table}
use Rattle.ostable.specs.{declared.tables.DueTable.DueTable, Waiting.repeats}
use Rattle.osacts.specs.Acts.{Acts, Notes, Prints, both, for_each, look, nothing, notes, one_then, when}
use Rattle.osaction.specs.Points.{does_point}

-- ---- a point, if there is one

-- If there is a point, prints its line and does its actions.
abbrev pub processes_point : TableRef → Option ExpiryPoint → Acts
processes_point s point = option_map_or (does_point s) point nothing

-- ---- which point

-- The point of this number in the core's own schedule table; none if there is no such table or point.
abbrev pub point_of : Core → TableRef → ℕ → Option ExpiryPoint
point_of core s number = option_and_then (λ (table : Table). slice_get table.points number) (own_table core s)

-- The point of the due table that expires at this count, if there is one.
abbrev pub due_point : Core → DueTable → Option ExpiryPoint
due_point core d = option_and_then (point_of core d.table) d.due.point

-- The point, if its offset is 0.
abbrev pub if_at_zero : ExpiryPoint → Option ExpiryPoint
if_at_zero point = if point.offset == 0 then Some point else None

-- The point with which a period of the table begins: the table's first point, if its offset is 0.
abbrev pub first_point : Core → TableRef → Option ExpiryPoint
first_point core s = option_and_then if_at_zero (point_of core s 0)

-- ---- the end of a period

-- Prints that the schedule table stops, and stops it.
abbrev pub stops : TableRef → Acts
stops s = one_then (Prints (Mark.TableStopped s)) (notes (TableStopped s))

-- A period of the table begins: its point at offset 0, if it has one, is processed at once.
-- [AUTOSAR SWS OS 4.x, SWS_Os_00414]
abbrev pub begins_period : TableRef → Acts
begins_period s = look (λ seen. processes_point s (first_point seen.core s))

-- Prints that the schedule table begins, starts the table, and begins its first period at once.
abbrev pub begins : TableRef → Acts
begins s = one_then (Prints (Mark.TableBegun s)) (one_then (Notes (TableStarted s 0)) (begins_period s))

-- A period of a table ends. If another table waits for that, the table stops and the other starts. Else a repeating
-- table begins its next period, and a single-shot table stops.
-- [AUTOSAR SWS OS 4.x, SWS_Os_00414, SWS_Os_00194 and SWS_Os_00009]
abbrev pub ends : TableRef → Option TableRef → Acts
ends s (Some next) = both (stops s) (begins next)
ends s None = look (λ seen. when (repeats seen.core s) (begins_period s) (stops s))

-- ---- a count

-- A due table processes the point that is due, if there is one, and then the end of its period, if that is due. [own]
abbrev pub processes_table : DueTable → Acts
processes_table d = both (look (λ seen. processes_point d.table (due_point seen.core d))) (when d.due.ends (ends d.table d.next) nothing)

abbrev pub process_tables : List DueTable → Acts
process_tables due = for_each processes_table due

-- ---- how many letters join the outbox, at most

-- The most letters that the point posts: one for each of its actions on another core's task. 0 if there is no point.
abbrev pub posted_by_point : Core → Option ExpiryPoint → ℕ
posted_by_point core point = option_map_or (posted_at core) point 0

-- The most letters that the end of a table's period posts: those of the point with which the next period begins, of the
-- table that waits or else of this one. 0 if no period follows.
abbrev pub posted_by_end : Core → TableRef → Option TableRef → ℕ
posted_by_end core s (Some next) = posted_by_point core (first_point core next)
posted_by_end core s None = if repeats core s then posted_by_point core (first_point core s) else 0

-- The most letters that a due table posts: those of its due point and, if its period ends, those of that end.
abbrev pub posted_by_table : Core → DueTable → ℕ
posted_by_table core d = posted_by_point core (due_point core d) + (if d.due.ends then posted_by_end core d.table d.next else 0)
