-- What the code keeps of a schedule table that runs: what comes next, and after how many counts.
use Rattle.std.specs.Prelude.{ℕ, suc, ◌+◌, ◌-◌, ◌%◌, ◌≤◌, ◌==◌, ◌||◌, nat_le, nat_lt, if◌then◌else◌, IsTrue, Option, Some, None, is_some, length, filter, option_and_then, slice_get}
use Rattle.std.specs.{List.list_all, Option.option_map_or}
use Rattle.osbase.specs.Counting.{TableRun, TableState, Stopped, NextOf, Running}
use Rattle.osplan.specs.{declared.plans.ExpiryPoint.ExpiryPoint, declared.plans.Table.Table as TablePlan}
use Rattle.ostable.specs.{declared.table.Ahead.Ahead, declared.table.Due.Due, declared.table.Table.Table, declared.table.TableStatus.TableStatus}
use Rattle.ostable.specs.Periods.{are_ascending, count_in_period, counts_run, number_of_point}

-- The table has at most 16 points, by ascending offsets, and none beyond the duration. The duration is 1 to 1000000000.
-- This holds of each table of a configuration within its limits.
pub record IsTimed (t : TablePlan) : Type 0 where
  pub few : length t.points ≤ 16
  pub ascending : IsTrue (are_ascending t.points)
  pub within : IsTrue (list_all (λ (point : ExpiryPoint). nat_le point.offset t.duration) t.points)
  pub lasting : 1 ≤ t.duration
  pub bounded : t.duration ≤ 1000000000

-- ---- as functions of the counts so far

-- The count of a period at which the expiry point of this number is due; past the last one, the end of the period.
abbrev pub count_of_next : TablePlan → ℕ → ℕ
count_of_next t next = option_map_or (λ (point : ExpiryPoint). point.offset) (slice_get t.points next) t.duration

-- How many points are due up to and including this count of a period.
abbrev pub points_until : TablePlan → ℕ → ℕ
points_until t count = length (filter (λ (point : ExpiryPoint). nat_le point.offset count) t.points)

-- What comes next after this count of a period, and after how many counts. The count is not the last of the period.
abbrev pub ahead_in : TablePlan → ℕ → Ahead
ahead_in t count = record { next = points_until t count; distance = count_of_next t (points_until t count) - count }

-- What comes next of a table that runs, and after how many counts: a point or, past the last one, the end of the
-- period. While the table waits for its first period, the first point comes next.
abbrev pub ahead_at : TablePlan → TableRun → Ahead
ahead_at t run =
    if nat_lt run.counts run.wait then record { next = 0; distance = (run.wait - run.counts) + count_of_next t 0 }
    else ahead_in t ((run.counts - run.wait) % t.duration)

-- What the code keeps of a table: that it is stopped, for which table it waits or, if it runs, what comes next.
abbrev pub table_at : TablePlan → TableState → Table
table_at t Stopped = Table.Stopped
table_at t (NextOf s) = Table.NextOf s
table_at t (Running run) = Table.Running (ahead_at t run)

-- Whether the table is stopped, waits or runs. [AUTOSAR SWS OS 4.x, ScheduleTableStatusType]
abbrev pub status_of : TableState → TableStatus
status_of Stopped = TableStatus.Stopped
status_of (NextOf s) = TableStatus.Next
status_of (Running run) = TableStatus.Running

-- ---- what is due

-- What is due at a count of a period: a point, if one is due, and whether the period ends. [AUTOSAR SWS OS 4.x, section
-- 7.3.3]
abbrev pub due_in : TablePlan → ℕ → Due
due_in t count = record { point = number_of_point count t.points; ends = count == t.duration }

-- What is due, if it is a point or the end of a period; else none.
abbrev pub if_any : Due → Option Due
if_any due = if is_some due.point || due.ends then Some due else None

-- What is due at the present count of the counter of a table that runs; none if nothing is due.
abbrev pub due_of_run : TablePlan → TableRun → Option Due
due_of_run t run = option_and_then (λ (n : ℕ). if_any (due_in t (count_in_period t.duration n))) (counts_run run)

-- What is due at the present count of the table's counter; none if nothing is due, or if the table does not run.
abbrev pub due_at : TablePlan → TableState → Option Due
due_at t (Running run) = due_of_run t run
due_at t state = None

-- ---- what the code does

-- What a table does at the count at which `next` is due: the expiry point of this number, if there is one, and whether
-- a period ends.
abbrev pub due_of_next : TablePlan → ℕ → Due
due_of_next t next = record { point = (if is_some (slice_get t.points next) then Some next else None); ends = count_of_next t next == t.duration }

-- What a table that runs does at the next count of its counter; none if nothing is due.
abbrev pub due_after : TablePlan → Ahead → Option Due
due_after t ahead = if nat_le ahead.distance 1 then Some (due_of_next t ahead.next) else None

-- What a table does at the next count of its counter; none if nothing is due, or if the table does not run.
abbrev pub due_next : TablePlan → Table → Option Due
due_next t (Table.Running ahead) = due_after t ahead
due_next t table = None

-- What comes next, and after how many counts, after the count at which `next` is due: in the next period if this one
-- ends at that count, else in the same one.
abbrev pub beyond_next : TablePlan → ℕ → Ahead
beyond_next t next =
    if count_of_next t next == t.duration then ahead_in t 0 else record { next = suc next; distance = count_of_next t (suc next) - count_of_next t next }

-- What comes next, and after how many counts, once one more count has passed.
abbrev pub ahead_beyond : TablePlan → Ahead → Ahead
ahead_beyond t ahead = if nat_le ahead.distance 1 then beyond_next t ahead.next else record ahead { distance = ahead.distance - 1 }

-- The table after one more count of its counter.
abbrev pub table_beyond : TablePlan → Table → Table
table_beyond t (Table.Running ahead) = Table.Running (ahead_beyond t ahead)
table_beyond t table = table
