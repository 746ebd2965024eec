-- What the standard says of a schedule table at a count of its counter: its point that is due, and whether a period
-- ends.
use Rattle.std.specs.Prelude.{◌≡◌, ◌↔◌, ◌≤◌, ℕ, ◌+◌, ◌*◌, Bool, false, Option, Some, IsTrue, option_and_then, slice_get}
use Rattle.std.specs.Option.{option_map_or}
use Rattle.osbase.specs.{declared.references.TableRef.TableRef, Counting.TableState, Counting.Running, Counting.same_table}
use Rattle.osbase.specs.History.{Entry, Noted, TableStarted, TableStopped, TableNext}
use Rattle.osplan.specs.{declared.plans.ExpiryPoint.ExpiryPoint, declared.plans.Table.Table as TablePlan}
use Rattle.ostable.specs.{declared.table.Due.Due, Ahead.due_at}

-- The state of a table that was started `counts` counts ago. Its first period begins `wait` counts after the start.
abbrev pub running_for : ℕ → ℕ → TableState
running_for wait counts = Running (record { wait = wait; counts = counts })

-- The number of the point that is due at the present count of the table's counter; none if no point is due. [AUTOSAR
-- SWS OS 4.x, section 7.3.3]
abbrev pub due_point : TablePlan → TableState → Option ℕ
due_point t state = option_and_then (λ (due : Due). due.point) (due_at t state)

-- A period ends at the present count of the table's counter. [AUTOSAR SWS OS 4.x, section 7.3.3]
abbrev pub is_end : TablePlan → TableState → Bool
is_end t state = option_map_or (λ (due : Due). due.ends) (due_at t state) false

-- The table's points are due and its periods end as the standard says. The table was started `counts` counts ago, and
-- its first period begins `wait` counts after the start. This holds of each table of a configuration within its limits,
-- as long as it runs. A table that does not repeat is stopped at the end of its first period. [AUTOSAR SWS OS 4.x,
-- section 7.3.3]
pub record IsPeriodic (t : TablePlan) (wait counts : ℕ) : Type 0 where
  -- A point of offset 1 or more is due exactly if `counts` is the sum of `wait`, some whole durations and the offset.
  pub points : (n : ℕ) (point : ExpiryPoint) → slice_get t.points n ≡ Some point → 1 ≤ point.offset
      → (due_point t (running_for wait counts) ≡ Some n) ↔ ((p : ℕ) × (counts ≡ wait + p * t.duration + point.offset))
  -- An expiry point of offset 0 is due exactly where the first period begins. In later periods it is not due: it is
  -- processed where the period before ends.
  pub first : (n : ℕ) (point : ExpiryPoint) → slice_get t.points n ≡ Some point → point.offset ≡ 0 → (due_point t (running_for wait counts) ≡ Some n) ↔ (counts ≡ wait)
  -- A period ends a duration after it began.
  pub ends : IsTrue (is_end t (running_for wait counts)) ↔ ((p : ℕ) × (counts ≡ wait + (p + 1) * t.duration))

-- The entry starts the table, stops it or lets it wait. Without such an entry a table that runs moves on with each
-- count of its counter.
abbrev pub concerns : TableRef → Entry → Bool
concerns s (Noted (TableStarted t wait)) = same_table t s
concerns s (Noted (TableStopped t)) = same_table t s
concerns s (Noted (TableNext t u)) = same_table u s
concerns s e = false
