-- The periods of a schedule table: which of its points is due at which count, and where a period ends.
use Rattle.std.specs.Prelude.{ℕ, zero, suc, ◌-◌, ◌%◌, ◌==◌, ◌&&◌, nat_lt, Bool, true, if◌then◌else◌, Option, Some, None, List, [], ◌∷◌, option_map}
use Rattle.osbase.specs.Counting.{TableRun}
use Rattle.osplan.specs.declared.plans.ExpiryPoint.{ExpiryPoint}

-- How many counts there were since a table's first period began; none while the table waits for that.
abbrev pub counts_run : TableRun → Option ℕ
counts_run run = if nat_lt run.counts run.wait then None else Some (run.counts - run.wait)

-- Which count of a period this is, if each period has this duration. Count 0 is where the first period begins. Each
-- period then has the counts from 1 to its duration. So the end of a period is a count of that period, and not of the
-- next one. [AUTOSAR SWS OS 4.x, section 7.3.3]
abbrev pub count_in_period : ℕ → ℕ → ℕ
count_in_period duration zero = 0
count_in_period duration (suc n) = suc (n % duration)

-- The number of the point that is due at this count of a period; none if no point is due. [AUTOSAR SWS OS 4.x,
-- OsScheduleTblExpPointOffset]
abbrev pub number_of_point : ℕ → List ExpiryPoint → Option ℕ
number_of_point count [] = None
number_of_point count (point ∷ points) = if point.offset == count then Some 0 else option_map suc (number_of_point count points)

-- The points are in the order of ascending offsets. [AUTOSAR SWS OS 4.x, OsScheduleTblExpPointOffset]
abbrev pub are_ascending : List ExpiryPoint → Bool
are_ascending [] = true
are_ascending (point ∷ []) = true
are_ascending (point ∷ next ∷ points) = nat_lt point.offset next.offset && are_ascending (next ∷ points)
