-- Tests of a schedule table's status.
use Rattle.std.specs.Prelude.{ℕ, Bool, true, false}
use Rattle.ostable.specs.declared.table.TableStatus.{TableStatus}

abbrev pub is_stopped : TableStatus → Bool
is_stopped TableStatus.Stopped = true
is_stopped status = false

abbrev pub is_running : TableStatus → Bool
is_running TableStatus.Running = true
is_running status = false

-- The number of a status: 0 for stopped, 1 for waiting for another table, 2 for running. [AUTOSAR SWS OS 4.x,
-- SWS_Os_00289 to SWS_Os_00291; the numbers: own]
abbrev pub number_of : TableStatus → ℕ
number_of TableStatus.Stopped = 0
number_of TableStatus.Next = 1
number_of TableStatus.Running = 2
