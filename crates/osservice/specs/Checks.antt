-- Checks: what a service tests before its effect, one after the other.
use Rattle.std.specs.Prelude.{Bool, true, false, if◌then◌else◌, List, [], ◌∷◌}
use Rattle.osbase.specs.{declared.statuses.Status.Status, declared.statuses.Status.TheVariants.EOk}

-- A check: whether it fails, and the status that the service returns then. [own]
abbrev pub Check : Type 0
Check = Bool × Status

-- The status of the first check that fails, else E_OK.
abbrev pub first_failing : List Check → Status
first_failing [] = EOk
first_failing (check ∷ checks) = if check.0 then check.1 else first_failing checks

abbrev pub is_ok_status : Status → Bool
is_ok_status EOk = true
is_ok_status s = false
