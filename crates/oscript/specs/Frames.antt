-- Where a job is in its script, and how one operation changes that.
use Rattle.std.specs.Prelude.{ℕ, ◌+◌, ◌==◌, ℤ, pos, negsuc, Bool, false, if◌then◌else◌, Option, Some, None, is_some, List, [], ◌∷◌, slice_get, slice_index_or, slice_set}
use Rattle.std.specs.Option.{option_map_or}
use Rattle.osbase.specs.{declared.statuses.Status.Status, declared.statuses.Status.TheVariants.EOk, declared.statuses.ServiceId.ServiceId, declared.references.Variable.Variable}
use Rattle.oscript.specs.{declared.Op.Op, declared.Frame.Frame, declared.Action.Action, declared.Action.TheVariants.Perform, declared.Action.TheVariants.End, Rows.service_of, Rows.parsed_op_of}

-- The service that an operation calls, if it calls one that returns a status. [own]
abbrev pub service_of_op : Op → Option ServiceId
service_of_op op = service_of (parsed_op_of op).0

-- The operation calls a service that returns a status.
abbrev pub op_has_status : Op → Bool
op_has_status op = is_some (service_of_op op)

-- The variable to which an operation assigns a value, if there is one. [own]
abbrev pub result_of : Op → Option Variable
result_of (Op.Set x n) = Some x
result_of (Op.Add x n) = Some x
result_of (Op.AddVariable x y) = Some x
result_of (Op.StoreStatus x) = Some x
result_of (Op.GetEvent target x) = Some x
result_of (Op.GetCounterValue target x) = Some x
result_of (Op.GetAlarm target x) = Some x
result_of (Op.GetScheduleTableStatus target x) = Some x
result_of (Op.GetNumberOfActivatedCores x) = Some x
result_of (Op.TryToGetSpinlock target x) = Some x
result_of op = None

-- The place in the script that an operation names as its target, if it is a jump. [own]
abbrev pub position_of : Op → Option ℕ
position_of (Op.Jump n) = Some n
position_of (Op.JumpIfZero x n) = Some n
position_of op = None

-- What a job does at the frame's place in the script: the operation there, or its end if the place is past the last
-- operation. [own]
abbrev pub action_at : List Op → Frame → Action
action_at script frame = option_map_or Perform (slice_get script frame.pc) End

-- The frame with which the first job of a task or an ISR begins: operation 0, status E_OK and all variables 0. [own]
abbrev pub new_frame : Frame
new_frame = record { pc = 0; status = EOk; vars = pos 0 ∷ pos 0 ∷ pos 0 ∷ pos 0 ∷ pos 0 ∷ pos 0 ∷ pos 0 ∷ pos 0 ∷ [] }

-- The frame with which the next job of the same task or ISR begins: operation 0 and status E_OK, too. The variables are
-- as the last job left them. [own]
abbrev pub rewound : Frame → Frame
rewound frame = record frame { pc = 0; status = EOk }

-- The number that a variable holds; 0 if there is no such variable.
abbrev pub value_of : Variable → Frame → ℤ
value_of x frame = slice_index_or frame.vars x.index (pos 0)

-- The signed number is 0.
abbrev pub is_zero : ℤ → Bool
is_zero (pos n) = n == 0
is_zero (negsuc n) = false

-- The place in the script at which a job goes on after an operation at the frame's place: the next place, or the target
-- of a jump. `JumpIfZero` jumps only if its variable is 0. [own]
abbrev pub place_after : Op → Frame → ℕ
place_after (Op.Jump n) frame = n
place_after (Op.JumpIfZero x n) frame = if is_zero (value_of x frame) then n else frame.pc + 1
place_after op frame = frame.pc + 1

-- The frame with this number in the variable, if there is such a variable.
abbrev pub with_value : Variable → ℤ → Frame → Frame
with_value x n frame = record frame { vars = slice_set frame.vars x.index n }

-- The frame with the value in the variable, if there are both; else the frame as it is.
abbrev pub stored : Option Variable → Option ℤ → Frame → Frame
stored (Some x) (Some n) frame = with_value x n frame
stored (Some x) None frame = frame
stored None value frame = frame

-- The frame after an operation: the job is at its next operation. The status of a service becomes the job's last
-- status, and a value is stored in the operation's variable. Past the last operation nothing changes. [own]
abbrev pub completed_by : Action → Frame → Status → Option ℤ → Frame
completed_by End frame status value = frame
completed_by (Perform op) frame status value =
    stored (result_of op) value (record frame { pc = place_after op frame; status = (if op_has_status op then status else frame.status) })

-- The frame after the operation at its place in the script, which answered this status and value.
abbrev pub completed : List Op → Frame → Status → Option ℤ → Frame
completed script frame status value = completed_by (action_at script frame) frame status value
