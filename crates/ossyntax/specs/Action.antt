-- Texts of actions: the operations that an alarm or a schedule table can do. [AUTOSAR SWS OS 4.x, OsAlarmAction; the
-- texts are own]
use Rattle.std.specs.Prelude.{ℕ, Bool, false, is_some, List}
use Rattle.std.specs.Option.{option_map_or}
use Rattle.oscript.specs.{Calls.action_of_op, declared.Op.Op}
use Rattle.ossyntax.specs.Operation.{op_of_text, place_of_any}

-- The operation is an action: it names its object, and an alarm may make its call.
abbrev pub is_action_op : Op → Bool
is_action_op op = is_some (action_of_op op)

-- The text is a well-formed action. What the name in it refers to is not checked.
abbrev pub is_action : List ℕ → Bool
is_action text = option_map_or is_action_op (op_of_text place_of_any text) false
