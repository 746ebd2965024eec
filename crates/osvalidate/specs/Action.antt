-- The actions of alarms and schedule tables, and what the names in them refer to. [own]
use Rattle.std.specs.Prelude.{ℕ, ◌||◌, not, Bool, unwrap_or, List}
use Rattle.osvalidate.specs.{Words.Declaration, Words.RemoteCall, Operation.is_operation_known, Operation.op_of}
use Rattle.oscript.specs.Calls.{action_of_op}
use Rattle.ossyntax.specs.{Action.is_action, Operation.has_masks}
pub use Rattle.oscript.specs.Calls.{any_action}

-- The action that a text means. It is `any_action` if the text is no well-formed action, or the name in it is not that
-- of a task.
abbrev pub action_of : List Declaration → List ℕ → RemoteCall
action_of objects text = unwrap_or (action_of_op (op_of objects text)) any_action

-- If the text is a well-formed action, the name in it is that of a task. Any other text passes.
abbrev pub is_action_known : List Declaration → List ℕ → Bool
is_action_known objects text = not (is_action text) || is_operation_known objects text

-- If the text is a well-formed action, its mask (if it has one) is in its range. Any other text passes.
abbrev pub is_action_masked : List ℕ → Bool
is_action_masked text = not (is_action text) || has_masks text
