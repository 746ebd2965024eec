-- Operations and the calls that they make, in both directions. The checker makes a case of each operation and each
-- call, so a new one needs no line here. A clause for Op.Work only serves to make these cases.
use native.Mathlib.Omega.{arith}
use Rattle.std.proofs.Common.{◌≡◌, true, Some, option_and_then, [], ◌∷◌, refl, ap, ◌∙◌}
use Rattle.osbase.specs.{declared.messages.RemoteCall.RemoteCall, Objects.object_of_call}
use Rattle.oscript.specs.{declared.Op.Op, Rows.objects_of}
use Rattle.oscript.specs.Calls.{action_of_op, if_action, is_action, named_call, op_of_call}

-- The operation of a call names the call's object and no other.
pub call-objects : (call : RemoteCall) → objects_of (op_of_call call) ≡ object_of_call call ∷ []
call-objects call = grind arith

-- The call of a call's operation is that call.
pub call-back : (call : RemoteCall) → named_call (op_of_call call) ≡ Some call
call-back call = grind arith

-- If a call is an action, it is the action of its operation.
pub action-back : (call : RemoteCall) → is_action call ≡ true → action_of_op (op_of_call call) ≡ Some call
action-back call is = ap (option_and_then if_action) (call-back call) ∙ rw is refl

-- An operation that has a call names the call's object and no other.
pub called-object : (op : Op) (call : RemoteCall) → named_call op ≡ Some call → objects_of op ≡ object_of_call call ∷ []
called-object Op.Work call e = cc
called-object op call e = grind arith

-- An operation that is an action is the one that a script has for that action.
pub record IsActionOf (op : Op) (call : RemoteCall) : Type 0 where
  pub written : op_of_call call ≡ op
  pub acts : is_action call ≡ true

pub action-is : (op : Op) (call : RemoteCall) → action_of_op op ≡ Some call → IsActionOf op call
action-is Op.Work call e = cc
action-is op call e = record { written = grind arith; acts = grind arith }
