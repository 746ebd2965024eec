use Rattle.std.proofs.Common.{◌≡◌, ◌≤◌, ◌+◌, length, arith, Option, Some, None, IfSome, IsTrue, true, rules, sym}
use Rattle.osbase.specs.{declared.messages.RemoteCall.RemoteCall, declared.statuses.ServiceId.ServiceId}
use Rattle.oscript.specs.{declared.Op.Op, Calls.call_of_op}
use Rattle.osplan.specs.{declared.plans.Core.Core, Objects.may_name}
use Rattle.osstate.specs.Sound.{has_objects_of}
use Rattle.osservice.proofs.Called.{called-passes}
use Rattle.oscall.specs.Border.{is_known_call}
use Rattle.oskernel.proofs.operations.do_operation.Goals as goal

-- What is asked for is an object that the operation names.
known-call : (core : Core) (op : Op) (id : ServiceId) (target : Option RemoteCall) → Some (id, target) ≡ call_of_op op → has_objects_of core op ≡ true → IfSome target (λ call. IsTrue (is_known_call core call))
known-call core op id None is known = tt
known-call core op id (Some call) is known = called-passes (may_name core) op id call (sym is) known

pub call-requires : goal.call-requires
call-requires g c =
    let known : IfSome c.in-Some.target (λ call. IsTrue (is_known_call c.args.state.now.view.own call)) = known-call c.args.state.now.view.own c.args.step.op c.in-Some.service c.in-Some.target c.in-Some.ensures c.requires.known in
    let place : length c.args.state.now.border.outbox + 1 ≤ g.row.OUT = omega (arith, c.requires.serves.posts.outbox) in
    search (rules, known, place)
