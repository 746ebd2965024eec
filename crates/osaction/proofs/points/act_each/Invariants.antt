use Rattle.std.proofs.Common.{take}
use Rattle.osaction.specs.{Actions.acts, Points.of_kind}
use Rattle.osaction.proofs.Joining.{posted_by_action}
use Rattle.osservice.proofs.InTurn.{InTurn}
use Rattle.osaction.proofs.points.act_each.Given as goal

abbrev pub invariant-loop-action : goal.invariant-loop-action
invariant-loop-action g l = InTurn acts posted_by_action 2 2 (of_kind l.activating (take l.action-index l.actions)) l.initial.state l.state l.initial.marks l.marks
