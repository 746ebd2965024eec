use Rattle.std.proofs.Common.{take}
use Rattle.osexpiry.specs.{Advancing.posted_for, Expiring.expires}
use Rattle.osservice.proofs.InTurn.{InTurn}
use Rattle.osexpiry.proofs.advancing.expire_each.Given as goal

abbrev pub invariant-loop-alarm : goal.invariant-loop-alarm
invariant-loop-alarm g l = InTurn expires posted_for 3 3 (take l.alarm-index l.due) l.initial.state l.state l.initial.marks l.marks
