use Rattle.osseparate.proofs.Starting.{AreWithin}
use Rattle.osseparate.proofs.separate.started_cores.Given as goal

abbrev pub invariant-loop-round : goal.invariant-loop-round
invariant-loop-round l = AreWithin l.plan l._round l.started
