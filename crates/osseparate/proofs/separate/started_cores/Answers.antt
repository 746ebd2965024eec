use Rattle.std.proofs.Common.{length, ap, arith}
use Rattle.osplan.proofs.Numbered.{master-low}
use Rattle.osseparate.proofs.Starting.{within-zero, within-suc, started-within}
use Rattle.osseparate.proofs.separate.started_cores.Goals as goal

pub set_of-started-requires : goal.set_of-started-requires
set_of-started-requires c = master-low c.args.plan.now c.requires

pub loop-round-init : goal.loop-round-init
loop-round-init c = within-zero c.args.plan.now c.set_of-started.result c.set_of-started.ensures

pub loop-round-preserved : goal.loop-round-preserved
loop-round-preserved c = within-suc c.args.plan.now c.loop-round._round c.loop-round.started c.after_round-started.result c.requires c.loop-round.invariant (rw c.as_slice-cores.ensures at c.after_round-started.ensures)

pub returns : goal.returns
returns c = started-within c.args.plan.now c.loop-round._round c.loop-round.started c.requires (omega (arith, ap length c.as_slice-cores.ensures)) c.loop-round.invariant
