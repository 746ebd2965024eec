use Rattle.std.proofs.Common.{length, ap, arith}
use Rattle.osgroup.proofs.Least.{within-all, within-next}
use Rattle.osgroup.proofs.groups.least_of.Goals as goal

pub loop-round-preserved : goal.loop-round-preserved
loop-round-preserved c =
    within-next c.args.plan.now c.requires c.args.core c.loop-round._round c.rows_of-rows.result c.loop-round.cores c.after_round-cores.result c.rows_of-rows.ensures c.loop-round.invariant
    (rw c.as_slice-all.ensures at c.after_round-cores.ensures)

pub returns : goal.returns
returns c = within-all c.args.plan.now c.args.core c.loop-round._round c.loop-round.cores (omega (arith, ap length c.as_slice-all.ensures)) c.loop-round.invariant
