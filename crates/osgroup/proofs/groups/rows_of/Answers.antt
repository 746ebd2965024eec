use Rattle.std.proofs.Common.{length-set, ◌∙◌}
use Rattle.osgroup.proofs.Rows.{rows-more}
use Rattle.osgroup.proofs.groups.rows_of.Goals as goal

pub loop-number-preserved : goal.loop-number-preserved
loop-number-preserved c = record {
  len = length-set c.loop-number.rows c.from.result c.row_of.result ∙ c.loop-number.invariant.len;
  rows = rw c.from.ensures (rows-more c.args.plan.now c.loop-number.rows c.loop-number.number c.row_of.result c.loop-number.invariant.len c.loop-number-test.true c.row_of.ensures c.loop-number.invariant.rows);
}
