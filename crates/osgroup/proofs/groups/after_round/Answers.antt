use Rattle.std.proofs.Common.{length-set, ◌∙◌}
use Rattle.osgroup.specs.Least.{is_next}
use Rattle.osseparate.proofs.Starting.{flags-more}
use Rattle.osgroup.proofs.groups.after_round.Goals as goal

pub loop-number-preserved : goal.loop-number-preserved
loop-number-preserved c = record {
  len = length-set c.loop-number.members c.from.result c.is_next.result ∙ c.loop-number.invariant.len;
  flags = rw c.from.ensures (flags-more (λ k. is_next c.args.all.now c.args.rows.now c.args.cores.now (record { number = k })) c.loop-number.members c.loop-number.number c.is_next.result c.loop-number.invariant.len c.loop-number-test.true c.is_next.ensures c.loop-number.invariant.flags);
}
