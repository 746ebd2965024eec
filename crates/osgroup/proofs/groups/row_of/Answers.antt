use Rattle.std.proofs.Common.{length-set, ◌∙◌}
use Rattle.osgroup.specs.Least.{has_say_at}
use Rattle.osseparate.proofs.Starting.{flags-more}
use Rattle.osgroup.proofs.groups.row_of.Goals as goal

pub loop-number-preserved : goal.loop-number-preserved
loop-number-preserved c = record {
  len = length-set c.loop-number.members c.from.result c.has_say_at.result ∙ c.loop-number.invariant.len;
  flags = rw c.from.ensures (flags-more (λ k. has_say_at c.args.plan.now c.args.at (record { number = k })) c.loop-number.members c.loop-number.number c.has_say_at.result c.loop-number.invariant.len c.loop-number-test.true c.has_say_at.ensures c.loop-number.invariant.flags);
}
