use Rattle.std.proofs.Common.{arith}
use Rattle.oslog.specs.Naming.{object_under}
use Rattle.oslog.proofs.Naming.{one-pushed}
use Rattle.oslog.proofs.names.push_objects.Goals as goal

pub loop-core-preserved : goal.loop-core-preserved
loop-core-preserved c = (
  omega arith,
  rw (c.in_ok-push.ensures.ok, c.object_under.ensures) (one-pushed (object_under c.args.core c.args.kind) c.loop-core.index c.args.named.now c.loop-core.named c.loop-core.invariant.1),
)
