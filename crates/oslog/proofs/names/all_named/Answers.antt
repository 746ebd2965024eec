use Rattle.std.proofs.Common.{rules}
use Rattle.oslog.proofs.Named.{few, few-common}
use Rattle.oslog.proofs.names.all_named.Goals as goal

pub push_core-requires : goal.push_core-requires
push_core-requires c = few c.args.plan.now c.requires c.loop-core.core-index c.core-item.result (search rules) (search rules)

pub push_common-requires : goal.push_common-requires
push_common-requires c = few-common c.args.plan.now c.requires
