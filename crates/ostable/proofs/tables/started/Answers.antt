use Rattle.std.proofs.Common.{◌≡◌, Some, rules}
use Rattle.osplan.specs.View.{own_table}
use Rattle.ostable.proofs.Timed.{timed}
use Rattle.ostable.proofs.tables.started.Goals as goal

pub start_rel-requires-clause-timed : goal.start_rel-requires-clause-timed
start_rel-requires-clause-timed c =
    let own : own_table c.args.core.now c.args.table ≡ Some c.in-Some.plan.now = search rules in
    timed c.args.core.now c.args.table c.in-Some.plan.now c.requires.within own
