use Rattle.std.proofs.Common.{rules}
use Rattle.osexpiry.proofs.Actions.{known-point}
use Rattle.osexpiry.proofs.expiry_points.first_point.Goals as goal

pub returns-then-point-eq0-clause-known : goal.returns-then-point-eq0-clause-known
returns-then-point-eq0-clause-known g c =
    known-point c.args.state.now.view.own c.args.table c.in_ok-table.table.now c.table.ensures.within c.in_ok-table.ensures.value c.in_ok-table.ensures.known 0 c.in_ok-point.point.now (search rules)
