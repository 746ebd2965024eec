use Rattle.std.specs.Option.{option_copied}
use Rattle.osexpiry.proofs.Actions.{known-if-point}
use Rattle.osexpiry.proofs.expiry_points.due_point.Goals as goal

pub returns-clause-known : goal.returns-clause-known
returns-clause-known g c =
    known-if-point c.args.state.now.view.own c.args.due.table c.in_ok-table.table.now c.table.ensures.within c.in_ok-table.ensures.value c.in_ok-table.ensures.known c.in_ok-number.number (option_copied c.point_at.result) c.point_at.ensures
