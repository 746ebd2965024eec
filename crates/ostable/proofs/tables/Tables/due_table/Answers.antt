use Rattle.std.proofs.Common.{◌≡◌, Some, rules}
use Rattle.osplan.specs.View.{own_table}
use Rattle.ostable.proofs.{Bounds.table-inside, Bounds.tables-length, Timed.timed}
use Rattle.ostable.proofs.tables.Tables.due_table.Goals as goal

pub table-requires : goal.table-requires
table-requires c = table-inside c.args.core.now _ c.requires.tables c.args.table c.requires.own

pub due_next-requires : goal.due_next-requires
due_next-requires c =
    let own : own_table c.args.core.now c.args.table ≡ Some c.in_ok-plan.plan.now = search rules in
    record { timed = timed c.args.core.now c.args.table c.in_ok-plan.plan.now c.requires.tables.within own }

pub next-next-requires : goal.next-next-requires
next-next-requires c = tables-length c.args.core.now _ c.requires.tables
