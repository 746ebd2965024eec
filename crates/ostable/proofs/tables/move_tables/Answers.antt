use Rattle.std.proofs.Common.{◌≡◌, Some, get_or, rules}
use Rattle.osbase.specs.declared.references.TableRef.{TableRef}
use Rattle.osplan.specs.View.{own_table}
use Rattle.ostable.proofs.Timed.{timed}
use Rattle.ostable.proofs.tables.move_tables.Goals as goal

pub advance-requires : goal.advance-requires
advance-requires c =
    let table : TableRef = get_or c.args.timed.now c.loop-table.table-index (record { core = record { number = 0 }; index = 0 }) in
    let own : own_table c.args.core.now table ≡ Some c.in-Some.plan.now = search rules in
    record { timed = timed c.args.core.now table c.in-Some.plan.now c.requires.within own }
