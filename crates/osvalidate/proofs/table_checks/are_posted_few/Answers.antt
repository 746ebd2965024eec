use Rattle.std.proofs.Common.{◌≤◌, arith}
use Rattle.osvalidate.proofs.Numbers.{alarms_small, tables_small}
use Rattle.osvalidate.proofs.table_checks.are_posted_few.Goals as goal

pub posted_by_tables-by_tables-requires : goal.posted_by_tables-by_tables-requires
posted_by_tables-by_tables-requires c = rw c.as_slice-2.ensures (omega (arith, tables_small c.args.objects.now.declared c.number_id-id.result c.args.core.now.tables c.requires.tables))

pub overflow_add-result : goal.overflow_add-result
overflow_add-result c =
    let objects = c.args.objects.now.declared in
    let id = c.number_id-id.result in
    let core = c.args.core.now in
    let alarms : c.posted_by_alarms-by_alarms.result ≤ 32 = rw (c.posted_by_alarms-by_alarms.ensures, c.as_slice.ensures) (alarms_small objects id core.alarms c.requires.alarms) in
    let tables : c.posted_by_tables-by_tables.result ≤ 64 = rw (c.posted_by_tables-by_tables.ensures, c.as_slice-2.ensures) (tables_small objects id core.tables c.requires.tables) in
    omega arith
