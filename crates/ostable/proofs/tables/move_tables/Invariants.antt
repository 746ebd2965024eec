use Rattle.std.proofs.Common.{◌≡◌, drop, length}
use Rattle.ostable.specs.Tables.{each_moved}
use Rattle.ostable.proofs.tables.move_tables.Given as goal

abbrev pub invariant-loop-table : goal.invariant-loop-table
invariant-loop-table l = record {
  told : each_moved l.core (drop l.table-index l.timed) l.tables.items ≡ each_moved l.core l.timed l.initial.tables.items;
  long : length l.tables.items ≡ length l.initial.tables.items;
}
