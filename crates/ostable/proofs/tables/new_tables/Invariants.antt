use Rattle.std.proofs.Common.{◌≡◌, replicate}
use Rattle.ostable.specs.declared.table.Table.{Table}
use Rattle.ostable.proofs.tables.new_tables.Given as goal

abbrev pub invariant-loop-table : goal.invariant-loop-table
invariant-loop-table l = l.tables.items ≡ replicate l._table Table.Stopped
