use Rattle.std.proofs.Common.{◌≡◌, ◌≤◌, filter_map, length, option_map, take}
use Rattle.osbase.specs.declared.references.TableRef.{TableRef}
use Rattle.ostable.specs.Tables.{due_in, due_table, next_in}
use Rattle.ostable.proofs.tables.Tables.due_next.Given as goal

abbrev pub invariant-loop-table : goal.invariant-loop-table
invariant-loop-table l = record {
  kept : l.due.items ≡ filter_map (λ (s : TableRef). option_map (due_table s (next_in l.core s l.self)) (due_in l.core s l.self)) (take l.table-index l.table-items);
  few : length l.due.items ≤ l.table-index;
}
