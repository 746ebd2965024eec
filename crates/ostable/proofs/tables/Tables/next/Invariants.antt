use Rattle.std.proofs.Common.{◌≡◌, drop}
use Rattle.std.specs.List.{find}
use Rattle.osbase.specs.declared.references.TableRef.{TableRef}
use Rattle.ostable.specs.Tables.{is_next_in, next_in, table_in, table_refs}
use Rattle.ostable.proofs.tables.Tables.next.Given as goal

abbrev pub invariant-loop-index : goal.invariant-loop-index
invariant-loop-index l = find (λ (u : TableRef). is_next_in l.table (table_in u l.self)) (drop l.index (table_refs l.core)) ≡ next_in l.core l.table l.self
