-- The tables of a core that took no item.
use Rattle.std.proofs.Common.{◌≡◌, ℕ, Option, Some, None, List, [], length, replicate, refl, ap, ◌∙◌}
use Rattle.std.specs.Option.{option_map_or}
use Rattle.osbase.specs.declared.references.TableRef.{TableRef}
use Rattle.osplan.specs.{declared.plans.Core.Core, declared.plans.Table.Table as TablePlan, View.own_table, Counters.each_by}
use Rattle.osattached.proofs.Ranges.{repeated}
use Rattle.ostable.specs.declared.table.Table.{Table}
use Rattle.ostable.specs.Tables.{TableStates, table_by, table_family, table_ref, table_refs, tables_of}
use Rattle.ostable.proofs.Law.{read, together}

table-begun : (core : Core) (s : TableRef) (o : Option TablePlan) → Table.Stopped ≡ option_map_or (read core s []) o Table.Stopped
table-begun core s None = refl
table-begun core s (Some t) = refl

pub begun : (core : Core) (tables : List Table) (lists : List (List TableRef)) (count : ℕ) → count ≡ length core.tables → tables ≡ replicate count Table.Stopped
    → lists ≡ each_by core (table_family core) (table_refs core) → (let x : TableStates = record { tables = tables; timed = lists } in x) ≡ tables_of core []
begun core tables lists count few are timed =
    together
    (are ∙ ap (λ (n : ℕ). replicate n Table.Stopped) few ∙ repeated Table.Stopped (λ n. table_by core (table_ref core n) []) 0 (length core.tables) (λ n. table-begun core (table_ref core n) (own_table core (table_ref core n))))
    timed
