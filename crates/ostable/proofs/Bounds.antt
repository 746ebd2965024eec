-- The places of a core's tables.
use Rattle.std.proofs.Common.{◌≡◌, ◌<◌, true, All, [], length, get_or, ap, ◌∙◌, arith}
use Rattle.osbase.specs.{declared.references.CounterRef.CounterRef, declared.references.TableRef.TableRef, Objects.counter_object, Objects.table_object}
use Rattle.osplan.specs.{declared.plans.Core.Core, Objects.is_own_object}
use Rattle.osattached.proofs.{Members.list-at as own-list, Own.own-inside, Own.those-inside, Ranges.length-table}
use Rattle.osplan.proofs.Counters.{counter-place}
use Rattle.ostable.specs.Tables.{AreTables, TableStates, table_by, table_family, table_ref, timed_by}
use Rattle.ostable.proofs.Places.{placed}

module _ (core : Core) (x : TableStates) (are : AreTables core x) where
  pub tables-length : length x.tables ≡ length core.tables
  tables-length =
      ap (λ (y : TableStates). length y.tables) are.is
      ∙ length-table (λ n. table_by core (table_ref core n) are.history) (length core.tables)

  pub table-inside : (s : TableRef) → is_own_object core (table_object s) ≡ true → s.index < length x.tables
  table-inside s own = omega (arith, tables-length, own-inside (placed core) s own)

  pub list-at : (c : CounterRef) → is_own_object core (counter_object c) ≡ true → get_or x.timed c.index [] ≡ timed_by core c
  list-at c own = ap (λ (y : TableStates). get_or y.timed c.index []) are.is ∙ own-list core.id (table_family core) (length core.counters) c (counter-place core c own)

  pub timed-inside : (c : CounterRef) → All (λ (s : TableRef). s.index < length x.tables) (timed_by core c)
  timed-inside c = those-inside (placed core) c (length x.tables) tables-length
