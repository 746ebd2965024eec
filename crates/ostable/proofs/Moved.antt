-- A change of only a counter's tables is the same as a pass over all tables that leaves the others unchanged.
use Rattle.std.proofs.Common.{◌≡◌, true, List, [], refl, ap, sym, ◌∙◌, get_or}
use Rattle.std.proofs.lemmas.Bool.{cond-true}
use Rattle.osbase.specs.{declared.references.CounterRef.CounterRef, declared.references.TableRef.TableRef, History.Noted, History.CounterIncremented, Objects.counter_object}
use Rattle.osplan.specs.{declared.plans.Core.Core, Objects.is_own_object}
use Rattle.osattached.proofs.Changed.{each-all}
use Rattle.ostable.specs.declared.table.Table.{Table}
use Rattle.ostable.specs.Tables.{AreTables, TableStates, all_moved, each_moved, moved, table_family, tables_by, timed_by}
use Rattle.ostable.proofs.Bounds.{list-at, tables-length}

module _ (core : Core) (c : CounterRef) where
  -- a core's tables after a count
  pub counted-is : (x y : TableStates) (list : List TableRef) (tables : List Table) → y ≡ x → AreTables core x → is_own_object core (counter_object c) ≡ true → list ≡ get_or y.timed c.index [] → tables ≡ each_moved core list y.tables
      → (let u : TableStates = record { tables = tables; timed = y.timed } in u) ≡ tables_by core (Noted (CounterIncremented c)) x
  counted-is x y list tables same are own at is =
      ap (λ (z : List Table). let u : TableStates = record { tables = z; timed = y.timed } in u)
      (is ∙ ap (λ (l : List TableRef). each_moved core l y.tables) (at ∙ ap (λ (z : TableStates). get_or z.timed c.index []) same ∙ list-at core x are c own) ∙ ap (λ (z : TableStates). each_moved core (timed_by core c) z.tables) same
      ∙ each-all (table_family core) c (λ (s : TableRef). s.index) (λ n. refl) (moved core) Table.Stopped x.tables (tables-length core x are))
      ∙ ap (λ (z : TableStates). let u : TableStates = record { tables = all_moved core c x.tables; timed = z.timed } in u) same
      ∙ sym (cond-true (is_own_object core (counter_object c)) (record x { tables = all_moved core c x.tables }) x own)
