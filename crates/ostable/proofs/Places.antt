-- A core's own schedule tables, by place.
use Rattle.std.proofs.Common.{◌≡◌, ℕ, ◌<◌, true, length, refl, ap}
use Rattle.std.specs.List.{slice_get}
use Rattle.osbase.specs.{declared.references.TableRef.TableRef, Objects.table_object, Objects.table_of, Objects.table_place}
use Rattle.osplan.specs.{declared.plans.Core.Core, Objects.is_own_object, View.own_table}
use Rattle.osattached.proofs.Own.{Placed, own-is, own-there}
use Rattle.ostable.specs.Tables.{table_family, table_ref}

-- The family of tables has all of the core's tables, by their places.
abbrev pub placed : (core : Core) → Placed core.id (length core.counters) (table_family core)
placed core = record { place = table_place; plans = core.tables; ref = (λ s is. ap table_of is); at = (λ n. refl); own = (λ s. refl); all = refl }

pub table-is : (core : Core) (s : TableRef) → is_own_object core (table_object s) ≡ true → own_table core s ≡ slice_get core.tables s.index
table-is core s own = own-is (placed core) s own

pub table-own : (core : Core) (n : ℕ) → n < length core.tables → is_own_object core (table_object (table_ref core n)) ≡ true
table-own core n inside = own-there (placed core) n inside
