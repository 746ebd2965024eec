-- Each table uses at most one counter, so the sum over all counters is at most the sum over all tables.
use Rattle.std.proofs.Common.{◌≡◌, ℕ, suc, ◌+◌, ◌≤◌, Option, Some, None, length, List, [], ◌∷◌, map, sum_by, refl, ap, sym, ◌∙◌, arith}
use Rattle.std.specs.{List.slice_get, Option.option_map_or}
use Rattle.std.proofs.{lemmas.Bool.cond-true, lemmas.List.Sums.sum_by-cons}
use Rattle.osbase.specs.{declared.references.TableRef.TableRef, History.same_core, Sets.numbers_from}
use Rattle.osbase.proofs.Same.{same_core-refl}
use Rattle.osplan.specs.{declared.plans.Core.Core, declared.plans.Table.Table as TablePlan, View.own_table, Counters.counter_ref}
use Rattle.osattached.proofs.Members.{portions}
use Rattle.ostable.specs.Tables.{table_family, table_ref, table_refs, timed_by}

pub timed-portions : (core : Core) (f : TableRef → ℕ) (count : ℕ) → sum_by (λ (n : ℕ). sum_by f (timed_by core (counter_ref core n))) (numbers_from 0 count) ≤ sum_by f (table_refs core)
timed-portions core f count = portions core.id (table_family core) f count

-- ---- of all tables, as they are configured

plans-from : (core : Core) (g : TablePlan → ℕ) (first : ℕ) (tables : List TablePlan) → ((k : ℕ) → slice_get core.tables (first + k) ≡ slice_get tables k)
    → sum_by (λ (s : TableRef). option_map_or g (own_table core s) 0) (map (table_ref core) (numbers_from first (length tables))) ≡ sum_by g tables
plans-from core g first [] same = refl
plans-from core g first (t ∷ tables) same =
    sum_by-cons (λ (s : TableRef). option_map_or g (own_table core s) 0) (table_ref core first) (map (table_ref core) (numbers_from (first + 1) (length tables)))
    ∙ ap (λ (o : Option TablePlan). option_map_or g o 0 + sum_by (λ (s : TableRef). option_map_or g (own_table core s) 0) (map (table_ref core) (numbers_from (first + 1) (length tables)))) here
    ∙ ap (λ (n : ℕ). g t + n) (plans-from core g (first + 1) tables (λ k. ap (slice_get core.tables) (on k) ∙ same (suc k)))
    ∙ sym (sum_by-cons g t tables)
  where
    at : first ≡ first + 0
    at = omega arith

    on : (k : ℕ) → first + 1 + k ≡ first + suc k
    on k = omega arith

    here : own_table core (table_ref core first) ≡ Some t
    here = cond-true (same_core core.id core.id) (slice_get core.tables first) None (same_core-refl core.id) ∙ ap (slice_get core.tables) at ∙ same 0

pub sum-of-plans : (core : Core) (g : TablePlan → ℕ) → sum_by (λ (s : TableRef). option_map_or g (own_table core s) 0) (table_refs core) ≡ sum_by g core.tables
sum-of-plans core g = plans-from core g 0 core.tables (λ k. ap (slice_get core.tables) (none k))
  where
    none : (k : ℕ) → 0 + k ≡ k
    none k = omega arith
