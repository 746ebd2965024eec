-- No table is processed twice at one count, whether it is due or begins where another one's period ends.
use Rattle.std.proofs.Common.{◌≡◌, ℕ, ◌+◌, ◌≤◌, Bool, true, false, cond, Option, Some, None, is_some, option_map, length, List, sum_by, refl, ap, sym, subst, ◌∙◌, arith}
use Rattle.std.specs.Option.{option_map_or}
use Rattle.std.proofs.{lemmas.Bool.false≢true, lemmas.List.Sums.sum_by-le-sum_by}
use Rattle.osbase.specs.{declared.references.CounterRef.CounterRef, declared.references.TableRef.TableRef, Counting.same_counter, Counting.same_table, History.History, Sets.numbers_from}
use Rattle.osplan.specs.{declared.plans.Core.Core, declared.plans.Table.Table as TablePlan, Clocked.are_clocks_within, View.own_table}
use Rattle.osbase.proofs.Same.{same_counter-true, same_table-true}
use Rattle.osattached.proofs.Sums.{at-most-once, sum-across, sum-both, sum-kept, sum-mapped, sum-none}
use Rattle.ostable.specs.{declared.table.Due.Due, declared.table.Table.Table, declared.tables.DueTable.DueTable, Ahead.due_next}
use Rattle.ostable.specs.Tables.{TableStates, due_in, due_table, due_tables_by, due_tables_in, is_next_in, is_timed_by, next_in, table_in, table_ref, table_refs, tables_of, timed_by}
use Rattle.ostable.specs.Waiting.{all_wait_by_counter, are_of_one_counter, waits_by_counter, with_next}
use Rattle.ostable.proofs.{Asked.dues-read, Sums.found-le, Sums.sum-made}

-- ---- one table of a core is at one place

sum-once : (core : Core) (s : TableRef) (k : ℕ) → sum_by (λ (u : TableRef). cond (same_table s u) k 0) (table_refs core) ≤ k
sum-once core s k =
    omega (
      arith,
      sum-mapped (λ (u : TableRef). cond (same_table s u) k 0) (table_ref core) (numbers_from 0 (length core.tables)),
      at-most-once (λ (n : ℕ). same_table s (table_ref core n)) k 0 (length core.tables)
          (λ m n one other. ap (λ (u : TableRef). u.index) (sym (same_table-true s (table_ref core m) one) ∙ same_table-true s (table_ref core n) other)),
    )

-- ---- a table that waits uses the same counter as the table that it waits for

next-on : (core : Core) (c : CounterRef) (s u : TableRef) → is_timed_by core c s ≡ true → (table : Table) → waits_by_counter core u table ≡ true → is_next_in s table ≡ true → is_timed_by core c u ≡ true
next-on core c s u on Table.Stopped near is = absurd (false≢true is)
next-on core c s u on (Table.Running ahead) near is = absurd (false≢true is)
next-on core c s u on (Table.NextOf t) near is = by (own_table core s) (own_table core u) on (ap (λ (x : TableRef). are_of_one_counter core x u) (sym (same_table-true t s is)) ∙ near)
  where
    by : (o r : Option TablePlan) → option_map_or (λ (x : TablePlan). same_counter c x.counter) o false ≡ true
        → option_map_or (λ (x : TablePlan). option_map_or (λ (y : TablePlan). same_counter x.counter y.counter) r false) o false ≡ true
        → option_map_or (λ (y : TablePlan). same_counter c y.counter) r false ≡ true
    by None r one both = absurd (false≢true one)
    by (Some x) None one both = absurd (false≢true both)
    by (Some x) (Some y) one both = ap (λ (d : CounterRef). same_counter d y.counter) (same_counter-true c x.counter one) ∙ both

-- ---- the bound

module _ (core : Core) (c : CounterRef) (x : TableStates) (f : TableRef → ℕ) where
  -- what a due table adds, and what a table adds that begins in the place of another one
  abbrev amount : TableRef → ℕ
  amount u = cond (is_timed_by core c u) (f u) 0

  abbrev itself : TableRef → ℕ
  itself u = cond (is_some (due_in core u x)) (amount u) 0

  abbrev in_place : TableRef → TableRef → ℕ
  in_place s u = cond (is_next_in s (table_in u x)) (amount u) 0

  abbrev whole : TableRef → ℕ
  whole s = cond (is_timed_by core c s) (option_map_or (with_next f) (option_map (due_table s (next_in core s x)) (due_in core s x)) 0) 0

  whole-le : all_wait_by_counter core x ≡ true → (s : TableRef) → whole s ≤ itself s + sum_by (in_place s) (table_refs core)
  whole-le near s = by (is_timed_by core c s) refl (due_in core s x)
    where
      by : (b : Bool) → is_timed_by core c s ≡ b → (o : Option Due)
          → cond b (option_map_or (with_next f) (option_map (due_table s (next_in core s x)) o) 0) 0 ≤ cond (is_some o) (cond b (f s) 0) 0 + sum_by (in_place s) (table_refs core)
      by false e o = omega arith
      by true e None = omega arith
      by true e (Some due) = ends due.ends (found-le (λ (u : TableRef). waits_by_counter core u (table_in u x)) (λ (u : TableRef). is_next_in s (table_in u x)) (is_timed_by core c) f (λ u. next-on core c s u e (table_in u x)) (table_refs core) near)
        where
          ends : (b : Bool) → option_map_or f (next_in core s x) 0 ≤ sum_by (in_place s) (table_refs core) → f s + option_map_or f (cond b (next_in core s x) None) 0 ≤ f s + sum_by (in_place s) (table_refs core)
          ends true le = omega (arith, le)
          ends false le = omega arith

  -- a table that waits is not due, and waits for one table only
  once : (u : TableRef) → itself u + sum_by (λ (s : TableRef). in_place s u) (table_refs core) ≤ amount u
  once u = by (own_table core u) (table_in u x)
    where
      least : (b : Bool) → cond b (amount u) 0 ≤ amount u
      least true = omega arith
      least false = omega arith

      by : (o : Option TablePlan) (table : Table) → cond (is_some (option_map_or (λ (t : TablePlan). due_next t table) o None)) (amount u) 0 + sum_by (λ (s : TableRef). cond (is_next_in s table) (amount u) 0) (table_refs core) ≤ amount u
      by o Table.Stopped = omega (arith, least (is_some (option_map_or (λ (t : TablePlan). due_next t Table.Stopped) o None)), sum-none (table_refs core))
      by o (Table.Running ahead) = omega (arith, least (is_some (option_map_or (λ (t : TablePlan). due_next t (Table.Running ahead)) o None)), sum-none (table_refs core))
      by None (Table.NextOf t) = omega (arith, sum-once core t (amount u))
      by (Some plan) (Table.NextOf t) = omega (arith, sum-once core t (amount u))

  pub posted-in : all_wait_by_counter core x ≡ true → sum_by (with_next f) (due_tables_in core c x) ≤ sum_by f (timed_by core c)
  posted-in near =
      omega (
        arith,
        sum-made (λ (s : TableRef). option_map (due_table s (next_in core s x)) (due_in core s x)) (with_next f) (timed_by core c),
        sum-kept (is_timed_by core c) (λ (s : TableRef). option_map_or (with_next f) (option_map (due_table s (next_in core s x)) (due_in core s x)) 0) (table_refs core),
        sum_by-le-sum_by whole (λ (s : TableRef). itself s + sum_by (in_place s) (table_refs core)) (table_refs core) (whole-le near),
        sum-both itself (λ (s : TableRef). sum_by (in_place s) (table_refs core)) (table_refs core),
        sum-across in_place (table_refs core) (table_refs core),
        sum-both itself (λ (u : TableRef). sum_by (λ (s : TableRef). in_place s u) (table_refs core)) (table_refs core),
        sum_by-le-sum_by (λ (u : TableRef). itself u + sum_by (λ (s : TableRef). in_place s u) (table_refs core)) amount (table_refs core) once,
        sum-kept (is_timed_by core c) f (table_refs core),
      )

-- the same, read off a history
pub posted-by : (core : Core) (c : CounterRef) (h : History) (f : TableRef → ℕ) → are_clocks_within core ≡ true → all_wait_by_counter core (tables_of core h) ≡ true
    → sum_by (with_next f) (due_tables_by core c h) ≤ sum_by f (timed_by core c)
posted-by core c h f within near = subst (λ (due : List DueTable). sum_by (with_next f) due ≤ sum_by f (timed_by core c)) (dues-read core c h within) (posted-in core c (tables_of core h) f near)
