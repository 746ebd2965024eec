-- If entries make tables wait only for those of their own counter, no table waits for one of another counter.
use Rattle.std.proofs.Common.{◌≡◌, ℕ, zero, suc, ◌+◌, ◌<◌, Bool, true, false, cond, Option, Some, None, length, [], ◌∷◌, map, refl, ap, sym, ◌∙◌, arith}
use Rattle.std.specs.{List.list_all, Option.option_map_or}
use Rattle.std.proofs.lemmas.Bool.{and_from, and_parts}
use Rattle.osbase.specs.{declared.references.CounterRef.CounterRef, declared.references.TableRef.TableRef, Sets.numbers_from}
use Rattle.osbase.specs.Counting.{TableState, Stopped, NextOf, Running, counted_once, same_counter, same_table, started_after, table_after, table_state}
use Rattle.osbase.specs.History.{History, Entry, Noted, CounterIncremented, TableStarted, TableStopped, TableNext}
use Rattle.osplan.specs.{declared.plans.Core.Core, declared.plans.Table.Table as TablePlan, View.own_table}
use Rattle.ostable.specs.{declared.table.Table.Table, Ahead.table_at}
use Rattle.ostable.specs.Tables.{AreTables, TableStates, table_in, table_ref, tables_by, tables_of}
use Rattle.ostable.specs.Waiting.{all_wait_by_counter, are_of_one_counter, is_next_by_counter, waits_by_counter}
use Rattle.ostable.proofs.{Law.after, Law.read, Law.table-there, Places.table-own}
use Rattle.osbase.proofs.Same.{same_table-true}

-- ---- each of a range

all-in : {A : Type 0} (p : A → Bool) (F : ℕ → A) (first count : ℕ) → ((n : ℕ) → n < first + count → p (F n) ≡ true) → list_all p (map F (numbers_from first count)) ≡ true
all-in p F first zero each = refl
all-in p F first (suc count) each = and_from _ _ (each first (omega arith)) (all-in p F (first + 1) count (λ n h. each n (omega (arith, h))))

-- if each passes a test, and all that pass it pass another, each passes that one
all-so : {A : Type 0} (p q : A → Bool) (F : ℕ → A) (first count : ℕ) → ((n : ℕ) → n < first + count → p (F n) ≡ true → q (F n) ≡ true) → list_all p (map F (numbers_from first count)) ≡ true → list_all q (map F (numbers_from first count)) ≡ true
all-so p q F first zero so all = refl
all-so p q F first (suc count) so all =
    let both = and_parts (p (F first)) (list_all p (map F (numbers_from (first + 1) count))) all in
    and_from _ _ (so first (omega arith) both.0) (all-so p q F (first + 1) count (λ n h. so n (omega (arith, h))) both.1)

-- ---- by the state of a table

abbrev fits : Core → TableRef → TableState → Bool
fits core u (NextOf s) = are_of_one_counter core s u
fits core u state = true

fits-at : (core : Core) (u : TableRef) (t : TablePlan) (state : TableState) → waits_by_counter core u (table_at t state) ≡ fits core u state
fits-at core u t Stopped = refl
fits-at core u t (NextOf s) = refl
fits-at core u t (Running run) = refl

fits-counted : (core : Core) (u : TableRef) (b : Bool) (state : TableState) → fits core u (cond b (counted_once state) state) ≡ fits core u state
fits-counted core u false state = refl
fits-counted core u true Stopped = refl
fits-counted core u true (NextOf s) = refl
fits-counted core u true (Running run) = refl

-- one entry more
fits-on : (core : Core) (c : CounterRef) (u : TableRef) (e : Entry) (state : TableState) → is_next_by_counter core e ≡ true → fits core u state ≡ true → fits core u (table_after c u e state) ≡ true
fits-on core c u (Noted (TableStarted t wait)) state names fit = by (same_table t u)
  where
    by : (b : Bool) → fits core u (cond b (started_after wait) state) ≡ true
    by true = refl
    by false = fit
fits-on core c u (Noted (TableStopped t)) state names fit = by (same_table t u)
  where
    by : (b : Bool) → fits core u (cond b Stopped state) ≡ true
    by true = refl
    by false = fit
fits-on core c u (Noted (TableNext s t)) state names fit = by (same_table t u) refl
  where
    by : (b : Bool) → same_table t u ≡ b → fits core u (cond b (NextOf s) state) ≡ true
    by true is = ap (λ (x : TableRef). are_of_one_counter core s x) (sym (same_table-true t u is)) ∙ names
    by false is = fit
fits-on core c u (Noted (CounterIncremented d)) state names fit = fits-counted core u (same_counter d c) state ∙ fit
fits-on core c u e state names fit = fit

table-on : (core : Core) (u : TableRef) (e : Entry) (h : History) → is_next_by_counter core e ≡ true → (o : Option TablePlan)
    → waits_by_counter core u (option_map_or (read core u h) o Table.Stopped) ≡ true → waits_by_counter core u (option_map_or (read core u (e ∷ h)) o Table.Stopped) ≡ true
table-on core u e h names None fit = refl
table-on core u e h names (Some t) fit =
    fits-at core u t (table_state t.counter u (e ∷ h)) ∙ fits-on core t.counter u e (table_state t.counter u h) names (sym (fits-at core u t (table_state t.counter u h)) ∙ fit)

-- ---- of all tables

-- Before the first entry, no table waits for one of another counter.
pub waits-begun : (core : Core) → all_wait_by_counter core (tables_of core []) ≡ true
waits-begun core =
    all-in (λ (u : TableRef). waits_by_counter core u (table_in u (tables_of core []))) (table_ref core) 0 (length core.tables)
    (λ n inside. ap (waits_by_counter core (table_ref core n)) (table-there core (table_ref core n) [] (table-own core n (omega (arith, inside)))) ∙ by (table_ref core n) (own_table core (table_ref core n)))
  where
    by : (u : TableRef) (o : Option TablePlan) → waits_by_counter core u (option_map_or (read core u []) o Table.Stopped) ≡ true
    by u None = refl
    by u (Some t) = refl

-- If an entry that makes a table wait names two tables of one counter, this stays true after it.
pub waits-after : (core : Core) (e : Entry) (h : History) → is_next_by_counter core e ≡ true → all_wait_by_counter core (tables_of core h) ≡ true → all_wait_by_counter core (tables_of core (e ∷ h)) ≡ true
waits-after core e h names all =
    all-so (λ (u : TableRef). waits_by_counter core u (table_in u (tables_of core h))) (λ (u : TableRef). waits_by_counter core u (table_in u (tables_of core (e ∷ h)))) (table_ref core) 0 (length core.tables) so all
  where
    so : (n : ℕ) → n < 0 + length core.tables → waits_by_counter core (table_ref core n) (table_in (table_ref core n) (tables_of core h)) ≡ true → waits_by_counter core (table_ref core n) (table_in (table_ref core n) (tables_of core (e ∷ h))) ≡ true
    so n inside fit =
        let own = table-own core n (omega (arith, inside)) in
        ap (waits_by_counter core (table_ref core n)) (table-there core (table_ref core n) (e ∷ h) own)
        ∙ table-on core (table_ref core n) e h names (own_table core (table_ref core n)) (ap (waits_by_counter core (table_ref core n)) (sym (table-there core (table_ref core n) h own)) ∙ fit)

-- The same for the state of the tables.
pub waits-kept : (core : Core) (e : Entry) (x : TableStates) → AreTables core x → is_next_by_counter core e ≡ true → all_wait_by_counter core x ≡ true → all_wait_by_counter core (tables_by core e x) ≡ true
waits-kept core e x are names all =
    ap (λ (y : TableStates). all_wait_by_counter core (tables_by core e y)) are.is
    ∙ ap (all_wait_by_counter core) (after core e are.history are.within)
    ∙ waits-after core e are.history names (ap (all_wait_by_counter core) (sym are.is) ∙ all)
