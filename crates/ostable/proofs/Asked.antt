-- A query of a core's tables is answered as the same query of its history is.
use Rattle.std.proofs.Common.{◌≡◌, ℕ, zero, suc, ◌+◌, ◌<◌, ◌≤◌, Bool, true, false, cond, Option, Some, None, option_map, filter, filter_map, length, List, [], ◌∷◌, map, refl, ap, ◌∙◌, arith}
use Rattle.std.specs.{List.cons_option, List.find, List.list_all, Option.option_map_or}
use Rattle.std.proofs.lemmas.Bool.{and_from}
use Rattle.osbase.specs.{declared.references.CounterRef.CounterRef, declared.references.TableRef.TableRef, History.History, History.Entry, Objects.table_object, Sets.numbers_from}
use Rattle.osbase.specs.Counting.{TableState, Stopped, NextOf, Running, counted_once, table_state}
use Rattle.osplan.specs.{declared.plans.Core.Core, declared.plans.Table.Table as TablePlan, Clocked.are_clocks_within, Objects.is_own_object, View.own_table}
use Rattle.osplan.proofs.Tests.{find-passes}
use Rattle.ostable.specs.{declared.table.Due.Due, declared.table.Table.Table, Waiting.are_own}
use Rattle.ostable.specs.Ahead.{due_at, due_next, status_of, table_at}
use Rattle.ostable.specs.Tables.{AreTables, TableStates, due_by, due_in, due_table, due_table_by, due_tables_by, due_tables_in, is_next_in, is_timed_by, next_by, next_in, state_by, status_in, table_in, table_ref, table_refs, tables_by, tables_of, timed_by, waits_for}
use Rattle.ostable.proofs.{Law.after, Law.read, Law.table-there, Listed.timed-own, Places.table-own, Runs.due-at, Timed.timed}

-- The tables after an entry are tables again.
pub kept : (core : Core) (e : Entry) (x : TableStates) → AreTables core x → AreTables core (tables_by core e x)
kept core e x are = record { within = are.within; history = e ∷ are.history; is = ap (tables_by core e) are.is ∙ after core e are.history are.within }

-- ---- one table

status-at : (t : TablePlan) (state : TableState) → status_in (table_at t state) ≡ status_of state
status-at t Stopped = refl
status-at t (NextOf s) = refl
status-at t (Running run) = refl

status-by : (core : Core) (s : TableRef) (h : History) (o : Option TablePlan) → status_in (option_map_or (read core s h) o Table.Stopped) ≡ status_of (option_map_or (λ (t : TablePlan). table_state t.counter s h) o Stopped)
status-by core s h None = refl
status-by core s h (Some t) = status-at t (table_state t.counter s h)

pub status-read : (core : Core) (s : TableRef) (h : History) → is_own_object core (table_object s) ≡ true → status_in (table_in s (tables_of core h)) ≡ status_of (state_by core s h)
status-read core s h own = ap (λ (x : Table). status_in x) (table-there core s h own) ∙ status-by core s h (own_table core s)

due-of : (core : Core) (s : TableRef) (h : History) → are_clocks_within core ≡ true → (o : Option TablePlan) → own_table core s ≡ o
    → option_map_or (λ (t : TablePlan). due_next t (option_map_or (read core s h) o Table.Stopped)) o None ≡ option_map_or (λ (t : TablePlan). due_at t (counted_once (table_state t.counter s h))) o None
due-of core s h within None own = refl
due-of core s h within (Some t) own = due-at t (timed core s t within own) (read core s h t) (table_state t.counter s h) refl

pub due-read : (core : Core) (s : TableRef) (h : History) → are_clocks_within core ≡ true → is_own_object core (table_object s) ≡ true → due_in core s (tables_of core h) ≡ due_by core s h
due-read core s h within own =
    ap (λ (x : Table). option_map_or (λ (t : TablePlan). due_next t x) (own_table core s) None) (table-there core s h own) ∙ due-of core s h within (own_table core s) refl

-- ---- the one that waits for a table

waits-at : (s : TableRef) (t : TablePlan) (state : TableState) → is_next_in s (table_at t state) ≡ waits_for s state
waits-at s t Stopped = refl
waits-at s t (NextOf u) = refl
waits-at s t (Running run) = refl

waits-by : (core : Core) (s u : TableRef) (h : History) (o : Option TablePlan) → is_next_in s (option_map_or (read core u h) o Table.Stopped) ≡ waits_for s (option_map_or (λ (t : TablePlan). table_state t.counter u h) o Stopped)
waits-by core s u h None = refl
waits-by core s u h (Some t) = waits-at s t (table_state t.counter u h)

pub waits-read : (core : Core) (s u : TableRef) (h : History) → is_own_object core (table_object u) ≡ true → is_next_in s (table_in u (tables_of core h)) ≡ waits_for s (state_by core u h)
waits-read core s u h own = ap (λ (x : Table). is_next_in s x) (table-there core u h own) ∙ waits-by core s u h (own_table core u)

find-same : {A : Type 0} (p q : A → Bool) (F : ℕ → A) (first count : ℕ) → ((n : ℕ) → n < first + count → p (F n) ≡ q (F n)) → find p (map F (numbers_from first count)) ≡ find q (map F (numbers_from first count))
find-same p q F first zero same = refl
find-same p q F first (suc count) same =
    ap (λ b. cond b (Some (F first)) (find p (map F (numbers_from (first + 1) count)))) (same first (omega arith))
    ∙ ap (λ o. cond (q (F first)) (Some (F first)) o) (find-same p q F (first + 1) count (λ n h. same n (omega (arith, h))))

pub next-read : (core : Core) (s : TableRef) (h : History) → next_in core s (tables_of core h) ≡ next_by core s h
next-read core s h =
    find-same (λ (u : TableRef). is_next_in s (table_in u (tables_of core h))) (λ (u : TableRef). waits_for s (state_by core u h)) (table_ref core) 0 (length core.tables)
    (λ n inside. waits-read core s (table_ref core n) h (table-own core n (omega (arith, inside))))

-- ---- those of a counter

-- if `f` and `g` agree on all that passes `q`, they make the same of it
pub made-same : {A B : Type 0} (q : A → Bool) (f g : A → Option B) (xs : List A) → ((x : A) → q x ≡ true → f x ≡ g x) → filter_map f (filter q xs) ≡ filter_map g (filter q xs)
made-same q f g [] same = refl
made-same q f g (x ∷ xs) same = by (q x) refl (made-same q f g xs same)
  where
    by : (b : Bool) → q x ≡ b → filter_map f (filter q xs) ≡ filter_map g (filter q xs) → filter_map f (cond b (x ∷ filter q xs) (filter q xs)) ≡ filter_map g (cond b (x ∷ filter q xs) (filter q xs))
    by false e rest = rest
    by true e rest = ap (λ o. cons_option o (filter_map f (filter q xs))) (same x e) ∙ ap (λ ys. cons_option (g x) ys) rest

pub due-table-read : (core : Core) (s : TableRef) (h : History) → are_clocks_within core ≡ true → is_own_object core (table_object s) ≡ true
    → option_map (due_table s (next_in core s (tables_of core h))) (due_in core s (tables_of core h)) ≡ due_table_by core h s
due-table-read core s h within own =
    ap (λ (o : Option TableRef). option_map (due_table s o) (due_in core s (tables_of core h))) (next-read core s h)
    ∙ ap (λ (o : Option Due). option_map (due_table s (next_by core s h)) o) (due-read core s h within own)

pub dues-read : (core : Core) (c : CounterRef) (h : History) → are_clocks_within core ≡ true → due_tables_in core c (tables_of core h) ≡ due_tables_by core c h
dues-read core c h within =
    made-same (is_timed_by core c) (λ (s : TableRef). option_map (due_table s (next_in core s (tables_of core h))) (due_in core s (tables_of core h))) (due_table_by core h) (table_refs core)
    (λ s on. due-table-read core s h within (timed-own core c s on))

-- ---- the core's own

-- each reference to a table of the core is to one of its own tables
all-refs : (core : Core) (first count : ℕ) → ((n : ℕ) → n < first + count → is_own_object core (table_object (table_ref core n)) ≡ true) → list_all (λ (u : TableRef). is_own_object core (table_object u)) (map (table_ref core) (numbers_from first count)) ≡ true
all-refs core first zero each = refl
all-refs core first (suc count) each = and_from _ _ (each first (omega arith)) (all-refs core (first + 1) count (λ n h. each n (omega (arith, h))))

pub refs-own : (core : Core) → list_all (λ (u : TableRef). is_own_object core (table_object u)) (table_refs core) ≡ true
refs-own core = all-refs core 0 (length core.tables) (λ n inside. table-own core n (omega (arith, inside)))

-- The table that waits for a table is the core's own.
pub next-own : (core : Core) (s : TableRef) (h : History) → option_map_or (λ (u : TableRef). is_own_object core (table_object u)) (next_by core s h) true ≡ true
next-own core s h = by (next_by core s h) refl
  where
    by : (o : Option TableRef) → next_by core s h ≡ o → option_map_or (λ (u : TableRef). is_own_object core (table_object u)) o true ≡ true
    by None e = refl
    by (Some u) e = find-passes (λ (u : TableRef). waits_for s (state_by core u h)) (λ (u : TableRef). is_own_object core (table_object u)) (table_refs core) u (refs-own core) e

pub made-passes : {A B : Type 0} (q : A → Bool) (g : A → Option B) (p : B → Bool) (xs : List A) → ((x : A) → q x ≡ true → option_map_or p (g x) true ≡ true) → list_all p (filter_map g (filter q xs)) ≡ true
made-passes q g p [] each = refl
made-passes {A} {B} q g p (x ∷ xs) each = by (q x) refl (made-passes q g p xs each)
  where
    made : (o : Option B) → option_map_or p o true ≡ true → list_all p (filter_map g (filter q xs)) ≡ true → list_all p (cons_option o (filter_map g (filter q xs))) ≡ true
    made None pass rest = rest
    made (Some y) pass rest = and_from _ _ pass rest

    by : (b : Bool) → q x ≡ b → list_all p (filter_map g (filter q xs)) ≡ true → list_all p (filter_map g (cond b (x ∷ filter q xs) (filter q xs))) ≡ true
    by false e rest = rest
    by true e rest = made (g x) (each x e) rest

-- Each table that is due is the core's own, and so is the table that begins in its place.
pub dues-own : (core : Core) (c : CounterRef) (h : History) → list_all (are_own core) (due_tables_by core c h) ≡ true
dues-own core c h = made-passes (is_timed_by core c) (due_table_by core h) (are_own core) (table_refs core) (λ s on. by s (timed-own core c s on) (due_by core s h))
  where
    next : (s : TableRef) (b : Bool) → option_map_or (λ (u : TableRef). is_own_object core (table_object u)) (cond b (next_by core s h) None) true ≡ true
    next s true = next-own core s h
    next s false = refl

    by : (s : TableRef) → is_own_object core (table_object s) ≡ true → (o : Option Due) → option_map_or (are_own core) (option_map (due_table s (next_by core s h)) o) true ≡ true
    by s own None = refl
    by s own (Some due) = and_from _ _ own (next s due.ends)

made-fewer : {A B : Type 0} (g : A → Option B) (xs : List A) → length (filter_map g xs) ≤ length xs
made-fewer g [] = omega arith
made-fewer {A} {B} g (x ∷ xs) = by (g x) (made-fewer g xs)
  where
    by : (o : Option B) → length (filter_map g xs) ≤ length xs → length (cons_option o (filter_map g xs)) ≤ suc (length xs)
    by None rest = omega (arith, rest)
    by (Some y) rest = omega (arith, rest)

pub dues-few : (core : Core) (c : CounterRef) (h : History) → length (due_tables_by core c h) ≤ length (timed_by core c)
dues-few core c h = made-fewer (due_table_by core h) (timed_by core c)

-- The same for the state of the tables.
pub dues-own-in : (core : Core) (c : CounterRef) (x : TableStates) → AreTables core x → list_all (are_own core) (due_tables_in core c x) ≡ true
dues-own-in core c x are =
    ap (λ (y : TableStates). list_all (are_own core) (due_tables_in core c y)) are.is
    ∙ ap (list_all (are_own core)) (dues-read core c are.history are.within)
    ∙ dues-own core c are.history

pub dues-few-in : (core : Core) (c : CounterRef) (x : TableStates) → length (due_tables_in core c x) ≤ length (timed_by core c)
dues-few-in core c x = made-fewer (λ (s : TableRef). option_map (due_table s (next_in core s x)) (due_in core s x)) (timed_by core c)
