-- An entry changes the state of the tables as it changes what is read off the history.
use Rattle.std.proofs.Common.{◌≡◌, ℕ, Bool, true, false, cond, Option, Some, None, is_some, List, ◌∷◌, length, refl, ap, sym, ◌∙◌}
use Rattle.std.specs.Option.{option_map_or}
use Rattle.std.proofs.lemmas.Bool.{cond-false, cond-true, false≢true}
use Rattle.osbase.specs.{declared.references.CounterRef.CounterRef, declared.references.TableRef.TableRef, Objects.counter_object, Objects.table_object}
use Rattle.osbase.specs.History.{History, Entry, Noted, CounterIncremented, TableStarted, TableStopped, TableNext}
use Rattle.osbase.specs.Counting.{TableState, Stopped, NextOf, counted_once, same_counter, same_table, started_after, table_state}
use Rattle.osbase.proofs.Same.{same_table-refl}
use Rattle.osplan.specs.{declared.plans.Core.Core, declared.plans.Table.Table as TablePlan, Clocked.are_clocks_within, Objects.is_own_object, View.own_table}
use Rattle.osplan.proofs.{Clocked.clock-parts, Counters.counter-apart}
use Rattle.osattached.proofs.Own.{kept-there, none-changed, one-changed, own-some, refers, those-changed}
use Rattle.osattached.proofs.Ranges.{table-within}
use Rattle.ostable.specs.{declared.table.Table.Table, Ahead.table_at, Ahead.table_beyond}
use Rattle.ostable.specs.Tables.{TableStates, all_moved, moved, table_by, table_in, table_ref, tables_by, tables_of, with_table}
use Rattle.ostable.proofs.{Places.placed, Runs.beyond-at, Timed.timed}

pub table-there : (core : Core) (s : TableRef) (h : History) → is_own_object core (table_object s) ≡ true → table_in s (tables_of core h) ≡ table_by core s h
table-there core s h own = kept-there (placed core) (λ u. table_by core u h) s Table.Stopped own

-- the counter of an own table is one of the core's own
pub attached : (core : Core) (s : TableRef) (t : TablePlan) → are_clocks_within core ≡ true → own_table core s ≡ Some t → is_own_object core (counter_object t.counter) ≡ true
attached core s t within own = refers (placed core) s t (clock-parts core within).tables_attached own

abbrev pub read : Core → TableRef → History → TablePlan → Table
read core s h t = table_at t (table_state t.counter s h)

pub together : {x y : TableStates} → x.tables ≡ y.tables → x.timed ≡ y.timed → x ≡ y
together {x} {y} tables timed =
    ap (λ (z : List Table). let u : TableStates = record { tables = z; timed = x.timed } in u) tables
    ∙ ap (λ (z : List (List TableRef)). let u : TableStates = record { tables = y.tables; timed = z } in u) timed

-- ---- a count

table-on : (core : Core) (c : CounterRef) (s : TableRef) (h : History) → are_clocks_within core ≡ true → (o : Option TablePlan) → own_table core s ≡ o
    → cond (option_map_or (λ (t : TablePlan). same_counter c t.counter) o false) (option_map_or (λ (t : TablePlan). table_beyond t (option_map_or (read core s h) o Table.Stopped)) o (option_map_or (read core s h) o Table.Stopped)) (option_map_or (read core s h) o Table.Stopped)
    ≡ option_map_or (read core s (Noted (CounterIncremented c) ∷ h)) o Table.Stopped
table-on core c s h within None own = refl
table-on core c s h within (Some t) own = by (same_counter c t.counter)
  where
    by : (b : Bool) → cond b (table_beyond t (read core s h t)) (read core s h t) ≡ table_at t (cond b (counted_once (table_state t.counter s h)) (table_state t.counter s h))
    by false = refl
    by true = beyond-at t (timed core s t within own) (read core s h t) (table_state t.counter s h) refl

tables-on : (core : Core) (c : CounterRef) (h : History) → are_clocks_within core ≡ true → all_moved core c (tables_of core h).tables ≡ (tables_of core (Noted (CounterIncremented c) ∷ h)).tables
tables-on core c h within =
    those-changed (placed core) (λ s. table_by core s h) (λ s. table_by core s (Noted (CounterIncremented c) ∷ h)) c (moved core) Table.Stopped (λ s. table-on core c s h within (own_table core s) refl)

-- a count of a counter that is not the core's own
count-off : (core : Core) (c : CounterRef) (h : History) → are_clocks_within core ≡ true → is_own_object core (counter_object c) ≡ false → tables_of core h ≡ tables_of core (Noted (CounterIncremented c) ∷ h)
count-off core c h within other =
    together
    (table-within (λ n. table_by core (table_ref core n) h) (λ n. table_by core (table_ref core n) (Noted (CounterIncremented c) ∷ h)) 0 (length core.tables) (λ n inside. off (table_ref core n) (own_table core (table_ref core n)) refl))
    refl
  where
    off : (s : TableRef) (o : Option TablePlan) → own_table core s ≡ o → option_map_or (read core s h) o Table.Stopped ≡ option_map_or (read core s (Noted (CounterIncremented c) ∷ h)) o Table.Stopped
    off s None own = refl
    off s (Some t) own =
        ap (λ (b : Bool). table_at t (cond b (counted_once (table_state t.counter s h)) (table_state t.counter s h)))
        (sym (counter-apart core c t.counter other (attached core s t within own)))

count-after : (core : Core) (c : CounterRef) (h : History) → are_clocks_within core ≡ true → tables_by core (Noted (CounterIncremented c)) (tables_of core h) ≡ tables_of core (Noted (CounterIncremented c) ∷ h)
count-after core c h within = by (is_own_object core (counter_object c)) refl
  where
    by : (b : Bool) → is_own_object core (counter_object c) ≡ b → cond b (record (tables_of core h) { tables = all_moved core c (tables_of core h).tables }) (tables_of core h) ≡ tables_of core (Noted (CounterIncremented c) ∷ h)
    by true own = together (tables-on core c h within) refl
    by false other = count-off core c h within other

-- ---- what is noted of one table

-- an entry that gives a state to one table and to no other
module _ (core : Core) (s : TableRef) (h : History) (e : Entry) (state : TableState)
    (here : (c : CounterRef) → table_state c s (e ∷ h) ≡ state)
    (there : (c : CounterRef) (u : TableRef) → same_table s u ≡ false → table_state c u (e ∷ h) ≡ table_state c u h) where
  told : Table
  told = option_map_or (λ (t : TablePlan). table_at t state) (own_table core s) Table.Stopped

  told-here : (o : Option TablePlan) → option_map_or (λ (t : TablePlan). table_at t state) o Table.Stopped ≡ option_map_or (read core s (e ∷ h)) o Table.Stopped
  told-here None = refl
  told-here (Some t) = ap (table_at t) (sym (here t.counter))

  told-there : (u : TableRef) → same_table s u ≡ false → (o : Option TablePlan) → option_map_or (read core u h) o Table.Stopped ≡ option_map_or (read core u (e ∷ h)) o Table.Stopped
  told-there u apart None = refl
  told-there u apart (Some t) = ap (table_at t) (sym (there t.counter u apart))

  told-own : is_own_object core (table_object s) ≡ true → with_table s (option_map_or (λ (t : TablePlan). table_at t state) (own_table core s) Table.Stopped) (tables_of core h) ≡ tables_of core (e ∷ h)
  told-own own =
      together
      (one-changed (placed core) (λ u. table_by core u h) (λ u. table_by core u (e ∷ h)) s _ own (told-here (own_table core s)) (λ u apart. told-there u apart (own_table core u)))
      refl

  told-off : is_own_object core (table_object s) ≡ false → tables_of core h ≡ tables_of core (e ∷ h)
  told-off other =
      together
      (none-changed (placed core) (λ u. table_by core u h) (λ u. table_by core u (e ∷ h)) s other (λ u apart. told-there u apart (own_table core u)))
      refl

  pub told-after : (b : Bool) → is_own_object core (table_object s) ≡ b → cond b (with_table s (option_map_or (λ (t : TablePlan). table_at t state) (own_table core s) Table.Stopped) (tables_of core h)) (tables_of core h) ≡ tables_of core (e ∷ h)
  told-after true own = told-own own
  told-after false other = told-off other

-- a table that is the core's own has this state, whatever its configuration
whichever : (o : Option TablePlan) (table : Table) → is_some o ≡ true → table ≡ option_map_or (λ (t : TablePlan). table) o Table.Stopped
whichever None table some = absurd (false≢true some)
whichever (Some t) table some = refl

plain : (core : Core) (s : TableRef) (h : History) (table : Table) (b : Bool) → is_own_object core (table_object s) ≡ b → cond b (with_table s table (tables_of core h)) (tables_of core h) ≡ cond b (with_table s (option_map_or (λ (t : TablePlan). table) (own_table core s) Table.Stopped) (tables_of core h)) (tables_of core h)
plain core s h table true own = ap (λ (x : Table). with_table s x (tables_of core h)) (whichever (own_table core s) table (own-some (placed core) s own))
plain core s h table false other = refl

start-after : (core : Core) (s : TableRef) (wait : ℕ) (h : History) → tables_by core (Noted (TableStarted s wait)) (tables_of core h) ≡ tables_of core (Noted (TableStarted s wait) ∷ h)
start-after core s wait h =
    told-after core s h (Noted (TableStarted s wait)) (started_after wait)
    (λ c. cond-true (same_table s s) (started_after wait) (table_state c s h) (same_table-refl s))
    (λ c u apart. cond-false (same_table s u) (started_after wait) (table_state c u h) apart)
    (is_own_object core (table_object s)) refl

stop-after : (core : Core) (s : TableRef) (h : History) → tables_by core (Noted (TableStopped s)) (tables_of core h) ≡ tables_of core (Noted (TableStopped s) ∷ h)
stop-after core s h =
    plain core s h Table.Stopped (is_own_object core (table_object s)) refl
    ∙ told-after core s h (Noted (TableStopped s)) Stopped
    (λ c. cond-true (same_table s s) Stopped (table_state c s h) (same_table-refl s))
    (λ c u apart. cond-false (same_table s u) Stopped (table_state c u h) apart)
    (is_own_object core (table_object s)) refl

next-after : (core : Core) (s next : TableRef) (h : History) → tables_by core (Noted (TableNext s next)) (tables_of core h) ≡ tables_of core (Noted (TableNext s next) ∷ h)
next-after core s next h =
    plain core next h (Table.NextOf s) (is_own_object core (table_object next)) refl
    ∙ told-after core next h (Noted (TableNext s next)) (NextOf s)
    (λ c. cond-true (same_table next next) (NextOf s) (table_state c next h) (same_table-refl next))
    (λ c u apart. cond-false (same_table next u) (NextOf s) (table_state c u h) apart)
    (is_own_object core (table_object next)) refl

-- The tables of a longer history are those of the history, changed by the newest entry.
pub after : (core : Core) (e : Entry) (h : History) → are_clocks_within core ≡ true → tables_by core e (tables_of core h) ≡ tables_of core (e ∷ h)
after core (Noted (CounterIncremented c)) h within = count-after core c h within
after core (Noted (TableStarted s wait)) h within = start-after core s wait h
after core (Noted (TableStopped s)) h within = stop-after core s h
after core (Noted (TableNext s next)) h within = next-after core s next h
after core e h within = refl
