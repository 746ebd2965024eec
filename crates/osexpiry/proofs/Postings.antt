-- How many letters join the outbox at a count: no more than the counter's alarms and tables may add to it.
use Rattle.std.proofs.Common.{◌≡◌, ◌≤◌, ◌+◌, ◌&&◌, ◌||◌, ℕ, suc, Bool, true, false, not, cond, count_by, Option, Some, None, is_none, option_and_then, List, [], ◌∷◌, filter, length, map, sum_by, refl, ap, sym, ◌∙◌, arith}
use Rattle.std.specs.{List.list_all, List.slice_get, Option.option_map_or}
use Rattle.std.proofs.{lemmas.Bool.and_parts, lemmas.Bool.cond-true, lemmas.Bool.false≢true, lemmas.List.Filters.sum_by-filter_both, lemmas.List.Sums.sum_by-cons, lemmas.Option.option_and_then_some}
use Rattle.osbase.specs.{declared.references.AlarmRef.AlarmRef, declared.references.CounterRef.CounterRef, declared.references.TableRef.TableRef, Sets.numbers_from, History.same_core}
use Rattle.osbase.proofs.Same.{same_core-refl}
use Rattle.osplan.specs.{declared.plans.Alarm.Alarm, declared.plans.Core.Core, declared.plans.ExpiryPoint.ExpiryPoint, declared.plans.Table.Table, Clocked.are_clocks_within, View.own_alarm, View.own_table}
use Rattle.osplan.specs.Objects.{most_posts_of_table, is_posting, posted_at, most_posts_per_tick}
use Rattle.osplan.proofs.{Clocked.clock-parts, Tests.length-filter-le}
use Rattle.osclock.specs.Clocks.{ClockState, alarm_ref, alarm_refs, attached_to, due_in, is_attached, is_due_in}
use Rattle.ostable.specs.{Tables.is_timed_by, Tables.table_refs, Tables.timed_by, declared.tables.DueTable.DueTable, Waiting.ends_alone, Waiting.repeats, Waiting.with_next}
use Rattle.ostable.proofs.{Listed.table-refs-length, Portions.sum-of-plans}
use Rattle.osexpiry.specs.Advancing.{most_posted_of_table, posted_by, posted_for}
use Rattle.osexpiry.specs.ExpiryPoints.{due_point, first_point, point_of, posted_by_end, posted_by_point, posted_by_table}
use Rattle.osexpiry.proofs.Actions.{first-there, posted-within}

-- ---- sums

pub filtered-le : {X : Type 0} (p : X → Bool) (f : X → ℕ) (xs : List X) → sum_by f (filter p xs) ≤ sum_by f xs
filtered-le p f xs = let both = sum_by-filter_both p (λ x. not (p x)) (λ x. refl) f xs in omega (arith, both)

sum-le-all : {X : Type 0} (p : X → Bool) (f g : X → ℕ) → ((x : X) → p x ≡ true → f x ≤ g x) → (xs : List X) → list_all p xs ≡ true → sum_by f xs ≤ sum_by g xs
sum-le-all p f g each [] all = omega arith
sum-le-all p f g each (x ∷ xs) all =
    let parts = and_parts (p x) (list_all p xs) all in
    let rest = sum-le-all p f g each xs parts.1 in
    let first = each x parts.0 in
    omega (arith, sum_by-cons f x xs, sum_by-cons g x xs, rest, first)

-- ---- alarms

pub due-posted : (core : Core) (c : CounterRef) (s : ClockState) (due : List AlarmRef) → due ≡ due_in core c s → sum_by (posted_for core) due ≤ sum_by (posted_for core) (attached_to core c)
due-posted core c s due is = omega (arith, ap (sum_by (posted_for core)) is, filtered-le (λ (a : AlarmRef). is_due_in core a s) (posted_for core) (attached_to core c))

-- ---- tables

-- At most this many letters, if each point posts at most this many.
at-most : (core : Core) (o : Option ExpiryPoint) (most : ℕ) → ((point : ExpiryPoint) → o ≡ Some point → posted_at core point ≤ most) → posted_by_point core o ≤ most
at-most core None most each = omega arith
at-most core (Some point) most each = each point refl

point-le : (core : Core) (s : TableRef) (n : ℕ) (point : ExpiryPoint) → point_of core s n ≡ Some point → posted_at core point ≤ most_posted_of_table core s
point-le core s n point is = option_and_then_some (λ (table : Table). slice_get table.points n) (own_table core s) point is (λ table own there. rw (own) (posted-within core table.points n point there))

due-le : (core : Core) (d : DueTable) → posted_by_point core (due_point core d) ≤ most_posted_of_table core d.table
due-le core d =
    at-most core (due_point core d) (most_posted_of_table core d.table) (λ point due. option_and_then_some (point_of core d.table) d.due.point point due (λ n at there. point-le core d.table n point there))

none-posted : (core : Core) (d : DueTable) → is_none d.due.point ≡ true → posted_by_point core (due_point core d) ≡ 0
none-posted core d none = by d.due.point none
  where
    by : (number : Option ℕ) → is_none number ≡ true → posted_by_point core (option_and_then (λ (n : ℕ). option_and_then (λ (table : Table). slice_get table.points n) (own_table core d.table)) number) ≡ 0
    by None e = refl
    by (Some n) e = absurd (false≢true e)

first-le : (core : Core) (s : TableRef) → posted_by_point core (first_point core s) ≤ most_posted_of_table core s
first-le core s = at-most core (first_point core s) (most_posted_of_table core s) (λ point first. point-le core s 0 point (first-there core s point first))

-- At one count a table posts for one of its points, and the table that replaces it posts for one of its own.
table-posted : (core : Core) (d : DueTable) → ends_alone core d ≡ true → posted_by_table core d ≤ with_next (most_posted_of_table core) d
table-posted core d alone = by d.due.ends refl d.next refl (repeats core d.table) refl
  where
    due : posted_by_point core (due_point core d) ≤ most_posted_of_table core d.table
    due = due-le core d

    by : (e : Bool) → d.due.ends ≡ e → (o : Option TableRef) → d.next ≡ o → (r : Bool) → repeats core d.table ≡ r
        → posted_by_point core (due_point core d) + cond e (posted_by_end core d.table o) 0 ≤ most_posted_of_table core d.table + option_map_or (most_posted_of_table core) o 0
    by false ends o next r again = omega (arith, due)
    by true ends (Some u) next r again = omega (arith, due, first-le core u)
    by true ends None next false again = rw (again) (omega (arith, due))
    by true ends None next true again =
        let none : is_none d.due.point ≡ true = sym (ap (λ (b : Bool). not (b && repeats core d.table) || is_none d.due.point) ends ∙ ap (λ (b : Bool). not b || is_none d.due.point) again) ∙ alone in
        rw (again) (omega (arith, none-posted core d none, first-le core d.table))

-- What a count's due alarms and then its due tables post together.
pub both-posted : (core : Core) (c : CounterRef) (s : ClockState) (alarms : List AlarmRef) (tables : List DueTable) → alarms ≡ due_in core c s → list_all (ends_alone core) tables ≡ true
    → sum_by (with_next (most_posted_of_table core)) tables ≤ sum_by (most_posted_of_table core) (timed_by core c) → sum_by (posted_for core) alarms + sum_by (posted_by_table core) tables ≤ posted_by core c
both-posted core c s alarms tables is alone once =
    omega (arith, due-posted core c s alarms is, sum-le-all (ends_alone core) (posted_by_table core) (with_next (most_posted_of_table core)) (table-posted core) tables alone, once)

-- ---- of all alarms and tables

alarms-from : (core : Core) (first : ℕ) (alarms : List Alarm) → ((k : ℕ) → slice_get core.alarms (first + k) ≡ slice_get alarms k)
    → sum_by (posted_for core) (map (alarm_ref core) (numbers_from first (length alarms))) ≡ count_by (λ (alarm : Alarm). is_posting core alarm.action) alarms
alarms-from core first [] same = refl
alarms-from core first (a ∷ alarms) same =
    sum_by-cons (posted_for core) (alarm_ref core first) (map (alarm_ref core) (numbers_from (first + 1) (length alarms)))
    ∙ ap (λ (o : Option Alarm). cond (option_map_or (λ (alarm : Alarm). is_posting core alarm.action) o false) 1 0 + sum_by (posted_for core) (map (alarm_ref core) (numbers_from (first + 1) (length alarms)))) here
    ∙ ap (λ (n : ℕ). cond (is_posting core a.action) 1 0 + n) (alarms-from core (first + 1) alarms (λ k. ap (slice_get core.alarms) (on k) ∙ same (suc k)))
    ∙ sym (sum_by-cons (λ (alarm : Alarm). cond (is_posting core alarm.action) 1 0) a alarms)
  where
    at : first ≡ first + 0
    at = omega arith

    on : (k : ℕ) → first + 1 + k ≡ first + suc k
    on k = omega arith

    here : own_alarm core (alarm_ref core first) ≡ Some a
    here = cond-true (same_core core.id core.id) (slice_get core.alarms first) None (same_core-refl core.id) ∙ ap (slice_get core.alarms) at ∙ same 0

pub sum-of-alarms : (core : Core) → sum_by (posted_for core) (alarm_refs core) ≡ count_by (λ (alarm : Alarm). is_posting core alarm.action) core.alarms
sum-of-alarms core = alarms-from core 0 core.alarms (λ k. ap (slice_get core.alarms) (none k))
  where
    none : (k : ℕ) → 0 + k ≡ k
    none k = omega arith

-- One counter's alarms and tables post no more letters than all alarms and tables of the core.
pub posted-fewer : (core : Core) (c : CounterRef) → posted_by core c ≤ most_posts_per_tick core
posted-fewer core c =
    omega (
      arith,
      filtered-le (is_attached core c) (posted_for core) (alarm_refs core),
      sum-of-alarms core,
      filtered-le (is_timed_by core c) (most_posted_of_table core) (table_refs core),
      sum-of-plans core (most_posts_of_table core),
    )

-- A core has at most 8 tables, and so has each of its counters.
pub tables-few : (core : Core) → are_clocks_within core ≡ true → length (table_refs core) ≤ 8
tables-few core within = omega (arith, table-refs-length core, (clock-parts core within).tables)

pub timed-few : (core : Core) (c : CounterRef) → are_clocks_within core ≡ true → length (timed_by core c) ≤ 8
timed-few core c within = omega (arith, length-filter-le (is_timed_by core c) (table_refs core), tables-few core within)
