-- When a schedule table's points are due and its periods end, in counts of its counter since it was started.
use Rattle.std.proofs.Common.{◌≡◌, ℕ, zero, suc, ◌+◌, ◌-◌, ◌*◌, ◌/◌, ◌%◌, ◌≤◌, ◌↔◌, ◌||◌, Bool, true, false, cond, not, nat_eq, nat_le, nat_lt, Option, Some, None, is_some, option_and_then, [], ◌∷◌, ◌++◌, refl, ap, sym, ◌∙◌, arith}
use Rattle.std.specs.{List.list_all, List.slice_get, Option.option_map_or}
use Rattle.std.proofs.{Math.Nat.add-mul, Math.Nat.mod-add-div', Math.Nat.one-mul, lemmas.Nat.mod-mul-add}
use Rattle.std.proofs.lemmas.Bool.{and_parts, cond-true, eq-eqb, eqb-true, false≢true, leb-true, le-ltb, ltb-false, not-true}
use Rattle.osbase.specs.{declared.references.CounterRef.CounterRef, declared.references.TableRef.TableRef}
use Rattle.osbase.specs.Counting.{TableState, Stopped, NextOf, counted_once, counts_of, same_counter, same_table, started_after, table_state}
use Rattle.osbase.specs.History.{History, Entry, Noted, CounterIncremented, TableStarted, TableStopped, TableNext}
use Rattle.osplan.specs.{declared.plans.ExpiryPoint.ExpiryPoint, declared.plans.Table.Table as TablePlan}
use Rattle.osbase.proofs.{Places.passes-at, Same.same_table-refl}
use Rattle.ostable.specs.{declared.table.Due.Due, Periods.count_in_period, Periods.number_of_point, Ahead.IsTimed, Ahead.due_in, Ahead.if_any}
use Rattle.ostable.specs.Formulas.{IsPeriodic, concerns, due_point, is_end, running_for}
use Rattle.ostable.proofs.Points.{number-from, number-is}

-- ---- the count of a period

module _ (d : ℕ) where
  -- count o of a period, after a number of whole periods
  pub period-from : (n o : ℕ) → 1 ≤ o → count_in_period d n ≡ o → (p : ℕ) × (n ≡ p * d + o)
  period-from zero o some is = absurd (omega (arith, some, is))
  period-from (suc n) o some is = (n / d, omega (arith, is, mod-add-div' n d))

  pub period-so : (n o p : ℕ) → 1 ≤ o → o ≤ d → n ≡ p * d + o → count_in_period d n ≡ o
  period-so zero o p some within is = absurd (omega (arith, some, is))
  period-so (suc n) zero p some within is = absurd (omega (arith, some))
  period-so (suc n) (suc o) p some within is = ap suc (ap (λ (m : ℕ). m % d) (let same : n ≡ p * d + o = omega (arith, is) in same) ∙ mod-mul-add p d o (omega (arith, within)))

  pub first-from : (n : ℕ) → count_in_period d n ≡ 0 → n ≡ 0
  first-from zero is = refl
  first-from (suc n) is = absurd (omega (arith, is))

-- ---- what is due at a count

point-of : (due : Due) → option_and_then (λ (x : Due). x.point) (if_any due) ≡ due.point
point-of due = by due.point due.ends refl
  where
    by : (o : Option ℕ) (b : Bool) → due.point ≡ o → option_and_then (λ (x : Due). x.point) (cond (is_some o || b) (Some due) None) ≡ o
    by (Some n) b e = e
    by None true e = e
    by None false e = refl

end-of : (due : Due) → option_map_or (λ (x : Due). x.ends) (if_any due) false ≡ due.ends
end-of due = by due.point due.ends refl
  where
    by : (o : Option ℕ) (b : Bool) → due.ends ≡ b → option_map_or (λ (x : Due). x.ends) (cond (is_some o || b) (Some due) None) false ≡ b
    by (Some n) b e = e
    by None true e = e
    by None false e = refl

module _ (t : TablePlan) (wait counts : ℕ) where
  point-then : (b : Bool) → nat_lt counts wait ≡ b → due_point t (running_for wait counts) ≡ cond b None (number_of_point (count_in_period t.duration (counts - wait)) t.points)
  point-then true e = rw (e) refl
  point-then false e = rw (e) (point-of (due_in t (count_in_period t.duration (counts - wait))))

  end-then : (b : Bool) → nat_lt counts wait ≡ b → is_end t (running_for wait counts) ≡ cond b false (nat_eq (count_in_period t.duration (counts - wait)) t.duration)
  end-then true e = rw (e) refl
  end-then false e = rw (e) (end-of (due_in t (count_in_period t.duration (counts - wait))))

  begun : wait ≤ counts → nat_lt counts wait ≡ false
  begun since = le-ltb counts wait since

  -- by the count of a period at which it is due
  number-at : (n : ℕ) → due_point t (running_for wait counts) ≡ Some n → (wait ≤ counts) × (number_of_point (count_in_period t.duration (counts - wait)) t.points ≡ Some n)
  number-at n is = by (nat_lt counts wait) refl (sym (point-then (nat_lt counts wait) refl) ∙ is)
    where
      by : (b : Bool) → nat_lt counts wait ≡ b → cond b None (number_of_point (count_in_period t.duration (counts - wait)) t.points) ≡ Some n → (wait ≤ counts) × (number_of_point (count_in_period t.duration (counts - wait)) t.points ≡ Some n)
      by true e is = cc
      by false e is = (ltb-false counts wait e, is)

  whole-at : is_end t (running_for wait counts) ≡ true → (wait ≤ counts) × (count_in_period t.duration (counts - wait) ≡ t.duration)
  whole-at is = by (nat_lt counts wait) refl (sym (end-then (nat_lt counts wait) refl) ∙ is)
    where
      by : (b : Bool) → nat_lt counts wait ≡ b → cond b false (nat_eq (count_in_period t.duration (counts - wait)) t.duration) ≡ true → (wait ≤ counts) × (count_in_period t.duration (counts - wait) ≡ t.duration)
      by true e is = absurd (false≢true is)
      by false e is = (ltb-false counts wait e, eqb-true (count_in_period t.duration (counts - wait)) t.duration is)

-- ---- the laws of a table that was started `counts` counts ago, to begin after `wait` counts. A table that repeats
-- goes on after the end of a period; any other table is stopped there.

module _ (t : TablePlan) (timed : IsTimed t) (wait counts : ℕ) where
  -- A point of an offset from 1 to the duration is due that many counts into each period. [AUTOSAR SWS OS 4.x, section
  -- 7.3.3]
  pub point-is-due : (n : ℕ) (point : ExpiryPoint) → slice_get t.points n ≡ Some point → 1 ≤ point.offset
      → (due_point t (running_for wait counts) ≡ Some n) ↔ ((p : ℕ) × (counts ≡ wait + p * t.duration + point.offset))
  point-is-due n point is some = (from, so)
    where
      from : due_point t (running_for wait counts) ≡ Some n → (p : ℕ) × (counts ≡ wait + p * t.duration + point.offset)
      from due =
          let at = number-at t wait counts n due in
          let turn = period-from t.duration (counts - wait) point.offset some (sym (number-is (count_in_period t.duration (counts - wait)) t.points n point at.1 is)) in
          (turn.0, omega (arith, at.0, turn.1))

      so : (p : ℕ) × (counts ≡ wait + p * t.duration + point.offset) → due_point t (running_for wait counts) ≡ Some n
      so turn =
          let within : point.offset ≤ t.duration = leb-true point.offset t.duration (passes-at (λ (x : ExpiryPoint). nat_le x.offset t.duration) t.points n point timed.within is) in
          let into : count_in_period t.duration (counts - wait) ≡ point.offset = period-so t.duration (counts - wait) point.offset turn.0 some within (omega (arith, turn.1)) in
          point-then t wait counts false (begun t wait counts (omega (arith, turn.1)))
          ∙ ap (λ (count : ℕ). number_of_point count t.points) into
          ∙ number-from t.points n point timed.ascending is

  -- A point of offset 0 is due where the first period begins. For a later period, it is done where the last one ends.
  pub first-point-is-due : (n : ℕ) (point : ExpiryPoint) → slice_get t.points n ≡ Some point → point.offset ≡ 0 → (due_point t (running_for wait counts) ≡ Some n) ↔ (counts ≡ wait)
  first-point-is-due n point is none = (from, so)
    where
      from : due_point t (running_for wait counts) ≡ Some n → counts ≡ wait
      from due =
          let at = number-at t wait counts n due in
          let first : counts - wait ≡ 0 = first-from t.duration (counts - wait) (sym (number-is (count_in_period t.duration (counts - wait)) t.points n point at.1 is) ∙ none) in
          omega (arith, at.0, first)

      so : counts ≡ wait → due_point t (running_for wait counts) ≡ Some n
      so now =
          let first : counts - wait ≡ 0 = omega (arith, now) in
          point-then t wait counts false (begun t wait counts (omega (arith, now)))
          ∙ ap (λ (m : ℕ). number_of_point (count_in_period t.duration m) t.points) first
          ∙ ap (λ (count : ℕ). number_of_point count t.points) (sym none)
          ∙ number-from t.points n point timed.ascending is

  -- A period ends a duration after it began. [AUTOSAR SWS OS 4.x, section 7.3.3]
  pub period-ends : (is_end t (running_for wait counts) ≡ true) ↔ ((p : ℕ) × (counts ≡ wait + (p + 1) * t.duration))
  period-ends = (from, so)
    where
      more : (p : ℕ) → (p + 1) * t.duration ≡ p * t.duration + t.duration
      more p = add-mul p 1 t.duration ∙ ap (λ (n : ℕ). p * t.duration + n) (one-mul t.duration)

      from : is_end t (running_for wait counts) ≡ true → (p : ℕ) × (counts ≡ wait + (p + 1) * t.duration)
      from ends =
          let at = whole-at t wait counts ends in
          let turn = period-from t.duration (counts - wait) t.duration timed.lasting at.1 in
          (turn.0, omega (arith, at.0, turn.1, more turn.0))

      so : (p : ℕ) × (counts ≡ wait + (p + 1) * t.duration) → is_end t (running_for wait counts) ≡ true
      so turn =
          let into : count_in_period t.duration (counts - wait) ≡ t.duration = period-so t.duration (counts - wait) t.duration turn.0 timed.lasting (omega arith) (omega (arith, turn.1, more turn.0)) in
          end-then t wait counts false (begun t wait counts (omega (arith, turn.1)))
          ∙ eq-eqb (count_in_period t.duration (counts - wait)) t.duration into

  pub periodic : IsPeriodic t wait counts
  periodic = record { points = point-is-due; first = first-point-is-due; ends = period-ends }

-- ---- and the table of a history

-- If a table was started and no later entry concerns it, it runs for as many counts as its counter had since then.
pub runs-since : (c : CounterRef) (s : TableRef) (wait : ℕ) (later h : History) → list_all (λ (e : Entry). not (concerns s e)) later ≡ true
    → table_state c s (later ++ Noted (TableStarted s wait) ∷ h) ≡ running_for wait (counts_of c later)
runs-since c s wait [] h none = cond-true (same_table s s) (started_after wait) (table_state c s h) (same_table-refl s)
runs-since c s wait (e ∷ later) h none =
    let both = and_parts (not (concerns s e)) (list_all (λ (x : Entry). not (concerns s x)) later) none in
    other e both.0 (runs-since c s wait later h both.1)
  where
    other : (e : Entry) → not (concerns s e) ≡ true → table_state c s (later ++ Noted (TableStarted s wait) ∷ h) ≡ running_for wait (counts_of c later)
        → table_state c s (e ∷ later ++ Noted (TableStarted s wait) ∷ h) ≡ running_for wait (counts_of c (e ∷ later))
    other (Noted (TableStarted t w)) apart is = ap (λ (b : Bool). cond b (started_after w) (table_state c s (later ++ Noted (TableStarted s wait) ∷ h))) (not-true (same_table t s) apart) ∙ is
    other (Noted (TableStopped t)) apart is = ap (λ (b : Bool). cond b Stopped (table_state c s (later ++ Noted (TableStarted s wait) ∷ h))) (not-true (same_table t s) apart) ∙ is
    other (Noted (TableNext t u)) apart is = ap (λ (b : Bool). cond b (NextOf t) (table_state c s (later ++ Noted (TableStarted s wait) ∷ h))) (not-true (same_table u s) apart) ∙ is
    other (Noted (CounterIncremented k)) apart is = ap (λ (x : TableState). cond (same_counter k c) (counted_once x) x) is ∙ by (same_counter k c)
      where
        by : (b : Bool) → cond b (counted_once (running_for wait (counts_of c later))) (running_for wait (counts_of c later)) ≡ running_for wait (cond b (suc (counts_of c later)) (counts_of c later))
        by true = refl
        by false = refl
    other e apart is = is
