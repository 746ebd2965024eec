-- A table that runs, one count later.
use Rattle.std.proofs.Common.{◌≡◌, ℕ, suc, ◌+◌, ◌-◌, ◌%◌, ◌<◌, ◌≤◌, Bool, true, false, cond, nat_eq, nat_le, nat_lt, IfSome, Option, Some, None, is_some, refl, ap, sym, subst, ◌∙◌, arith}
use Rattle.std.specs.{List.slice_get, Option.option_map_or}
use Rattle.std.proofs.Math.Nat.{mod-eq_of_lt, mod-lt, mod_self, suc-mod}
use Rattle.std.proofs.lemmas.Bool.{eq-eqb, eqb-false, eqb-true, leb-false, leb-true, lt-leb, ltb-false, ltb-true, ne_eqb}
use Rattle.osbase.specs.Counting.{TableRun, TableState, Stopped, NextOf, Running, counted_once}
use Rattle.osplan.specs.{declared.plans.ExpiryPoint.ExpiryPoint, declared.plans.Table.Table as TablePlan}
use Rattle.osbase.proofs.Places.{passes-at}
use Rattle.ostable.specs.{declared.table.Ahead.Ahead, declared.table.Due.Due, declared.table.Table.Table, Periods.number_of_point}
use Rattle.ostable.specs.Ahead.{IsTimed, ahead_at, ahead_beyond, ahead_in, beyond_next, count_of_next, due_after, due_at, due_in, due_next, due_of_next, due_of_run, if_any, points_until, table_at, table_beyond}
use Rattle.ostable.proofs.Points.{Steps, begins, is_first_at_once, neighbours, steps}

module _ (t : TablePlan) (timed : IsTimed t) where
  -- ---- the count of what comes next

  pub count-within : (next : ℕ) → count_of_next t next ≤ t.duration
  count-within next = by (slice_get t.points next) refl
    where
      by : (o : Option ExpiryPoint) → slice_get t.points next ≡ o → option_map_or (λ (point : ExpiryPoint). point.offset) o t.duration ≤ t.duration
      by None e = omega arith
      by (Some p) e = leb-true p.offset t.duration (passes-at (λ (point : ExpiryPoint). nat_le point.offset t.duration) t.points next p timed.within e)

  module _ (q : ℕ) (small : q < t.duration) where
    abbrev next : ℕ
    next = points_until t q

    step : Steps q t.points
    step = steps q t.points timed.ascending

    pub later : q < count_of_next t (points_until t q)
    later = by (slice_get t.points next) step.later
      where
        by : (o : Option ExpiryPoint) → IfSome o (λ (point : ExpiryPoint). q < point.offset) → q < option_map_or (λ (point : ExpiryPoint). point.offset) o t.duration
        by None h = small
        by (Some p) h = h

    -- whether the point that comes next, if there is one, is due at this count
    next-is : (o : Option ExpiryPoint) → slice_get t.points next ≡ o → option_map_or (λ (point : ExpiryPoint). nat_eq point.offset (suc q)) (slice_get t.points next) false ≡ option_map_or (λ (point : ExpiryPoint). nat_eq point.offset (suc q)) o false
    next-is o e = ap (λ (x : Option ExpiryPoint). option_map_or (λ (point : ExpiryPoint). nat_eq point.offset (suc q)) x false) e

    -- ---- what comes next is due at the next count
    module _ (due : count_of_next t (points_until t q) ≡ suc q) where
      pub due-beyond : beyond_next t (points_until t q) ≡ ahead_in t (suc q % t.duration)
      due-beyond = by (nat_eq (count_of_next t next) t.duration) refl
        where
          by : (b : Bool) → nat_eq (count_of_next t next) t.duration ≡ b → cond b (ahead_in t 0) (record { next = suc next; distance = count_of_next t (suc next) - count_of_next t next }) ≡ ahead_in t (suc q % t.duration)
          by true e =
              let whole : suc q ≡ t.duration = sym due ∙ eqb-true (count_of_next t next) t.duration e in
              ap (ahead_in t) (sym (ap (λ (n : ℕ). n % t.duration) whole ∙ mod_self t.duration))
          by false e =
              let part : suc q < t.duration = omega (arith, small, due, eqb-false (count_of_next t next) t.duration e) in
              there (slice_get t.points next) refl
              ∙ ap (ahead_in t) (sym (mod-eq_of_lt part))
            where
              there : (o : Option ExpiryPoint) → slice_get t.points next ≡ o → (let a : Ahead = record { next = suc next; distance = count_of_next t (suc next) - count_of_next t next } in a) ≡ ahead_in t (suc q)
              there None f = absurd (eqb-false (count_of_next t next) t.duration e (ap (λ (o : Option ExpiryPoint). option_map_or (λ (point : ExpiryPoint). point.offset) o t.duration) f))
              there (Some p) f =
                  let offset : p.offset ≡ suc q = sym (ap (λ (o : Option ExpiryPoint). option_map_or (λ (point : ExpiryPoint). point.offset) o t.duration) f) ∙ due in
                  let more : points_until t (suc q) ≡ suc next = step.more ∙ ap (λ (b : Bool). cond b (suc next) next) (next-is (Some p) f ∙ eq-eqb p.offset (suc q) offset) in
                  ap (λ (c : ℕ). let a : Ahead = record { next = suc next; distance = count_of_next t (suc next) - c } in a) due
                  ∙ ap (λ (n : ℕ). let a : Ahead = record { next = n; distance = count_of_next t n - suc q } in a) (sym more)

      pub due-now : Some (due_of_next t (points_until t q)) ≡ if_any (due_in t (suc q))
      due-now = by (slice_get t.points next) refl
        where
          ends : nat_eq (count_of_next t next) t.duration ≡ nat_eq (suc q) t.duration
          ends = ap (λ (n : ℕ). nat_eq n t.duration) due

          by : (o : Option ExpiryPoint) → slice_get t.points next ≡ o → Some (due_of_next t next) ≡ if_any (due_in t (suc q))
          by None f =
              let whole : suc q ≡ t.duration = sym due ∙ ap (λ (o : Option ExpiryPoint). option_map_or (λ (point : ExpiryPoint). point.offset) o t.duration) f in
              let number : number_of_point (suc q) t.points ≡ None = step.number ∙ ap (λ (b : Bool). cond b (Some next) None) (next-is None f) in
              let yes : nat_eq (suc q) t.duration ≡ true = eq-eqb (suc q) t.duration whole in
              rw (ends, f, number, yes) refl
          by (Some p) f =
              let offset : p.offset ≡ suc q = sym (ap (λ (o : Option ExpiryPoint). option_map_or (λ (point : ExpiryPoint). point.offset) o t.duration) f) ∙ due in
              let number : number_of_point (suc q) t.points ≡ Some next = step.number ∙ ap (λ (b : Bool). cond b (Some next) None) (next-is (Some p) f ∙ eq-eqb p.offset (suc q) offset) in
              rw (ends, f, number) refl

    -- ---- what comes next is due later
    module _ (other : suc q < count_of_next t (points_until t q)) where
      not-next : option_map_or (λ (point : ExpiryPoint). nat_eq point.offset (suc q)) (slice_get t.points next) false ≡ false
      not-next = by (slice_get t.points next) refl
        where
          by : (o : Option ExpiryPoint) → slice_get t.points next ≡ o → option_map_or (λ (point : ExpiryPoint). nat_eq point.offset (suc q)) (slice_get t.points next) false ≡ false
          by None f = next-is None f
          by (Some p) f =
              let further : suc q < p.offset = subst (λ (n : ℕ). suc q < n) (ap (λ (o : Option ExpiryPoint). option_map_or (λ (point : ExpiryPoint). point.offset) o t.duration) f) other in
              next-is (Some p) f ∙ ne_eqb p.offset (suc q) (λ e. omega (arith, e, further))

      part : suc q < t.duration
      part = omega (arith, other, count-within next)

      same : points_until t (suc q) ≡ next
      same = step.more ∙ ap (λ (b : Bool). cond b (suc next) next) not-next

      pub wait-beyond : (let a : Ahead = record { next = points_until t q; distance = (count_of_next t (points_until t q) - q) - 1 } in a) ≡ ahead_in t (suc q % t.duration)
      wait-beyond =
          let less : (count_of_next t next - q) - 1 ≡ count_of_next t next - suc q = omega arith in
          ap (λ (n : ℕ). let a : Ahead = record { next = next; distance = n } in a) less
          ∙ ap (λ (n : ℕ). let a : Ahead = record { next = n; distance = count_of_next t n - suc q } in a) (sym same)
          ∙ ap (ahead_in t) (sym (mod-eq_of_lt part))

      pub wait-now : None ≡ if_any (due_in t (suc q))
      wait-now =
          let number : number_of_point (suc q) t.points ≡ None = step.number ∙ ap (λ (b : Bool). cond b (Some next) None) not-next in
          let no : nat_eq (suc q) t.duration ≡ false = ne_eqb (suc q) t.duration (λ e. omega (arith, e, part)) in
          rw (number, no) refl

  -- ---- the whole, by what the code keeps

  one-more : (n q : ℕ) → n % t.duration ≡ q → suc n % t.duration ≡ suc q % t.duration
  one-more n q is = suc-mod n t.duration ∙ ap (λ (m : ℕ). suc m % t.duration) is

  pub record Goes (ahead : Ahead) (after : Ahead) (due : Option Due) : Type 0 where
    pub beyond : ahead_beyond t ahead ≡ after
    pub now : due_after t ahead ≡ due

  -- before the end of a period
  pub goes-in : (q : ℕ) → q < t.duration → Goes (ahead_in t q) (ahead_in t (suc q % t.duration)) (if_any (due_in t (suc q)))
  goes-in q small = by (nat_le (count_of_next t (points_until t q) - q) 1) refl
    where
      by : (b : Bool) → nat_le (count_of_next t (points_until t q) - q) 1 ≡ b → Goes (ahead_in t q) (ahead_in t (suc q % t.duration)) (if_any (due_in t (suc q)))
      by true e =
          let due : count_of_next t (points_until t q) ≡ suc q = omega (arith, leb-true (count_of_next t (points_until t q) - q) 1 e, later q small) in
          record { beyond = rw (e) (due-beyond q small due); now = rw (e) (due-now q small due) }
      by false e =
          let other : suc q < count_of_next t (points_until t q) = omega (arith, leb-false (count_of_next t (points_until t q) - q) 1 e) in
          record { beyond = rw (e) (wait-beyond q small other); now = rw (e) (wait-now q small other) }

  -- ---- where a period begins

  lasts : 0 < t.duration
  lasts = omega (arith, timed.lasting)

  -- a first point of offset 0 or a later one
  first-zero : (o : Option ExpiryPoint) → slice_get t.points 0 ≡ o → count_of_next t 0 ≡ 0 → is_first_at_once t.points ≡ true
  first-zero None e none = absurd (omega (arith, lasts, sym (ap (λ (o : Option ExpiryPoint). option_map_or (λ (point : ExpiryPoint). point.offset) o t.duration) e) ∙ none))
  first-zero (Some p) e none =
      ap (λ (o : Option ExpiryPoint). option_map_or (λ (point : ExpiryPoint). nat_eq point.offset 0) o false) e
      ∙ eq-eqb p.offset 0 (sym (ap (λ (o : Option ExpiryPoint). option_map_or (λ (point : ExpiryPoint). point.offset) o t.duration) e) ∙ none)

  first-later : (o : Option ExpiryPoint) → slice_get t.points 0 ≡ o → 0 < count_of_next t 0 → is_first_at_once t.points ≡ false
  first-later None e some = ap (λ (o : Option ExpiryPoint). option_map_or (λ (point : ExpiryPoint). nat_eq point.offset 0) o false) e
  first-later (Some p) e some =
      ap (λ (o : Option ExpiryPoint). option_map_or (λ (point : ExpiryPoint). nat_eq point.offset 0) o false) e
      ∙ ne_eqb p.offset 0 (λ none. omega (arith, none, subst (λ (n : ℕ). 0 < n) (ap (λ (o : Option ExpiryPoint). option_map_or (λ (point : ExpiryPoint). point.offset) o t.duration) e) some))

  pub begin-zero : count_of_next t 0 ≡ 0 → (points_until t 0 ≡ 1) × (number_of_point 0 t.points ≡ Some 0)
  begin-zero none =
      let b = begins t.points timed.ascending in
      let yes = first-zero (slice_get t.points 0) refl none in
      (b.passed ∙ ap (λ (c : Bool). cond c 1 0) yes, b.number ∙ ap (λ (c : Bool). cond c (Some 0) None) yes)

  pub begin-later : 0 < count_of_next t 0 → (points_until t 0 ≡ 0) × (number_of_point 0 t.points ≡ None)
  begin-later some =
      let b = begins t.points timed.ascending in
      let no = first-later (slice_get t.points 0) refl some in
      (b.passed ∙ ap (λ (c : Bool). cond c 1 0) no, b.number ∙ ap (λ (c : Bool). cond c (Some 0) None) no)

  no-end : nat_eq 0 t.duration ≡ false
  no-end = ne_eqb 0 t.duration (λ e. omega (arith, e, lasts))

  has-first : count_of_next t 0 ≡ 0 → (o : Option ExpiryPoint) → slice_get t.points 0 ≡ o → is_some (slice_get t.points 0) ≡ true
  has-first none None e = absurd (omega (arith, lasts, sym (ap (λ (o : Option ExpiryPoint). option_map_or (λ (point : ExpiryPoint). point.offset) o t.duration) e) ∙ none))
  has-first none (Some p) e = ap is_some e

  -- at the last count before its first period
  starts-now : count_of_next t 0 ≡ 0 → Goes (record { next = 0; distance = 1 }) (ahead_in t 0) (if_any (due_in t 0))
  starts-now none =
      let b = begin-zero none in
      let no : nat_eq (count_of_next t 0) t.duration ≡ false = ap (λ (n : ℕ). nat_eq n t.duration) none ∙ no-end in
      record {
        beyond =
            ap (λ (x : Bool). cond x (ahead_in t 0) (record { next = 1; distance = count_of_next t 1 - count_of_next t 0 })) no
            ∙ ap (λ (n : ℕ). let a : Ahead = record { next = 1; distance = count_of_next t 1 - n } in a) none
            ∙ ap (λ (n : ℕ). let a : Ahead = record { next = n; distance = count_of_next t n - 0 } in a) (sym b.0);
        now = rw (no, has-first none (slice_get t.points 0) refl, b.1, no-end) refl;
      }

  starts-later : 0 < count_of_next t 0 → Goes (record { next = 0; distance = suc (count_of_next t 0) }) (ahead_in t 0) (if_any (due_in t 0))
  starts-later some =
      let b = begin-later some in
      let more : nat_le (suc (count_of_next t 0)) 1 ≡ false = lt-leb (suc (count_of_next t 0)) 1 (omega (arith, some)) in
      record {
        beyond =
            ap (λ (x : Bool). cond x (beyond_next t 0) (record { next = 0; distance = suc (count_of_next t 0) - 1 })) more
            ∙ ap (λ (n : ℕ). let a : Ahead = record { next = 0; distance = n } in a) (omega arith)
            ∙ ap (λ (n : ℕ). let a : Ahead = record { next = n; distance = count_of_next t n - 0 } in a) (sym b.0);
        now = rw (more, b.1, no-end) refl;
      }

  starts-in : Goes (record { next = 0; distance = suc (count_of_next t 0) }) (ahead_in t 0) (if_any (due_in t 0))
  starts-in = by (nat_eq (count_of_next t 0) 0) refl
    where
      by : (b : Bool) → nat_eq (count_of_next t 0) 0 ≡ b → Goes (record { next = 0; distance = suc (count_of_next t 0) }) (ahead_in t 0) (if_any (due_in t 0))
      by true e =
          let none = eqb-true (count_of_next t 0) 0 e in
          subst (λ (n : ℕ). Goes (record { next = 0; distance = suc n }) (ahead_in t 0) (if_any (due_in t 0))) (sym none) (starts-now none)
      by false e = starts-later (omega (arith, eqb-false (count_of_next t 0) 0 e))

  -- at an earlier count
  waits : (counts wait : ℕ) → suc counts < wait → Goes (record { next = 0; distance = (wait - counts) + count_of_next t 0 }) (record { next = 0; distance = (wait - suc counts) + count_of_next t 0 }) None
  waits counts wait before =
      let more : nat_le ((wait - counts) + count_of_next t 0) 1 ≡ false = lt-leb ((wait - counts) + count_of_next t 0) 1 (omega (arith, before)) in
      record {
        beyond =
            ap (λ (x : Bool). cond x (beyond_next t 0) (record { next = 0; distance = ((wait - counts) + count_of_next t 0) - 1 })) more
            ∙ ap (λ (n : ℕ). let a : Ahead = record { next = 0; distance = n } in a) (omega (arith, before));
        now = rw (more) refl;
      }

  pub goes-on : (run : TableRun) → Goes (ahead_at t run) (ahead_at t (record run { counts = suc run.counts })) (due_of_run t (record run { counts = suc run.counts }))
  goes-on run = by (nat_lt run.counts run.wait) (nat_lt (suc run.counts) run.wait) refl refl
    where
      by : (b c : Bool) → nat_lt run.counts run.wait ≡ b → nat_lt (suc run.counts) run.wait ≡ c → Goes (ahead_at t run) (ahead_at t (record run { counts = suc run.counts })) (due_of_run t (record run { counts = suc run.counts }))
      by true true e f = rw (e, f) (waits run.counts run.wait (ltb-true (suc run.counts) run.wait f))
      by true false e f =
          let last : run.wait ≡ suc run.counts = omega (arith, ltb-true run.counts run.wait e, ltb-false (suc run.counts) run.wait f) in
          let one : (run.wait - run.counts) + count_of_next t 0 ≡ suc (count_of_next t 0) = omega (arith, last) in
          let now : suc run.counts - run.wait ≡ 0 = omega (arith, last) in
          let begun : 0 % t.duration ≡ 0 = mod-eq_of_lt lasts in
          rw (e, f, one, now, begun) starts-in
      by false true e f = absurd (omega (arith, ltb-false run.counts run.wait e, ltb-true (suc run.counts) run.wait f))
      by false false e f =
          let n = run.counts - run.wait in
          let more : suc run.counts - run.wait ≡ suc n = omega (arith, ltb-false run.counts run.wait e) in
          let on : suc n % t.duration ≡ suc (n % t.duration) % t.duration = one-more n (n % t.duration) refl in
          rw (e, f, more, on) (goes-in (n % t.duration) (mod-lt n lasts))

  -- ---- a table

  pub beyond-at : (table : Table) (state : TableState) → table ≡ table_at t state → table_beyond t table ≡ table_at t (counted_once state)
  beyond-at table Stopped is = ap (table_beyond t) is
  beyond-at table (NextOf s) is = ap (table_beyond t) is
  beyond-at table (Running run) is = ap (table_beyond t) is ∙ ap Table.Running (goes-on run).beyond

  pub due-at : (table : Table) (state : TableState) → table ≡ table_at t state → due_next t table ≡ due_at t (counted_once state)
  due-at table Stopped is = ap (due_next t) is
  due-at table (NextOf s) is = ap (due_next t) is
  due-at table (Running run) is = ap (due_next t) is ∙ (goes-on run).now

  -- ---- what comes next is no earlier than what came before

  pub next-later : (next : ℕ) → nat_eq (count_of_next t next) t.duration ≡ false → count_of_next t next ≤ count_of_next t (suc next)
  next-later next part = by (slice_get t.points next) (slice_get t.points (suc next)) refl refl
    where
      by : (o r : Option ExpiryPoint) → slice_get t.points next ≡ o → slice_get t.points (suc next) ≡ r → count_of_next t next ≤ option_map_or (λ (point : ExpiryPoint). point.offset) r t.duration
      by o None e f = count-within next
      by None (Some r) e f = absurd (eqb-false (count_of_next t next) t.duration part (ap (λ (o : Option ExpiryPoint). option_map_or (λ (point : ExpiryPoint). point.offset) o t.duration) e))
      by (Some p) (Some r) e f =
          let is : count_of_next t next ≡ p.offset = ap (λ (o : Option ExpiryPoint). option_map_or (λ (point : ExpiryPoint). point.offset) o t.duration) e in
          omega (arith, is, neighbours t.points next p r timed.ascending e f)
