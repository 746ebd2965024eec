-- The actions of a core's alarms and expiry points: which tests they pass, and what they may act on.
use Rattle.std.proofs.Common.{◌≡◌, ◌≤◌, ◌&&◌, ◌==◌, ℕ, zero, suc, nat_le, nat_lt, Bool, true, false, cond, Option, Some, None, IfSome, IsTrue, List, [], ◌∷◌, flat_map, length, map, refl, ap, sym, ◌∙◌, arith}
use Rattle.std.specs.List.{list_all, slice_get}
use Rattle.std.proofs.lemmas.Bool.{and_from, and_parts, ltb-false, ltb-true}
use Rattle.std.proofs.{lemmas.List.Folds.list_all-append, lemmas.List.Folds.list_all-map, lemmas.Option.cond_some, lemmas.Option.option_and_then_some}
use Rattle.osbase.specs.{declared.references.AlarmRef.AlarmRef, declared.references.TableRef.TableRef, declared.messages.RemoteCall.RemoteCall, History.greater, History.same_core}
use Rattle.osplan.specs.{declared.plans.Alarm.Alarm, declared.plans.Core.Core, declared.plans.ExpiryPoint.ExpiryPoint, declared.plans.Table.Table, Clocked.are_clocks_within, View.own_alarm, View.own_table}
use Rattle.osplan.specs.Objects.{core_actions, greatest_of, may_act, posted_at, table_actions}
use Rattle.osplan.proofs.{Tests.each-flat, Timing.own-table-timed, Timing.own-table-within, Timing.table-parts}
use Rattle.osbase.proofs.Places.{passes-at}
use Rattle.osaction.specs.Points.{is_known_point}
use Rattle.osexpiry.specs.ExpiryPoints.{first_point, if_at_zero, point_of}

-- ---- tests that all of a core's actions pass

-- If a choice between a value and none gives a value, its test holds and that value is there.
pub if-found : {X : Type 0} (b : Bool) (o : Option X) (x : X) → cond b o None ≡ Some x → (b ≡ true) × (o ≡ Some x)
if-found true o x is = (refl, is)
if-found false o x is = cc

pub point-in-table : (p : RemoteCall → Bool) (table : Table) (n : ℕ) (point : ExpiryPoint) → list_all p (table_actions table) ≡ true → slice_get table.points n ≡ Some point → list_all p point.actions ≡ true
point-in-table p table n point all = passes-at (λ (x : ExpiryPoint). list_all p x.actions) table.points n point (each-flat p (λ (x : ExpiryPoint). x.actions) table.points all)

-- The point with which a period begins is the table's first one.
pub first-there : (core : Core) (s : TableRef) (point : ExpiryPoint) → first_point core s ≡ Some point → point_of core s 0 ≡ Some point
first-there core s point is = option_and_then_some if_at_zero (point_of core s 0) point is (λ x there once. there ∙ ap Some (cond_some (x.offset == 0) x point once).1)

module _ (p : RemoteCall → Bool) (core : Core) (all : list_all p (core_actions core) ≡ true) where
  -- The actions of the alarms, and those of the tables.
  each : (list_all p (map (λ (x : Alarm). x.action) core.alarms) ≡ true) × (list_all p (flat_map table_actions core.tables) ≡ true)
  each = and_parts _ _ (sym (list_all-append p (map (λ (x : Alarm). x.action) core.alarms) (flat_map table_actions core.tables)) ∙ all)

  pub alarm-passes : (a : AlarmRef) (x : Alarm) → own_alarm core a ≡ Some x → p x.action ≡ true
  alarm-passes a x is =
      passes-at (λ (y : Alarm). p y.action) core.alarms a.index x (sym (list_all-map p (λ (y : Alarm). y.action) core.alarms) ∙ each.0) (if-found (same_core a.core core.id) (slice_get core.alarms a.index) x is).1

  pub point-passes : (s : TableRef) (n : ℕ) (point : ExpiryPoint) → point_of core s n ≡ Some point → list_all p point.actions ≡ true
  point-passes s n point is =
      option_and_then_some (λ (table : Table). slice_get table.points n) (own_table core s) point is (λ table own there.
      point-in-table p table n point (passes-at (λ (x : Table). list_all p (table_actions x)) core.tables s.index table (each-flat p table_actions core.tables each.1) (if-found (same_core s.core core.id) (slice_get core.tables s.index) table own).1) there)

-- ---- a point of one of the core's tables

module _ (core : Core) (s : TableRef) (table : Table) (within : are_clocks_within core ≡ true) (is : Some table ≡ own_table core s) (known : list_all (may_act core) (table_actions table) ≡ true) where
  pub known-point : (n : ℕ) (point : ExpiryPoint) → slice_get table.points n ≡ Some point → is_known_point core point ≡ true
  known-point n point there =
      let parts = table-parts core table (own-table-within core s table within (sym is)) (own-table-timed core s table within (sym is)) in
      and_from (list_all (may_act core) point.actions) (nat_le (length point.actions) 8)
      (point-in-table (may_act core) table n point known there)
      (and_parts (nat_le 1 (length point.actions)) (nat_le (length point.actions) 8) (passes-at (λ (x : ExpiryPoint). nat_le 1 (length x.actions) && nat_le (length x.actions) 8) table.points n point parts.actions there)).1

  pub known-if-point : (n : ℕ) (o : Option ExpiryPoint) → o ≡ slice_get table.points n → IfSome o (λ point. IsTrue (is_known_point core point))
  known-if-point n None e = tt
  known-if-point n (Some point) e = known-point n point (sym e)

greater-both : (m n : ℕ) → (m ≤ greater m n) × (n ≤ greater m n)
greater-both m n = by (nat_lt m n) refl
  where
    by : (b : Bool) → nat_lt m n ≡ b → (m ≤ cond b n m) × (n ≤ cond b n m)
    by true e = (omega (arith, ltb-true m n e), omega arith)
    by false e = (omega arith, omega (arith, ltb-false m n e))

-- A point posts no more letters than the table's busiest point.
pub posted-within : (core : Core) (points : List ExpiryPoint) (n : ℕ) (point : ExpiryPoint) → slice_get points n ≡ Some point → posted_at core point ≤ greatest_of (map (posted_at core) points)
posted-within core [] n point there = cc
posted-within core (p ∷ points) zero point there = let same : p ≡ point = cc in omega (arith, ap (posted_at core) same, (greater-both (posted_at core p) (greatest_of (map (posted_at core) points))).0)
posted-within core (p ∷ points) (suc n) point there = let rest = posted-within core points n point there in omega (arith, rest, (greater-both (posted_at core p) (greatest_of (map (posted_at core) points))).1)
