-- The limits of a table's points.
use Rattle.std.proofs.Common.{◌≡◌, ℕ, ◌≤◌, Bool, true, nat_le, nat_lt, Some, List, [], ◌∷◌, length, map, refl, arith}
use Rattle.std.specs.List.{list_all}
use Rattle.std.proofs.lemmas.Bool.{and_parts, and_from, leb-true, le-leb, ltb-true}
use Rattle.std.proofs.lemmas.List.{length-map}
use Rattle.osbase.specs.{declared.references.TableRef.TableRef, History.same_core}
use Rattle.osplan.specs.{declared.plans.Core.Core, declared.plans.ExpiryPoint.ExpiryPoint, declared.plans.Table.Table as TablePlan, Clocked.are_clocks_within, Clocked.own_table_sizes, View.own_table}
use Rattle.osplan.specs.Limits.{is_between, is_point_within, is_table_timed, is_table_within, last_offset, point_sizes}
use Rattle.osplan.specs.Limits as limits
use Rattle.osplan.proofs.{Clocked.clock-parts, Within.between}
use Rattle.osbase.proofs.Places.{own-passes as passes}
use Rattle.ostable.specs.{Ahead.IsTimed, Periods.are_ascending}

-- the sizes of points ascend where the points do
ascends : (points : List ExpiryPoint) → limits.are_ascending (map point_sizes points) ≡ true → are_ascending points ≡ true
ascends [] a = refl
ascends (p ∷ []) a = refl
ascends (p ∷ r ∷ points) a =
    let both = and_parts (nat_lt p.offset r.offset) (limits.are_ascending (map point_sizes (r ∷ points))) a in
    and_from _ _ both.0 (ascends (r ∷ points) both.1)

-- no point is later than the last one
first-last : (p : ExpiryPoint) (points : List ExpiryPoint) → are_ascending (p ∷ points) ≡ true → p.offset ≤ last_offset (map point_sizes (p ∷ points))
first-last p [] a = omega arith
first-last p (r ∷ points) a =
    let both = and_parts (nat_lt p.offset r.offset) (are_ascending (r ∷ points)) a in
    let later = ltb-true p.offset r.offset both.0 in
    let rest = first-last r points both.1 in
    omega (arith, later, rest)

pub none-later : (points : List ExpiryPoint) (most : ℕ) → are_ascending points ≡ true → last_offset (map point_sizes points) ≤ most → list_all (λ (point : ExpiryPoint). nat_le point.offset most) points ≡ true
none-later [] most a last = refl
none-later (p ∷ []) most a last = and_from _ _ (le-leb p.offset most last) refl
none-later (p ∷ r ∷ points) most a last =
    let first = first-last p (r ∷ points) a in
    and_from _ _ (le-leb p.offset most (omega (arith, first, last))) (none-later (r ∷ points) most (and_parts (nat_lt p.offset r.offset) (are_ascending (r ∷ points)) a).1 last)

pub own-passes : (core : Core) (q : TablePlan → Bool) (s : TableRef) (t : TablePlan) → list_all q core.tables ≡ true → own_table core s ≡ Some t → q t ≡ true
own-passes core q s t all own = passes q core.tables (same_core s.core core.id) s.index t all own

-- An own table is within the limits of `IsTimed`.
pub timed : (core : Core) (s : TableRef) (t : TablePlan) → are_clocks_within core ≡ true → own_table core s ≡ Some t → IsTimed t
timed core s t within own =
    let parts = clock-parts core within in
    let sizes = own-passes core (λ (x : TablePlan). is_table_within (own_table_sizes core x)) s t parts.sizes own in
    let order = own-passes core (λ (x : TablePlan). is_table_timed (own_table_sizes core x)) s t parts.timed own in
    let few = and_parts _ (list_all is_point_within (map point_sizes t.points)) (and_parts _ _ sizes).0 in
    let numbers = and_parts (is_between 1 1000000000 (Some t.duration)) (is_between 1 16 (Some (length (map point_sizes t.points)))) few.0 in
    let count = between 1 16 (length (map point_sizes t.points)) numbers.1 in
    let lasting = between 1 1000000000 t.duration numbers.0 in
    let shape = and_parts (limits.are_ascending (map point_sizes t.points)) (nat_le (last_offset (map point_sizes t.points)) t.duration) (and_parts _ _ order).0 in
    let ascending = ascends t.points shape.0 in
    record {
      few = omega (arith, count.1, length-map t.points point_sizes);
      ascending = ascending;
      within = none-later t.points t.duration ascending (leb-true (last_offset (map point_sizes t.points)) t.duration shape.1);
      lasting = lasting.0;
      bounded = lasting.1;
    }
