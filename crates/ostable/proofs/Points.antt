-- Points by ascending offset: which of them is next, and which is due.
use Rattle.std.proofs.Common.{◌≡◌, ℕ, zero, suc, ◌<◌, ◌≤◌, Bool, true, false, cond, nat_eq, nat_le, nat_lt, IfSome, Option, Some, None, option_map, List, [], ◌∷◌, filter, length, refl, ap, sym, subst, ◌∙◌, arith}
use Rattle.std.specs.{List.slice_get, Option.option_map_or}
use Rattle.std.proofs.lemmas.Bool.{and_parts, eq-eqb, eqb-true, eqb-false, leb-false, leb-true, le-leb, lt-leb, ltb-true, ne_eqb}
use Rattle.osplan.specs.declared.plans.ExpiryPoint.{ExpiryPoint}
use Rattle.ostable.specs.Periods.{are_ascending, number_of_point}

abbrev pub until : ℕ → List ExpiryPoint → ℕ
until q points = length (filter (λ (point : ExpiryPoint). nat_le point.offset q) points)

-- The first point after those that are due until q is due at this count.
abbrev pub is_next_at : ℕ → ℕ → List ExpiryPoint → Bool
is_next_at count q points = option_map_or (λ (point : ExpiryPoint). nat_eq point.offset count) (slice_get points (until q points)) false

pub rest-ascending : (p : ExpiryPoint) (points : List ExpiryPoint) → are_ascending (p ∷ points) ≡ true → are_ascending points ≡ true
rest-ascending p [] a = refl
rest-ascending p (r ∷ points) a = (and_parts (nat_lt p.offset r.offset) (are_ascending (r ∷ points)) a).1

rest-later : (p r : ExpiryPoint) (points : List ExpiryPoint) → are_ascending (p ∷ r ∷ points) ≡ true → p.offset < r.offset
rest-later p r points a = ltb-true p.offset r.offset (and_parts (nat_lt p.offset r.offset) (are_ascending (r ∷ points)) a).0

-- If the first point is later than a count, no point is due until that count.
none-until : (q : ℕ) (p : ExpiryPoint) (points : List ExpiryPoint) → are_ascending (p ∷ points) ≡ true → q < p.offset → until q (p ∷ points) ≡ 0
none-until q p [] a later = rw (lt-leb p.offset q later) refl
none-until q p (r ∷ points) a later = rw (lt-leb p.offset q later) (none-until q r points (rest-ascending p (r ∷ points) a) (omega (arith, later, rest-later p r points a)))

-- If the first point is later than a count, no point is due at that count.
none-numbered : (q : ℕ) (p : ExpiryPoint) (points : List ExpiryPoint) → are_ascending (p ∷ points) ≡ true → q < p.offset → number_of_point q (p ∷ points) ≡ None
none-numbered q p [] a later = rw (ne_eqb p.offset q (λ e. omega (arith, later, e))) refl
none-numbered q p (r ∷ points) a later = rw (ne_eqb p.offset q (λ e. omega (arith, later, e))) (ap (option_map suc) (none-numbered q r points (rest-ascending p (r ∷ points) a) (omega (arith, later, rest-later p r points a))))

-- None of the points after a point is due until that point's own count.
behind-until : (p : ExpiryPoint) (points : List ExpiryPoint) → are_ascending (p ∷ points) ≡ true → until p.offset points ≡ 0
behind-until p [] a = refl
behind-until p (r ∷ points) a = none-until p.offset r points (rest-ascending p (r ∷ points) a) (rest-later p r points a)

-- ---- one count more

-- What one count more changes: how many points are due until then, and which is due then.
pub record Steps (q : ℕ) (points : List ExpiryPoint) : Type 0 where
  pub more : until (suc q) points ≡ cond (is_next_at (suc q) q points) (suc (until q points)) (until q points)
  pub number : number_of_point (suc q) points ≡ cond (is_next_at (suc q) q points) (Some (until q points)) None
  pub later : IfSome (slice_get points (until q points)) (λ (point : ExpiryPoint). q < point.offset)

-- after a point that is due already
over : (q : ℕ) (p : ExpiryPoint) (points : List ExpiryPoint) → nat_le p.offset q ≡ true → Steps q points → Steps q (p ∷ points)
over q p points e rest =
    let least : p.offset ≤ q = leb-true p.offset q e in
    let next : nat_le p.offset (suc q) ≡ true = le-leb p.offset (suc q) (omega (arith, least)) in
    let other : nat_eq p.offset (suc q) ≡ false = ne_eqb p.offset (suc q) (λ same. omega (arith, same, least)) in
    record {
      more = rw (e, next) (ap suc rest.more ∙ pushed (is_next_at (suc q) q points));
      number = rw (e, other) (ap (option_map suc) rest.number ∙ mapped (is_next_at (suc q) q points));
      later = rw (e) rest.later;
    }
  where
    pushed : (b : Bool) → suc (cond b (suc (until q points)) (until q points)) ≡ cond b (suc (suc (until q points))) (suc (until q points))
    pushed true = refl
    pushed false = refl

    mapped : (b : Bool) → option_map suc (cond b (Some (until q points)) None) ≡ cond b (Some (suc (until q points))) None
    mapped true = refl
    mapped false = refl

-- at the first point that is not due yet
at : (q : ℕ) (p : ExpiryPoint) (points : List ExpiryPoint) → are_ascending (p ∷ points) ≡ true → q < p.offset → Steps q (p ∷ points)
at q p points a later = by (nat_eq p.offset (suc q)) refl
  where
    none : until q (p ∷ points) ≡ 0
    none = none-until q p points a later

    by : (b : Bool) → nat_eq p.offset (suc q) ≡ b → Steps q (p ∷ points)
    by true e =
        let is : p.offset ≡ suc q = eqb-true p.offset (suc q) e in
        let passed : nat_le p.offset (suc q) ≡ true = le-leb p.offset (suc q) (omega (arith, is)) in
        let rest : until (suc q) points ≡ 0 = ap (λ (n : ℕ). until n points) (sym is) ∙ behind-until p points a in
        record { more = rw (none, e, passed, rest) refl; number = rw (none, e) refl; later = rw (none) later }
    by false e =
        let further : suc q < p.offset = omega (arith, later, eqb-false p.offset (suc q) e) in
        record {
          more = rw (none, e) (none-until (suc q) p points a further);
          number = rw (none, e) (ap (λ (b : Bool). cond b (Some 0) (option_map suc (number_of_point (suc q) points))) (sym e) ∙ none-numbered (suc q) p points a further);
          later = rw (none) later;
        }

one-step : (q : ℕ) (p : ExpiryPoint) (points : List ExpiryPoint) (b : Bool) → nat_le p.offset q ≡ b → are_ascending (p ∷ points) ≡ true → Steps q points → Steps q (p ∷ points)
one-step q p points true e a rest = over q p points e rest
one-step q p points false e a rest = at q p points a (leb-false p.offset q e)

pub steps : (q : ℕ) (points : List ExpiryPoint) → are_ascending points ≡ true → Steps q points
steps q [] a = record { more = refl; number = refl; later = tt }
steps q (p ∷ points) a = one-step q p points (nat_le p.offset q) refl a (steps q points (rest-ascending p points a))

-- ---- where a period begins

abbrev pub is_first_at_once : List ExpiryPoint → Bool
is_first_at_once points = option_map_or (λ (point : ExpiryPoint). nat_eq point.offset 0) (slice_get points 0) false

pub record Begins (points : List ExpiryPoint) : Type 0 where
  pub passed : until 0 points ≡ cond (is_first_at_once points) 1 0
  pub number : number_of_point 0 points ≡ cond (is_first_at_once points) (Some 0) None

pub begins : (points : List ExpiryPoint) → are_ascending points ≡ true → Begins points
begins [] a = record { passed = refl; number = refl }
begins (p ∷ points) a = by (nat_eq p.offset 0) refl
  where
    by : (b : Bool) → nat_eq p.offset 0 ≡ b → Begins (p ∷ points)
    by true e =
        let is : p.offset ≡ 0 = eqb-true p.offset 0 e in
        let first : nat_le p.offset 0 ≡ true = le-leb p.offset 0 (omega (arith, is)) in
        let rest : until 0 points ≡ 0 = ap (λ (n : ℕ). until n points) (sym is) ∙ behind-until p points a in
        record { passed = rw (e, first, rest) refl; number = rw (e) refl }
    by false e =
        let later : 0 < p.offset = omega (arith, eqb-false p.offset 0 e) in
        record {
          passed = rw (e) (none-until 0 p points a later);
          number = rw (e) (ap (λ (b : Bool). cond b (Some 0) (option_map suc (number_of_point 0 points))) (sym e) ∙ none-numbered 0 p points a later);
        }

-- ---- neighbours

pub neighbours : (points : List ExpiryPoint) (i : ℕ) (p r : ExpiryPoint) → are_ascending points ≡ true → slice_get points i ≡ Some p → slice_get points (suc i) ≡ Some r → p.offset < r.offset
neighbours [] i p r a e f = cc
neighbours (x ∷ []) i p r a e f = cc
neighbours (x ∷ y ∷ points) zero p r a e f =
    let first : x ≡ p = cc in
    let second : y ≡ r = cc in
    subst (λ (z : ExpiryPoint). z.offset < r.offset) first (subst (λ (z : ExpiryPoint). x.offset < z.offset) second (rest-later x y points a))
neighbours (x ∷ y ∷ points) (suc i) p r a e f = neighbours (y ∷ points) i p r (rest-ascending x (y ∷ points) a) e f

-- ---- by number

first-earlier : (p : ExpiryPoint) (points : List ExpiryPoint) (n : ℕ) (q : ExpiryPoint) → are_ascending (p ∷ points) ≡ true → slice_get points n ≡ Some q → p.offset < q.offset
first-earlier p [] n q a e = cc
first-earlier p (r ∷ points) zero q a e = subst (λ (z : ExpiryPoint). p.offset < z.offset) (let same : r ≡ q = cc in same) (rest-later p r points a)
first-earlier p (r ∷ points) (suc n) q a e = omega (arith, rest-later p r points a, first-earlier r points n q (rest-ascending p (r ∷ points) a) e)

-- A point is due at its offset alone.
pub number-is : (count : ℕ) (points : List ExpiryPoint) (n : ℕ) (q : ExpiryPoint) → number_of_point count points ≡ Some n → slice_get points n ≡ Some q → q.offset ≡ count
number-is count [] n q is e = cc
number-is count (p ∷ points) n q is e = by (nat_eq p.offset count) refl is (λ m. number-is count points m q)
  where
    later : (o : Option ℕ) → number_of_point count points ≡ o → option_map suc o ≡ Some n → ((m : ℕ) → number_of_point count points ≡ Some m → slice_get points m ≡ Some q → q.offset ≡ count) → q.offset ≡ count
    later None f g rest = cc
    later (Some m) f g rest =
        let place : suc m ≡ n = cc in
        rest m f (ap (slice_get (p ∷ points)) place ∙ e)

    by : (b : Bool) → nat_eq p.offset count ≡ b → cond b (Some 0) (option_map suc (number_of_point count points)) ≡ Some n → ((m : ℕ) → number_of_point count points ≡ Some m → slice_get points m ≡ Some q → q.offset ≡ count) → q.offset ≡ count
    by true f g rest =
        let place : 0 ≡ n = cc in
        let first : Some p ≡ Some q = ap (slice_get (p ∷ points)) place ∙ e in
        let same : p ≡ q = cc in
        ap (λ (z : ExpiryPoint). z.offset) (sym same) ∙ eqb-true p.offset count f
    by false f g rest = later (number_of_point count points) refl g rest

pub number-from : (points : List ExpiryPoint) (n : ℕ) (q : ExpiryPoint) → are_ascending points ≡ true → slice_get points n ≡ Some q → number_of_point q.offset points ≡ Some n
number-from [] n q a e = cc
number-from (p ∷ points) zero q a e =
    let same : p ≡ q = cc in
    ap (λ (b : Bool). cond b (Some 0) (option_map suc (number_of_point q.offset points))) (eq-eqb p.offset q.offset (ap (λ (z : ExpiryPoint). z.offset) same))
number-from (p ∷ points) (suc n) q a e =
    ap (λ (b : Bool). cond b (Some 0) (option_map suc (number_of_point q.offset points))) (ne_eqb p.offset q.offset (λ same. omega (arith, same, first-earlier p points n q a e)))
    ∙ ap (option_map suc) (number-from points n q (rest-ascending p points a) e)
