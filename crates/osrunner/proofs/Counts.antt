-- How often resources are held, and what their flags say.
use Rattle.std.proofs.Common.{◌≡◌, ◌||◌, ℕ, zero, suc, ◌+◌, ◌≤◌, ◌<◌, nat_eq, Bool, true, false, cond, Some, List, [], ◌∷◌, length, map, drop, refl, ap, sym, subst, ◌∙◌, arith, get_or-set_same, get_or-set_other}
use Rattle.std.specs.List.{slice_get, slice_index_or, slice_set}
use Rattle.std.proofs.{lemmas.Bool.false≢true, lemmas.Bool.eqb-true, lemmas.Bool.eq-eqb, lemmas.List.length-map, lemmas.List.length-set}
use Rattle.osbase.specs.{declared.histories.HeldResource.HeldResource, History.is_held, declared.limits.TheConstants.RESOURCES, declared.limits.TheConstants.RUNNERS}
use Rattle.osbase.proofs.Few.{few, number_count}
use Rattle.oscript.specs.Runners.{Row, holding}
use Rattle.osrunner.specs.Rows.{IsFlagged, flag_count, held_count, is_occupied, row_at, total_count}

same-itself : (n : ℕ) → nat_eq n n ≡ true
same-itself n = eq-eqb n n refl

-- ---- a resource is held exactly if its count is not zero

abbrev is_some_of : ℕ → Bool
is_some_of zero = false
is_some_of (suc n) = true

held-counted : (n : ℕ) (held : List HeldResource) → is_held n held ≡ is_some_of (held_count n held)
held-counted n [] = refl
held-counted n (x ∷ held) = by (nat_eq x.index n) (held-counted n held)
  where
    by : (b : Bool) → is_held n held ≡ is_some_of (held_count n held) → (b || is_held n held) ≡ is_some_of (cond b (suc (held_count n held)) (held_count n held))
    by true rest = refl
    by false rest = rest

some-of : (a b : ℕ) → (is_some_of a || is_some_of b) ≡ is_some_of (a + b)
some-of zero b = let same : b ≡ 0 + b = omega arith in ap is_some_of same
some-of (suc a) b = let more : suc (a + b) ≡ suc a + b = omega arith in ap is_some_of more

occupied-counted : (n : ℕ) (all : List Row) → is_occupied n all ≡ is_some_of (total_count n all)
occupied-counted n [] = refl
occupied-counted n (row ∷ all) =
    ap (λ (b : Bool). b || is_occupied n all) (held-counted n row.held)
    ∙ ap (λ (b : Bool). is_some_of (held_count n row.held) || b) (occupied-counted n all)
    ∙ some-of (held_count n row.held) (total_count n all)

pub flagged : (all : List Row) (occupied : List Bool) (n : ℕ) → IsFlagged all occupied → is_occupied n all ≡ slice_index_or occupied n false
flagged all occupied n is = occupied-counted n all ∙ ap (is_some_of) (is.once n) ∙ one (slice_index_or occupied n false)
  where
    one : (b : Bool) → is_some_of (flag_count b) ≡ b
    one true = refl
    one false = refl

-- ---- what one runner holds

held_at-within : (n t : ℕ) (all : List Row) → held_count n (row_at t all).held ≤ total_count n all
held_at-within n t [] = omega arith
held_at-within n zero (row ∷ all) = omega arith
held_at-within n (suc t) (row ∷ all) = omega (arith, held_at-within n t all)

total-set : (n t : ℕ) (all : List Row) (new : Row) → t < length all → total_count n (slice_set all t new) + held_count n (row_at t all).held ≡ total_count n all + held_count n new.held
total-set n t [] new h = absurd (omega (arith, h))
total-set n zero (row ∷ all) new h = omega arith
total-set n (suc t) (row ∷ all) new h = omega (arith, total-set n t all new (omega (arith, h)))

total-kept : (n t : ℕ) (all : List Row) (new : Row) → new.held ≡ (row_at t all).held → total_count n (slice_set all t new) ≡ total_count n all
total-kept n t [] new same = refl
total-kept n zero (row ∷ all) new same = ap (λ held. held_count n held + total_count n all) same
total-kept n (suc t) (row ∷ all) new same = ap (λ count. held_count n row.held + count) (total-kept n t all new same)

-- A row that holds what it held changes no flag.
pub kept : (all : List Row) (occupied : List Bool) (t : ℕ) (new : Row) → IsFlagged all occupied → new.held ≡ (row_at t all).held → IsFlagged (slice_set all t new) occupied
kept all occupied t new is same = record {
  runners = length-set all t new ∙ is.runners;
  once = λ n. total-kept n t all new same ∙ is.once n;
}

-- ---- each resource is held at most once, so no job holds more than RESOURCES of them

not-past : (i k : ℕ) → (k ≤ i → ⊥) → i < k
not-past i k out = omega (arith, out)

first-counts : (x : HeldResource) (held : List HeldResource) → held_count x.index (x ∷ held) ≡ suc (held_count x.index held)
first-counts x held = rw (same-itself x.index) refl

abbrev numbers : List HeldResource → List ℕ
numbers held = map (λ (x : HeldResource). x.index) held

as-often : (n : ℕ) (held : List HeldResource) → number_count n (numbers held) ≡ held_count n held
as-often n [] = refl
as-often n (x ∷ held) = ap (λ (k : ℕ). cond (nat_eq x.index n) (suc k) k) (as-often n held)

few-held : (held : List HeldResource) → ((n : ℕ) → RESOURCES ≤ n → held_count n held ≡ 0) → ((n : ℕ) → held_count n held ≤ 1) → length held ≤ RESOURCES
few-held held none once =
    omega (arith, length-map held (λ (x : HeldResource). x.index), few RESOURCES (numbers held) (λ n past. as-often n held ∙ none n past) (λ n. omega (arith, as-often n held, once n)))

flag-few : (b : Bool) → flag_count b ≤ 1
flag-few true = omega arith
flag-few false = omega arith

past : (flags : List Bool) (n : ℕ) → length flags ≤ n → slice_index_or flags n false ≡ false
past [] n h = refl
past (flag ∷ flags) zero h = absurd (omega (arith, h))
past (flag ∷ flags) (suc n) h = past flags n (omega (arith, h))

-- The row of a job that gives its newest resource back.
abbrev pub lowered : Row → Row
lowered row = record row { held = drop 1 row.held }

-- If a resource is free, the list of what a job holds has room for it.
pub room : (all : List Row) (occupied : List Bool) (t : ℕ) (x : HeldResource) → IsFlagged all occupied → length occupied ≡ RESOURCES → x.index < RESOURCES → is_occupied x.index all ≡ false → length (row_at t all).held < RESOURCES
room all occupied t x is flags known free = omega (arith, few-held (x ∷ (row_at t all).held) none once)
  where
    count : (b : Bool) (n : ℕ) → nat_eq x.index n ≡ b → held_count n (x ∷ (row_at t all).held) ≤ flag_count (slice_index_or (slice_set occupied x.index true) n false)
    count true n e =
        let same : x.index ≡ n = eqb-true x.index n e in
        let none : total_count x.index all ≡ 0 = is.once x.index ∙ ap flag_count (sym (flagged all occupied x.index is) ∙ free) in
        let set : slice_index_or (slice_set occupied x.index true) x.index false ≡ true = get_or-set_same occupied x.index true false (omega (arith, flags, known)) in
        subst (λ (m : ℕ). held_count m (x ∷ (row_at t all).held) ≤ flag_count (slice_index_or (slice_set occupied x.index true) m false)) same
        (rw set (omega (arith, first-counts x (row_at t all).held, held_at-within x.index t all, none)))
    count false n e =
        let other : slice_index_or (slice_set occupied x.index true) n false ≡ slice_index_or occupied n false = get_or-set_other occupied x.index n true false (λ same. false≢true (sym e ∙ ap (nat_eq x.index) same ∙ same-itself x.index)) in
        rw (other, e) (omega (arith, held_at-within n t all, is.once n))

    once : (n : ℕ) → held_count n (x ∷ (row_at t all).held) ≤ 1
    once n = omega (arith, count (nat_eq x.index n) n refl, flag-few (slice_index_or (slice_set occupied x.index true) n false))

    none : (n : ℕ) → RESOURCES ≤ n → held_count n (x ∷ (row_at t all).held) ≡ 0
    none n h =
        let out : slice_index_or (slice_set occupied x.index true) n false ≡ false = past (slice_set occupied x.index true) n (omega (arith, length-set occupied x.index true, flags, h)) in
        let few : held_count n (x ∷ (row_at t all).held) ≤ flag_count false = subst (λ (b : Bool). held_count n (x ∷ (row_at t all).held) ≤ flag_count b) out (count (nat_eq x.index n) n refl) in
        omega (arith, few)

-- ---- a resource taken, and one given back

set-flag : (occupied : List Bool) (i n : ℕ) (flag : Bool) → i < length occupied → slice_index_or (slice_set occupied i flag) n false ≡ cond (nat_eq i n) flag (slice_index_or occupied n false)
set-flag occupied i n flag h = by (nat_eq i n) refl
  where
    by : (b : Bool) → nat_eq i n ≡ b → slice_index_or (slice_set occupied i flag) n false ≡ cond b flag (slice_index_or occupied n false)
    by true e = subst (λ (m : ℕ). slice_index_or (slice_set occupied i flag) m false ≡ flag) (eqb-true i n e) (get_or-set_same occupied i flag false h)
    by false e = get_or-set_other occupied i n flag false (λ same. false≢true (sym e ∙ ap (nat_eq i) same ∙ same-itself i))

flag-set : {c new : Bool} (flag old b : Bool) → new ≡ cond c flag old → c ≡ b → flag_count new ≡ flag_count (cond b flag old)
flag-set flag old b is e = ap flag_count is ∙ ap (λ (d : Bool). flag_count (cond d flag old)) e

pub taken : (all : List Row) (occupied : List Bool) (t : ℕ) (x : HeldResource) → IsFlagged all occupied → t < RUNNERS → x.index < length occupied → is_occupied x.index all ≡ false → IsFlagged (slice_set all t (holding x (row_at t all))) (slice_set occupied x.index true)
taken all occupied t x is known place free = record {
  runners = length-set all t (holding x (row_at t all)) ∙ is.runners;
  once = λ n. by (nat_eq x.index n) n refl;
}
  where
    by : (b : Bool) (n : ℕ) → nat_eq x.index n ≡ b → total_count n (slice_set all t (holding x (row_at t all))) ≡ flag_count (slice_index_or (slice_set occupied x.index true) n false)
    by true n e =
        let same : x.index ≡ n = eqb-true x.index n e in
        let none : total_count n all ≡ 0 = is.once n ∙ ap flag_count (sym (flagged all occupied n is) ∙ subst (λ (m : ℕ). is_occupied m all ≡ false) same free) in
        let here : held_count n (x ∷ (row_at t all).held) ≡ suc (held_count n (row_at t all).held) = rw e refl in
        let set : flag_count (slice_index_or (slice_set occupied x.index true) n false) ≡ 1 = flag-set true (slice_index_or occupied n false) true (set-flag occupied x.index n true place) e in
        omega (arith, total-set n t all (holding x (row_at t all)) (omega (arith, known, is.runners)), none, here, set)
    by false n e =
        let here : held_count n (x ∷ (row_at t all).held) ≡ held_count n (row_at t all).held = rw e refl in
        let set : flag_count (slice_index_or (slice_set occupied x.index true) n false) ≡ flag_count (slice_index_or occupied n false) = flag-set true (slice_index_or occupied n false) false (set-flag occupied x.index n true place) e in
        omega (arith, total-set n t all (holding x (row_at t all)) (omega (arith, known, is.runners)), here, set, is.once n)

newest : (n : ℕ) (held : List HeldResource) (x : HeldResource) → slice_get held 0 ≡ Some x → held_count n held ≡ cond (nat_eq x.index n) (suc (held_count n (drop 1 held))) (held_count n (drop 1 held))
newest n [] x e = cc
newest n (y ∷ held) x e = let same : y ≡ x = cc in ap (λ (z : HeldResource). held_count n (z ∷ held)) same

-- A held resource has a flag.
pub place-of : (all : List Row) (occupied : List Bool) (t : ℕ) (x : HeldResource) → IsFlagged all occupied → slice_get (row_at t all).held 0 ≡ Some x → x.index < length occupied
place-of all occupied t x is e = not-past x.index (length occupied) out
  where
    out : length occupied ≤ x.index → ⊥
    out h =
        let none : total_count x.index all ≡ 0 = is.once x.index ∙ ap flag_count (past occupied x.index h) in
        let here : held_count x.index (row_at t all).held ≡ suc (held_count x.index (drop 1 (row_at t all).held)) = newest x.index (row_at t all).held x e ∙ first-counts x (drop 1 (row_at t all).held) in
        omega (arith, held_at-within x.index t all, none, here)

-- A job that holds a resource has a row.
within : (t : ℕ) (all : List Row) (x : HeldResource) → slice_get (row_at t all).held 0 ≡ Some x → t < length all
within t [] x e = cc
within zero (row ∷ all) x e = omega arith
within (suc t) (row ∷ all) x e = omega (arith, within t all x e)

pub given : (all : List Row) (occupied : List Bool) (t : ℕ) (x : HeldResource) → IsFlagged all occupied → slice_get (row_at t all).held 0 ≡ Some x → IsFlagged (slice_set all t (lowered (row_at t all))) (slice_set occupied x.index false)
given all occupied t x is e = record {
  runners = length-set all t (lowered (row_at t all)) ∙ is.runners;
  once = λ n. by (nat_eq x.index n) n refl;
}
  where
    place : x.index < length occupied
    place = place-of all occupied t x is e

    by : (b : Bool) (n : ℕ) → nat_eq x.index n ≡ b → total_count n (slice_set all t (lowered (row_at t all))) ≡ flag_count (slice_index_or (slice_set occupied x.index false) n false)
    by true n q =
        let here : held_count n (row_at t all).held ≡ suc (held_count n (drop 1 (row_at t all).held)) = newest n (row_at t all).held x e ∙ ap (λ (b : Bool). cond b (suc (held_count n (drop 1 (row_at t all).held))) (held_count n (drop 1 (row_at t all).held))) q in
        let set : flag_count (slice_index_or (slice_set occupied x.index false) n false) ≡ 0 = flag-set false (slice_index_or occupied n false) true (set-flag occupied x.index n false place) q in
        omega (arith, total-set n t all (lowered (row_at t all)) (within t all x e), here, set, is.once n, flag-few (slice_index_or occupied n false))
    by false n q =
        let here : held_count n (row_at t all).held ≡ held_count n (drop 1 (row_at t all).held) = newest n (row_at t all).held x e ∙ ap (λ (b : Bool). cond b (suc (held_count n (drop 1 (row_at t all).held))) (held_count n (drop 1 (row_at t all).held))) q in
        let set : flag_count (slice_index_or (slice_set occupied x.index false) n false) ≡ flag_count (slice_index_or occupied n false) = flag-set false (slice_index_or occupied n false) false (set-flag occupied x.index n false place) q in
        omega (arith, total-set n t all (lowered (row_at t all)) (within t all x e), here, set, is.once n)
