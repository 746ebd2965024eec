-- What holds of the objects that use a counter.
use Rattle.std.proofs.Common.{◌≡◌, ℕ, zero, suc, ◌≤◌, ◌+◌, Bool, true, false, cond, All, Option, Some, None, filter, List, [], ◌∷◌, ◌++◌, length, replicate, map, sum_by, get_or, refl, ap, sym, ◌∙◌, arith, length-append}
use Rattle.std.specs.{List.list_all, List.slice_set, Option.option_map_or}
use Rattle.std.proofs.{lemmas.Bool.and_from, lemmas.Bool.false_from_ne_true, lemmas.Bool.false≢true, lemmas.List.Elements.All-weaker, lemmas.List.Elements.filter-append, lemmas.List.Elements.filter_passes, lemmas.List.append-nil, lemmas.List.Sums.sum_by-le-sum_by}
use Rattle.osbase.specs.{declared.references.CoreId.CoreId, declared.references.CounterRef.CounterRef, Counting.same_counter, Sets.numbers_from}
use Rattle.osbase.specs.Families.{Family, counter_at, goes_by, refs_of, those_by}
use Rattle.osbase.proofs.{Places.CounterPlace, Same.same_counter-refl, Same.same_counter-true, Tables.table-at, Tables.table-set}
use Rattle.osattached.specs.Attached.{IsMember, firsts_by}
use Rattle.osattached.proofs.{Ranges.repeated, Ranges.table-more, Sums.at-most-once, Sums.sum-across, Sums.sum-kept}

-- ---- one object

-- an object that uses a counter exists, and refers to the counter
pub record Stands {R X : Type 0} (f : Family R X) (c : CounterRef) (r : R) : Type 0 where
  pub value : X
  pub is : f.own r ≡ Some value
  pub by : c ≡ f.counter value

pub stands : {R X : Type 0} (f : Family R X) (c : CounterRef) (r : R) → goes_by f c r ≡ true → Stands f c r
stands {R} {X} f c r on = at (f.own r) refl on
  where
    at : (o : Option X) → f.own r ≡ o → option_map_or (λ (x : X). same_counter c (f.counter x)) o false ≡ true → Stands f c r
    at None is on = absurd (false≢true on)
    at (Some x) is on = record { value = x; is = is; by = same_counter-true c (f.counter x) on }

-- an object uses no two counters
pub goes-once : {R X : Type 0} (f : Family R X) (core : CoreId) (m n : ℕ) (r : R) → goes_by f (counter_at core m) r ≡ true → goes_by f (counter_at core n) r ≡ true → m ≡ n
goes-once {R} {X} f core m n r one other =
    ap (λ (c : CounterRef). c.index) ((stands f (counter_at core m) r one).by ∙ same ∙ sym (stands f (counter_at core n) r other).by)
  where
    same : f.counter (stands f (counter_at core m) r one).value ≡ f.counter (stands f (counter_at core n) r other).value
    same = ap (λ (o : Option X). option_map_or f.counter o (counter_at core m)) (sym (stands f (counter_at core m) r one).is ∙ (stands f (counter_at core n) r other).is)

-- ---- all of them

-- what holds of each element that passes `q` holds of each element that the filter keeps
pub kept-all : {A : Type 0} (q : A → Bool) (P : A → Type 0) (xs : List A) → ((x : A) → q x ≡ true → P x) → All P (filter q xs)
kept-all q P xs each = All-weaker (λ x. q x ≡ true) P each (filter q xs) (filter_passes q xs)

-- if `f` and `g` agree on all that passes `q`, they keep the same of it
pub kept-same : {A : Type 0} (q f g : A → Bool) (xs : List A) → ((x : A) → q x ≡ true → f x ≡ g x) → filter f (filter q xs) ≡ filter g (filter q xs)
kept-same q f g [] same = refl
kept-same q f g (x ∷ xs) same = by (q x) refl (kept-same q f g xs same)
  where
    by : (b : Bool) → q x ≡ b → filter f (filter q xs) ≡ filter g (filter q xs) → filter f (cond b (x ∷ filter q xs) (filter q xs)) ≡ filter g (cond b (x ∷ filter q xs) (filter q xs))
    by false e rest = rest
    by true e rest = ap (λ b. cond b (x ∷ filter f (filter q xs)) (filter f (filter q xs))) (same x e) ∙ ap (λ ys. cond (g x) (x ∷ ys) ys) rest

-- if each element that passes `q` passes `t`, so does each element that is kept
pub kept-passes : {A : Type 0} (q t : A → Bool) (xs : List A) → ((x : A) → q x ≡ true → t x ≡ true) → list_all t (filter q xs) ≡ true
kept-passes q t [] each = refl
kept-passes q t (x ∷ xs) each = by (q x) refl (kept-passes q t xs each)
  where
    by : (b : Bool) → q x ≡ b → list_all t (filter q xs) ≡ true → list_all t (cond b (x ∷ filter q xs) (filter q xs)) ≡ true
    by false e rest = rest
    by true e rest = and_from (t x) (list_all t (filter q xs)) (each x e) rest

-- ---- the lists of objects, object by object

module _ {R : Type 0} (core : CoreId) (counters : ℕ) (goes : CounterRef → R → Bool) (ref : ℕ → R) where
  abbrev firsts : ℕ → List (List R)
  firsts n = firsts_by core counters goes ref n

  pub firsts-none : (count : ℕ) → count ≡ counters → replicate count [] ≡ firsts 0
  firsts-none count is = ap (λ n. replicate n []) is ∙ repeated [] (λ (k : ℕ). filter (goes (counter_at core k)) []) 0 counters (λ k. refl)

  kept-more : (c : CounterRef) (n : ℕ) (b : Bool) → goes c (ref n) ≡ b → filter (goes c) (map ref (numbers_from 0 (n + 1))) ≡ filter (goes c) (map ref (numbers_from 0 n)) ++ cond b (ref n ∷ []) []
  kept-more c n b is =
      ap (filter (goes c)) (table-more ref n)
      ∙ filter-append (goes c) (map ref (numbers_from 0 n)) (ref n ∷ [])
      ∙ ap (λ d. filter (goes c) (map ref (numbers_from 0 n)) ++ cond d (ref n ∷ []) []) is

  -- the next object, which uses a counter of the core
  pub firsts-more : (n : ℕ) (counter : CounterRef) (r : R) → IsMember core goes ref n counter r → CounterPlace core counters counter → slice_set (firsts n) counter.index (get_or (firsts n) counter.index [] ++ r ∷ []) ≡ firsts (n + 1)
  firsts-more n counter r next place =
      ap (λ (l : List R). slice_set (firsts n) counter.index (l ++ r ∷ [])) (table-at list 0 counters counter.index counter.index [] (omega arith) place.inside)
      ∙ ap (λ (x : R). slice_set (firsts n) counter.index (list counter.index ++ x ∷ [])) next.here
      ∙ ap (slice_set (firsts n) counter.index) (sym (kept-more (counter_at core counter.index) n true (next.by (counter_at core counter.index) ∙ ap (λ (c : CounterRef). same_counter c counter) (sym place.ref) ∙ same_counter-refl counter)))
      ∙ table-set list (λ (k : ℕ). filter (goes (counter_at core k)) (map ref (numbers_from 0 (n + 1)))) 0 counters counter.index counter.index (omega arith) place.inside others
    where
      list : ℕ → List R
      list k = filter (goes (counter_at core k)) (map ref (numbers_from 0 n))

      others : (m : ℕ) → (m ≡ counter.index → ⊥) → list m ≡ filter (goes (counter_at core m)) (map ref (numbers_from 0 (n + 1)))
      others m other =
          sym (append-nil (list m))
          ∙ sym (kept-more (counter_at core m) n false (next.by (counter_at core m) ∙ false_from_ne_true (same_counter (counter_at core m) counter) (λ e. other (ap (λ (c : CounterRef). c.index) (same_counter-true (counter_at core m) counter e)))))

-- no list has more entries than there are objects
pub few-more : {R : Type 0} (lists : List (List R)) (i n : ℕ) (r : R) → ((k : ℕ) → length (get_or lists k []) ≤ n) → (k : ℕ) → length (get_or (slice_set lists i (get_or lists i [] ++ r ∷ [])) k []) ≤ n + 1
few-more {R} lists i n r few k = at lists i k (get_or lists i [] ++ r ∷ []) (omega (arith, length-append (get_or lists i []) (r ∷ []), few i)) few
  where
    at : (xs : List (List R)) (i k : ℕ) (v : List R) → length v ≤ n + 1 → ((j : ℕ) → length (get_or xs j []) ≤ n) → length (get_or (slice_set xs i v) k []) ≤ n + 1
    at [] i k v h all = omega (arith, all k)
    at (x ∷ xs) zero zero v h all = h
    at (x ∷ xs) zero (suc k) v h all = omega (arith, all (suc k))
    at (x ∷ xs) (suc i) zero v h all = omega (arith, all zero)
    at (x ∷ xs) (suc i) (suc k) v h all = at xs i k v h (λ j. all (suc j))

pub none-few : (R : Type 0) (count k : ℕ) → length (get_or (replicate {A = List R} count []) k []) ≤ 0
none-few R zero k = omega arith
none-few R (suc count) zero = omega arith
none-few R (suc count) (suc k) = none-few R count k

module _ {R X : Type 0} (core : CoreId) (f : Family R X) where
  -- the objects of a counter of the core
  pub list-at : (counters : ℕ) (c : CounterRef) → CounterPlace core counters c → get_or (firsts_by core counters (goes_by f) f.ref f.count) c.index [] ≡ those_by f c
  list-at counters c place =
      table-at (λ (n : ℕ). those_by f (counter_at core n)) 0 counters c.index c.index [] (omega arith) place.inside
      ∙ ap (those_by f) (sym place.ref)

  -- ---- each object uses at most one counter, so the sum over all counters is at most the sum over all objects

  pub portions : (g : R → ℕ) (count : ℕ) → sum_by (λ (n : ℕ). sum_by g (those_by f (counter_at core n))) (numbers_from 0 count) ≤ sum_by g (refs_of f)
  portions g count =
      omega (
        arith,
        sum_by-le-sum_by (λ (n : ℕ). sum_by g (those_by f (counter_at core n))) (λ (n : ℕ). sum_by (λ (r : R). cond (goes_by f (counter_at core n) r) (g r) 0) (refs_of f)) (numbers_from 0 count) (λ n. omega (arith, sum-kept (goes_by f (counter_at core n)) g (refs_of f))),
        sum-across (λ (n : ℕ) (r : R). cond (goes_by f (counter_at core n) r) (g r) 0) (numbers_from 0 count) (refs_of f),
        sum_by-le-sum_by (λ (r : R). sum_by (λ (n : ℕ). cond (goes_by f (counter_at core n) r) (g r) 0) (numbers_from 0 count)) g (refs_of f) (λ r. at-most-once (λ (n : ℕ). goes_by f (counter_at core n) r) (g r) 0 count (λ m n. goes-once f core m n r)),
      )
