-- The objects of a core that use each of its counters, and what a count changes of these objects.
use Rattle.std.specs.Prelude.{◌≡◌, ◌<◌, ◌≤◌, ℕ, Bool, if◌then◌else◌, List, [], ◌∷◌, filter, length, map, slice_index_or}
use Rattle.std.specs.List.{slice_set}
use Rattle.osbase.specs.{declared.limits.TheConstants.COUNTERS, declared.references.CoreId.CoreId, declared.references.CounterRef.CounterRef, Counting.same_counter, Families.Family, Families.counter_at, Families.goes_by, Sets.numbers_from}

-- For each counter of a core with `counters` counters: the references of those of the first `count` objects that use
-- the counter, as `goes` tests.
abbrev pub firsts_by : {R : Type 0} → CoreId → ℕ → (CounterRef → R → Bool) → (ℕ → R) → ℕ → List (List R)
firsts_by core counters goes ref count = map (λ (n : ℕ). filter (goes (counter_at core n)) (map ref (numbers_from 0 count))) (numbers_from 0 counters)

-- `r` is the reference of object `n`, and the object uses this counter of the core and no other.
pub record IsMember {R : Type 0} (core : CoreId) (goes : CounterRef → R → Bool) (ref : ℕ → R) (n : ℕ) (counter : CounterRef) (r : R) : Type 0 where
  pub here : r ≡ ref n
  pub on : counter ≡ counter_at core counter.index
  pub by : (c : CounterRef) → goes c (ref n) ≡ same_counter c counter

-- A core has at most COUNTERS counters, and at most `most` objects of one kind.
pub record AreFew (most counter_count object_count : ℕ) : Type 0 where
  pub counters : counter_count ≤ COUNTERS
  pub objects : object_count ≤ most

-- One more object can use this counter: the core has the counter, and fewer than `most` objects use it.
pub record HasRoom {R : Type 0} (most : ℕ) (lists : List (List R)) (counter : CounterRef) : Type 0 where
  pub known : counter.index < length lists
  pub room : length (slice_index_or lists counter.index []) < most

-- What is kept for object `n` after a count of this counter: `change` of what was kept if the object uses the counter,
-- else the same.
abbrev pub changed_by : {R X A : Type 0} → Family R X → CounterRef → (R → A → A) → ℕ → A → A
changed_by f c change n a = if goes_by f c (f.ref n) then change (f.ref n) a else a

-- What is kept for each object, by index, after a count of this counter. `none` stands for what the list `xs` lacks.
abbrev pub all_changed : {R X A : Type 0} → Family R X → CounterRef → (R → A → A) → A → List A → List A
all_changed f c change none xs = map (λ (n : ℕ). changed_by f c change n (slice_index_or xs n none)) (numbers_from 0 f.count)

-- The list after these objects are changed one after another, as the code changes those of a counter.
abbrev pub each_changed : {R A : Type 0} → (R → ℕ) → (R → A → A) → A → List R → List A → List A
each_changed index change none [] xs = xs
each_changed index change none (r ∷ others) xs = each_changed index change none others (slice_set xs (index r) (change r (slice_index_or xs (index r) none)))
