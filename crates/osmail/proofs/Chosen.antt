-- Any choice of the core numbers gives cores for which rings can be made. The crates above need this.
use Rattle.std.proofs.Common.{◌<◌, ◌≤◌, ◌+◌, ℕ, zero, suc, Bool, true, false, cond, List, ◌∷◌, map, filter, arith}
use Rattle.std.specs.List.{AllByRecursion}
use Rattle.osbase.specs.{Sets.core_ids, Sets.numbers_from, declared.limits.TheConstants.CORES, declared.references.CoreId.CoreId}
use Rattle.osmail.specs.Rings.{AreApart, AreCores, IsApart, IsInRange}
use Rattle.osmail.proofs.Through.{all-map}

abbrev core_of_number : ℕ → CoreId
core_of_number n = record { number = n }

-- the cores that are chosen, of `count` numbers from `first` on
abbrev some_from : (CoreId → Bool) → ℕ → ℕ → List CoreId
some_from p first count = filter p (map core_of_number (numbers_from first count))

abbrev IsFrom : ℕ → ℕ → CoreId → Type 0
IsFrom first count c = (first ≤ c.number) × (c.number < first + count)

-- one number before them, if it is chosen
some-more : (first count : ℕ) (b : Bool) (rest : List CoreId) → AllByRecursion (IsFrom (first + 1) count) rest × AreApart rest → AllByRecursion (IsFrom first (suc count)) (cond b (core_of_number first ∷ rest) rest) × AreApart (cond b (core_of_number first ∷ rest) rest)
some-more first count b rest h = by b
  where
    wider : AllByRecursion (IsFrom first (suc count)) rest
    wider = all-map (IsFrom (first + 1) count) (IsFrom first (suc count)) rest (λ c from. (omega (arith, from.0), omega (arith, from.1))) h.0

    later : AllByRecursion (IsApart (core_of_number first)) rest
    later = all-map (IsFrom (first + 1) count) (IsApart (core_of_number first)) rest (λ c from same. omega (arith, from.0, same)) h.0

    by : (b : Bool) → AllByRecursion (IsFrom first (suc count)) (cond b (core_of_number first ∷ rest) rest) × AreApart (cond b (core_of_number first ∷ rest) rest)
    by true = (((omega arith, omega arith), wider), (later, h.1))
    by false = (wider, h.1)

some-apart : (p : CoreId → Bool) (first count : ℕ) → AllByRecursion (IsFrom first count) (some_from p first count) × AreApart (some_from p first count)
some-apart p first zero = (tt, tt)
some-apart p first (suc count) = some-more first count (p (core_of_number first)) (some_from p (first + 1) count) (some-apart p (first + 1) count)

pub chosen_cores : (p : CoreId → Bool) → AreCores (filter p core_ids)
chosen_cores p =
    let some = some-apart p 0 CORES in
    (all-map (IsFrom 0 CORES) IsInRange (filter p core_ids) (λ c h. omega (arith, h.1)) some.0, some.1)
