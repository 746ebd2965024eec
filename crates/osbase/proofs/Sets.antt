-- The flags of a set of cores.
use Rattle.std.proofs.Common.{◌≡◌, ℕ, zero, suc, ◌<◌, Bool, true, false, ◌&&◌, nat_eq, List, [], ◌∷◌, length, get_or, set, replicate, slice_get, inl, inr, refl, ap, ◌∙◌, get_or-set_same, get_or-set_other}
use Rattle.std.specs.{Option.option_map_or}
use Rattle.std.proofs.lemmas.Bool.{lt-ltb, eq-eqb, ne_eqb, cases_eq}
use Rattle.std.proofs.{lemmas.List.length-replicate}
use Rattle.osbase.specs.{declared.references.CoreId.CoreId, declared.items.CoreSet.CoreSet, Sets.has_core}

pub flag-read : (members : List Bool) (n : ℕ) → option_map_or (λ (b : Bool). b) (slice_get members n) false ≡ get_or members n false
flag-read [] zero = refl
flag-read [] (suc n) = refl
flag-read (b ∷ bs) zero = refl
flag-read (b ∷ bs) (suc n) = flag-read bs n

-- A core number's flag says whether the core is in the set.
pub has_core-flag : (cores : CoreSet) (id : CoreId) → id.number < 16 → has_core cores id ≡ get_or cores.members id.number false
has_core-flag cores id lt = ap (λ b. b && option_map_or (λ (f : Bool). f) (slice_get cores.members id.number) false) (lt-ltb id.number 16 lt) ∙ flag-read cores.members id.number

-- The empty set has no flag set, and a set with only the flag of `m` has no other flag set.
pub no-flag : (n k : ℕ) → get_or (replicate n false) k false ≡ false
no-flag zero k = refl
no-flag (suc n) zero = refl
no-flag (suc n) (suc k) = no-flag n k

pub one-flag : (n m k : ℕ) → m < n → get_or (set (replicate n false) m true) k false ≡ nat_eq k m
one-flag n m k lt =
    elim (cases_eq k m) as (λ _. get_or (set (replicate n false) m true) k false ≡ nat_eq k m) [
      | inl same ↦ let inside : m < length (replicate n false) = rw (length-replicate n false) lt in rw (same, eq-eqb m m refl) (get_or-set_same (replicate n false) m true false inside)
      | inr other ↦ rw (ne_eqb k m other) (get_or-set_other (replicate n false) m k true false other ∙ no-flag n k)
    ]
