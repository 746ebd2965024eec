-- Which cores are in a set after a core joined it.
use Rattle.std.proofs.Common.{◌≡◌, ◌⊎◌, ◌<◌, true, false, replicate, set, inl, inr, ◌∙◌, arith, get_or-set_other}
use Rattle.osbase.specs.{declared.references.CoreId.CoreId, declared.items.CoreSet.CoreSet, History.no_cores, Sets.has_core}
use Rattle.osbase.proofs.Same.{same_core-refl, same_core-true}
use Rattle.osbase.proofs.Sets.{flag-read, has_core-flag, no-flag, one-flag}
use Rattle.osboard.specs.Boards.{with_core}

-- A core of the set is the one that joined, or was there before.
pub has_core-more : (k j : CoreId) (cores : CoreSet) → has_core (with_core k cores) j ≡ true → (j ≡ k) ⊎ (has_core cores j ≡ true)
has_core-more k j cores h =
    grind (arith, same_core-true j k, flag-read cores.members j.number, flag-read (set cores.members k.number true) j.number, get_or-set_other cores.members k.number j.number true false)

-- No core is in the empty set, and in the set of one core there is only that core.
pub nobody-there : (j : CoreId) → has_core no_cores j ≡ true → ⊥
nobody-there j h = grind (arith, h, flag-read (replicate 16 false) j.number, no-flag 16 j.number)

pub only-one : (k j : CoreId) → has_core (with_core k no_cores) j ≡ true → j ≡ k
only-one k j h = elim (has_core-more k j no_cores h) as (λ _. j ≡ k) [
  | inl same ↦ same
  | inr other ↦ absurd (nobody-there j other)
]

-- The set of one core has it.
pub only-own : (id : CoreId) → id.number < 16 → has_core (with_core id no_cores) id ≡ true
only-own id low = has_core-flag (with_core id no_cores) id low ∙ one-flag 16 id.number id.number low ∙ same_core-refl id
