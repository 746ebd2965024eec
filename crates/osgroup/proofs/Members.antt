-- A group, core by core.
use Rattle.std.proofs.Common.{◌≡◌, ℕ, ◌<◌, Bool, true, not, ◌&&◌, ◌||◌, Some, is_some, slice_get, arith}
use Rattle.std.proofs.lemmas.Bool.{and_parts, and_from, ltb-true}
use Rattle.osbase.specs.{declared.references.CoreId.CoreId, declared.references.SpinlockId.SpinlockId, declared.items.CoreSet.CoreSet, Sets.core_ids, Sets.has_core}
use Rattle.osbase.proofs.Places.{passes-at}
use Rattle.osplan.specs.{declared.plans.Plan.Plan, declared.plans.Core.Core, View.core_of}
use Rattle.osgroup.specs.Groups.{has_say, is_apart, is_group, names_spinlock}
use Rattle.osgroup.proofs.Among.{all-at, all-numbers, number-at}

-- No set has a core numbered 16 or above.
pub core-low : (cores : CoreSet) (id : CoreId) → has_core cores id ≡ true → id.number < 16
core-low cores id inside = ltb-true id.number 16 (and_parts _ _ inside).0

-- The group's cores are configured, and a core that has a say in what one of them does is in the group.
pub record GroupParts (plan : Plan) (group : CoreSet) : Type 0 where
  pub configured : (id : CoreId) → has_core group id ≡ true → is_some (core_of plan id) ≡ true
  pub closed : (core other : Core) (i j : ℕ) → slice_get plan.cores i ≡ Some core → slice_get plan.cores j ≡ Some other
      → has_core group core.id ≡ true → has_say plan other core ≡ true → has_core group other.id ≡ true

abbrev pub id_of : ℕ → CoreId
id_of n = record { number = n }

-- the tests of a set's cores, and of two cores' spinlocks, number by number
abbrev pub is_known : Plan → CoreSet → CoreId → Bool
is_known plan cores k = not (has_core cores k) || is_some (core_of plan k)

abbrev pub lock_of : ℕ → SpinlockId
lock_of n = record { index = n }

abbrev pub both_name : Core → Core → SpinlockId → Bool
both_name a b l = names_spinlock a l && names_spinlock b l

implied : (a b : Bool) → (a ≡ true → b ≡ true) → (not a || b) ≡ true
implied a b f = grind (arith, f)

implied-first : (a b : Bool) → (b ≡ true → a ≡ true) → (a || not b) ≡ true
implied-first a b f = grind (arith, f)

second : (a b : Bool) → a ≡ true → (not a || b) ≡ true → b ≡ true
second a b e h = grind arith

first : (a b : Bool) → b ≡ true → (a || not b) ≡ true → a ≡ true
first a b e h = grind arith

pub group-parts : (plan : Plan) (group : CoreSet) → is_group plan group ≡ true → GroupParts plan group
group-parts plan group is =
    let both = and_parts _ _ is in
    record {
      configured = λ id inside. second _ _ inside (passes-at (is_known plan group) core_ids id.number id both.0 (number-at id_of 16 id.number (core-low group id inside)));
      closed = λ core other i j here there inside says.
          let apart = second _ (is_apart plan group core) inside (passes-at _ plan.cores i core both.1 here) in
          first _ _ says (passes-at _ plan.cores j other apart there);
    }

pub group-from : (plan : Plan) (group : CoreSet) → GroupParts plan group → is_group plan group ≡ true
group-from plan group parts =
    and_from _ _
    (all-numbers id_of (is_known plan group) 0 16 (λ n lt. implied _ _ (parts.configured (id_of n))))
    (all-at _ plan.cores (λ i core here. implied _ _ (λ inside. all-at _ plan.cores (λ j other there. implied-first _ _ (parts.closed core other i j here there inside)))))
