-- Sets of cores that are made of others.
use Rattle.std.specs.Prelude.{◌≡◌, ◌&&◌, ◌||◌, is_some}
use Rattle.osbase.specs.{declared.references.CoreId.CoreId, declared.items.CoreSet.CoreSet, History.same_core, Sets.has_core}
use Rattle.osplan.specs.{declared.plans.Plan.Plan, View.core_of}

-- All configured cores are in the set, and no others.
abbrev pub HasAll : Plan → CoreSet → Type 0
HasAll plan cores = (id : CoreId) → has_core cores id ≡ is_some (core_of plan id)

-- This core is in the set, and no other.
abbrev pub HasOne : CoreId → CoreSet → Type 0
HasOne core cores = (id : CoreId) → has_core cores id ≡ same_core id core

-- The third set has the cores that are in one of the other two, or in both.
abbrev pub IsUnion : CoreSet → CoreSet → CoreSet → Type 0
IsUnion one other cores = (id : CoreId) → has_core cores id ≡ (has_core one id || has_core other id)

-- The third set has the cores that are in both of the other two.
abbrev pub IsIntersection : CoreSet → CoreSet → CoreSet → Type 0
IsIntersection one other cores = (id : CoreId) → has_core cores id ≡ (has_core one id && has_core other id)
