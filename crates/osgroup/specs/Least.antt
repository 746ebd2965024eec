-- The least group of a core as the code finds it: a row for each core, of the cores that have a say in what it does.
use Rattle.std.specs.Prelude.{◌≡◌, ◌<◌, ◌&&◌, ◌||◌, Bool, false, true, IsTrue, List, slice_get}
use Rattle.std.specs.{List.list_any, Option.option_map_or}
use Rattle.osbase.specs.{declared.limits.TheConstants.CORES, declared.references.CoreId.CoreId, declared.items.CoreSet.CoreSet, History.same_core, Sets.has_core}
use Rattle.osplan.specs.{declared.plans.Plan.Plan, declared.plans.Core.Core}
use Rattle.osgroup.specs.Groups.{has_say, is_group}

-- Each group that has the core has all cores of the set.
abbrev pub IsLeast : Plan → CoreId → CoreSet → Type 0
IsLeast plan core cores =
    (group : CoreSet) → IsTrue (is_group plan group) → has_core group core ≡ true → (id : CoreId) → has_core cores id ≡ true → has_core group id ≡ true

-- The core `id` has a say in what `core` does.
abbrev pub has_say_in : Plan → Core → CoreId → Bool
has_say_in plan core id = list_any (λ (other : Core). same_core other.id id && has_say plan other core) plan.cores

-- The core `id` has a say in what the core `at` does.
abbrev pub has_say_at : Plan → CoreId → CoreId → Bool
has_say_at plan at id = list_any (λ (core : Core). same_core core.id at && has_say_in plan core id) plan.cores

-- The core `id` is in the row of the core `at`.
abbrev pub is_in_row : List CoreSet → CoreId → CoreId → Bool
is_in_row rows at id = option_map_or (λ (row : CoreSet). has_core row id) (slice_get rows at.number) false

-- The row has just the cores that have a say in what the core `at` does.
abbrev pub IsRow : Plan → CoreId → CoreSet → Type 0
IsRow plan at row = (id : CoreId) → id.number < CORES → has_core row id ≡ has_say_at plan at id

-- The row of each core has just the cores that have a say in what that core does.
abbrev pub AreRows : Plan → List CoreSet → Type 0
AreRows plan rows = (at id : CoreId) → at.number < CORES → id.number < CORES → is_in_row rows at id ≡ has_say_at plan at id

-- The core `id` is in the row of a core of the set `cores`.
abbrev pub is_in_one_row : List Core → List CoreSet → CoreSet → CoreId → Bool
is_in_one_row all rows cores id = list_any (λ (core : Core). has_core cores core.id && is_in_row rows core.id id) all

-- The core `id` is in the set `cores`, or in the row of a core of the set.
abbrev pub is_next : List Core → List CoreSet → CoreSet → CoreId → Bool
is_next all rows cores id = has_core cores id || is_in_one_row all rows cores id
