-- The started cores as the code keeps them: a set with a flag for each core number.
use Rattle.std.specs.Prelude.{◌≡◌, ◌&&◌, ◌||◌, Bool, List, true, is_some}
use Rattle.std.specs.List.{list_any}
use Rattle.osbase.specs.{declared.references.CoreId.CoreId, declared.items.CoreSet.CoreSet, Sets.has_core}
use Rattle.osplan.specs.{declared.plans.Plan.Plan, declared.plans.Core.Core, View.core_of}
use Rattle.osseparate.specs.Separate.{is_among, is_started}

-- A core of the set names this one in its start list.
abbrev pub is_named_by_one_of : List Core → CoreSet → CoreId → Bool
is_named_by_one_of cores started id = list_any (λ (c : Core). has_core started c.id && is_among c.start id) cores

-- The core is in the set, or in the start list of a core of the set.
abbrev pub is_next : List Core → CoreSet → CoreId → Bool
is_next cores started id = has_core started id || is_named_by_one_of cores started id

-- A configured core is in the set exactly if it is started.
abbrev pub AreStarted : Plan → CoreSet → Type 0
AreStarted plan cores = (id : CoreId) → is_some (core_of plan id) ≡ true → is_started plan id ≡ has_core cores id
