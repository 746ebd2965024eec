-- Groups of cores in which no other core has a say, the least group of a core, and the configuration of a group alone.
use Rattle.std.specs.Prelude.{ℕ, zero, suc, ◌&&◌, ◌||◌, not, Bool, if◌then◌else◌, is_some, List, length, map}
use Rattle.std.specs.List.{list_all, list_any}
use Rattle.osbase.specs.{declared.references.CoreId.CoreId, declared.references.SpinlockId.SpinlockId, declared.items.CoreSet.CoreSet, History.same_core, Sets.core_ids, Sets.has_core, Sets.numbers_from}
use Rattle.oscript.specs.Rows.{halts_all}
use Rattle.osplan.specs.{declared.plans.Plan.Plan, declared.plans.Core.Core, View.core_of, View.no_core}
use Rattle.osplan.specs.Naming.{has_operation, is_on, is_that_spinlock, names_object, op_names}

-- ---- who has a say in what a core does

-- A script of the core names the spinlock.
abbrev pub names_spinlock : Core → SpinlockId → Bool
names_spinlock core l = has_operation (op_names (is_that_spinlock l)) core

-- References to all spinlocks of the configuration, in index order.
abbrev pub spinlock_ids : Plan → List SpinlockId
spinlock_ids plan = map (λ (n : ℕ). record { index = n }) (numbers_from 0 (length plan.spinlocks))

-- Scripts of both cores name the same spinlock.
abbrev pub share_spinlock : Plan → Core → Core → Bool
share_spinlock plan a b = list_any (λ l. names_spinlock a l && names_spinlock b l) (spinlock_ids plan)

-- `other` has a say in what `core` does: a script of `other` shuts all cores down, one of the two names an object of
-- the other by a script, an alarm or a table, or scripts of both name the same spinlock. [own]
abbrev pub has_say : Plan → Core → Core → Bool
has_say plan other core =
    has_operation halts_all other || names_object (is_on core.id) other || names_object (is_on other.id) core || share_spinlock plan other core

-- ---- groups

-- Each core of the set is configured.
abbrev pub are_configured : Plan → CoreSet → Bool
are_configured plan cores = list_all (λ id. not (has_core cores id) || is_some (core_of plan id)) core_ids

-- No core outside the group, started or not, has a say in what this one does.
abbrev pub is_apart : Plan → CoreSet → Core → Bool
is_apart plan group core = list_all (λ (other : Core). has_core group other.id || not (has_say plan other core)) plan.cores

-- The cores are configured, and no core outside has a say in what one of them does. [own]
abbrev pub is_group : Plan → CoreSet → Bool
is_group plan group = are_configured plan group && list_all (λ (core : Core). not (has_core group core.id) || is_apart plan group core) plan.cores

-- ---- the least group of a core

-- The core of this number has a say in what one of the given cores does.
abbrev pub is_heard : Plan → (CoreId → Bool) → CoreId → Bool
is_heard plan cores id =
    list_any (λ (other : Core). same_core other.id id && list_any (λ (core : Core). cores core.id && has_say plan other core) plan.cores) plan.cores

-- `id` joins the group of `core` within n rounds. At first the group has `core` alone, if it is configured. Each round
-- adds the cores that have a say in what a member does.
abbrev pub belongs_within : Plan → CoreId → ℕ → CoreId → Bool
belongs_within plan core zero id = same_core id core && is_some (core_of plan id)
belongs_within plan core (suc n) id = belongs_within plan core n id || is_heard plan (belongs_within plan core n) id

-- `id` is in the least group of `core`. As many rounds as there are cores are enough. [own]
abbrev pub is_in_least_group : Plan → CoreId → CoreId → Bool
is_in_least_group plan core id = belongs_within plan core (length plan.cores) id

-- ---- the configuration of a group alone

-- A core without its objects: its number, its mode, which cores it starts, and its answer to a time fault.
abbrev pub bare_core : Core → Core
bare_core core = record (no_core core.id) { mode = core.mode; start = core.start; protection = core.protection }

-- The core as the group's configuration has it: whole if it is in the group, else without its objects.
abbrev pub part_of : CoreSet → Core → Core
part_of group core = if has_core group core.id then core else bare_core core

-- The configuration of the group alone: each core outside keeps its number, its mode, its start list and its answer to
-- a time fault, and loses its objects. All else stays: the version, the master, the modes, the spinlocks and the
-- mailboxes' size. [own]
abbrev pub group_of : Plan → CoreSet → Plan
group_of plan group = record plan { cores = map (part_of group) plan.cores }
