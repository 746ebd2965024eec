-- When a core is separate, so that no other core has a say in what it prints, and its configuration alone.
use Rattle.std.specs.Prelude.{ℕ, zero, suc, ◌==◌, ◌&&◌, ◌||◌, not, Bool, true, false, if◌then◌else◌, List, [], ◌∷◌, length, map, filter}
use Rattle.std.specs.{List.list_all, List.list_any, Option.option_map_or}
use Rattle.osbase.specs.{declared.references.CoreId.CoreId, History.same_core, declared.items.CoreMode.CoreMode, declared.items.CoreMode.TheVariants.Named, declared.items.CoreMode.TheVariants.DontCare}
use Rattle.oscript.specs.Rows.{asks_shared, halts_all}
use Rattle.osplan.specs.{declared.plans.Plan.Plan, declared.plans.Core.Core, View.core_of}
use Rattle.osseparate.specs.declared.separate.Coupling.{Coupling}
use Rattle.osplan.specs.Naming.{has_operation, is_off, is_on, names_object}

-- ---- which cores are started

-- The numbers of the configured cores.
abbrev pub configured_ids : Plan → List CoreId
configured_ids plan = map (λ (c : Core). c.id) plan.cores

-- The core's number is among these.
abbrev pub is_among : List CoreId → CoreId → Bool
is_among ids id = list_any (λ (c : CoreId). same_core c id) ids

-- One of the started cores names this one in its start list.
abbrev pub is_named_by : Plan → List CoreId → CoreId → Bool
is_named_by plan started id = list_any (λ (c : Core). is_among started c.id && is_among c.start id) plan.cores

-- The configured cores that are started after one more round of start lists.
abbrev pub after_round : Plan → List CoreId → List CoreId
after_round plan started = filter (λ id. is_among started id || is_named_by plan started id) (configured_ids plan)

-- The configured cores that are started within n rounds of start lists. Within no round only the master is.
abbrev pub started_within : Plan → ℕ → List CoreId
started_within plan zero = filter (λ id. same_core id plan.master) (configured_ids plan)
started_within plan (suc n) = after_round plan (started_within plan n)

-- A core is started if start lists reach it from the master. As many rounds as there are cores are
-- enough: a way that visits no core twice has no more steps. A start list may also name a core that is
-- not configured, which is never started. [AUTOSAR SWS OS 4.x, StartCore]
-- The code keeps a flag for each core number.
abbrev pub is_started : Plan → CoreId → Bool
is_started plan id = is_among (started_within plan (length plan.cores)) id

-- ---- modes

-- This is a mode other than DONOTCARE.
abbrev pub names_mode : CoreMode → Bool
names_mode (Named m) = true
names_mode DontCare = false

-- One of the two is DONOTCARE, or both are the same mode.
abbrev pub agree : CoreMode → CoreMode → Bool
agree (Named m) (Named n) = m.index == n.index
agree (Named m) DontCare = true
agree DontCare other = true

-- The mode of each started core agrees with this one: one of the two is DONOTCARE, or both are the same mode.
abbrev pub is_agreed_mode : Plan → CoreMode → Bool
is_agreed_mode plan mode = list_all (λ (c : Core). not (is_started plan c.id) || agree mode c.mode) plan.cores

-- ---- what ties a core to others

-- A core of another number, started or not, names an object of the core of this number.
abbrev pub is_named_elsewhere : Plan → CoreId → Bool
is_named_elsewhere plan id = list_any (λ (other : Core). not (same_core other.id id) && names_object (is_on id) other) plan.cores

-- A script of some core, started or not, shuts all cores down.
abbrev pub halts_somewhere : Plan → Bool
halts_somewhere plan = list_any (has_operation halts_all) plan.cores

-- ---- separate cores, and the configuration of one alone

-- The core is started. It names a mode, and no started core names another mode. Its start list is empty. Its scripts,
-- alarms and tables name no object of another core and no spinlock. No other core, started or not, names an object of
-- it. Its scripts neither start nor count cores. No script of any core shuts all cores down. [own]
abbrev pub is_separate_core : Plan → Core → Bool
is_separate_core plan core =
    is_started plan core.id
    && names_mode core.mode
    && is_agreed_mode plan core.mode
    && (length core.start == 0)
    && not (names_object (is_off core.id) core)
    && not (is_named_elsewhere plan core.id)
    && not (has_operation asks_shared core)
    && not (halts_somewhere plan)

-- The configured core of this number is separate: no other core has a say in what it prints. [own]
abbrev pub is_separate : Plan → CoreId → Bool
is_separate plan id = option_map_or (is_separate_core plan) (core_of plan id) false

-- What the core is to the others: `Separate`; `Bound` if it is started, but not separate; `Off` if it is never started.
-- [own]
abbrev pub coupling_of : Plan → CoreId → Coupling
coupling_of plan id = if is_separate plan id then Coupling.Separate else (if is_started plan id then Coupling.Bound else Coupling.Off)

-- The configuration of the core alone, under this number, as the master, without spinlocks. The version, the modes and
-- the mailboxes' size stay. [own]
abbrev pub alone_of : Plan → CoreId → Core → Plan
alone_of plan id core = record plan { master = id; spinlocks = []; cores = core ∷ [] }

-- The configuration of the core of this number alone. If that core is not configured, the result has no core. [own]
abbrev pub cut_of : Plan → CoreId → Plan
cut_of plan id = option_map_or (alone_of plan id) (core_of plan id) (record plan { master = id; spinlocks = []; cores = [] })
