-- What one core sees of a configuration.
use Rattle.std.specs.Prelude.{ℕ, if◌then◌else◌, Bool, Option, None, List, [], find, map, is_some, option_and_then, slice_get, unwrap_or}
use Rattle.osbase.specs.{declared.references.AlarmRef.AlarmRef, declared.references.CoreId.CoreId, declared.references.CounterRef.CounterRef, declared.references.IsrRef.IsrRef, declared.references.ResourceRef.ResourceRef, declared.references.SpinlockId.SpinlockId, declared.references.TableRef.TableRef, declared.references.TaskRef.TaskRef, History.same_core, declared.items.CoreMode.TheVariants.DontCare}
use Rattle.osplan.specs.{Spinlocks.links_of, declared.plans.Plan.Plan, declared.plans.Alarm.Alarm, declared.plans.Core.Core, declared.plans.Counter.Counter, declared.plans.Isr.Isr, declared.plans.Resource.Resource, declared.plans.Table.Table, declared.plans.Task.Task, declared.protection.Protection.TheVariants.Shutdown}

-- The core of this number, if one is configured.
abbrev pub core_of : Plan → CoreId → Option Core
core_of plan id = find (λ core. same_core core.id id) plan.cores

-- The counter of this reference, on whichever core it is.
abbrev pub counter_in : Plan → CounterRef → Option Counter
counter_in plan c = option_and_then (λ (core : Core). slice_get core.counters c.index) (core_of plan c.core)

-- What stands for a core that is not configured: it has no objects, starts no core, accepts any mode, and would answer
-- a time fault with its shutdown.
abbrev pub no_core : CoreId → Core
no_core id = record { id = id; mode = DontCare; start = []; protection = Shutdown; tasks = []; isrs = []; resources = []; counters = []; alarms = []; tables = [] }

-- What a core sees of the others and shares with them: whether it is the master, the numbers of the configured cores,
-- and the successor of each spinlock.
pub record Around : Type 0 where
  pub is_master : Bool
  pub cores : List CoreId
  pub links : List (Option SpinlockId)

-- What a core is started with: its number, and its own part of the configuration, which has its mode, its start list
-- and its objects; the configuration's modes, and what it sees of the other cores. An object of another core is known
-- by its reference, which says its kind and its core.
-- [AUTOSAR SWS OS 4.x, section 7.9; the code holds one whole configuration.]
pub record View : Type 0 where
  pub core : CoreId
  pub own : Core
  pub modes : List (List ℕ)
  pub around : Around

-- What the core of this number sees, if `own` is its own part of the configuration.
abbrev pub view_from : Plan → CoreId → Core → View
view_from plan id own = record {
  core = id;
  own = own;
  modes = plan.modes;
  around = record { is_master = same_core id plan.master; cores = map (λ (c : Core). c.id) plan.cores; links = links_of plan.spinlocks };
}

-- What the core of this number sees, configured or not.
abbrev pub view_of : Plan → CoreId → View
view_of plan id = view_from plan id (unwrap_or (core_of plan id) (no_core id))

-- A core with this number is configured.
abbrev pub is_configured : View → CoreId → Bool
is_configured v id = is_some (find (same_core id) v.around.cores)

-- The task of this reference, if it is one of the core's own.
abbrev pub own_task : Core → TaskRef → Option Task
own_task core t = if same_core t.core core.id then slice_get core.tasks t.index else None

-- The ISR of this reference, if it is one of the core's own.
abbrev pub own_isr : Core → IsrRef → Option Isr
own_isr core i = if same_core i.core core.id then slice_get core.isrs i.index else None

-- The resource of this reference, if it is one of the core's own.
abbrev pub own_resource : Core → ResourceRef → Option Resource
own_resource core r = if same_core r.core core.id then slice_get core.resources r.index else None

-- The counter of this reference, if it is one of the core's own.
abbrev pub own_counter : Core → CounterRef → Option Counter
own_counter core c = if same_core c.core core.id then slice_get core.counters c.index else None

-- The alarm of this reference, if it is one of the core's own.
abbrev pub own_alarm : Core → AlarmRef → Option Alarm
own_alarm core a = if same_core a.core core.id then slice_get core.alarms a.index else None

-- The schedule table of this reference, if it is one of the core's own.
abbrev pub own_table : Core → TableRef → Option Table
own_table core s = if same_core s.core core.id then slice_get core.tables s.index else None
