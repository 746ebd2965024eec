-- What the names of a configuration refer to: its application modes, spinlocks and objects. All names differ. [own]
use Rattle.std.specs.Prelude.{◌≡◌, ℕ, ◌≤◌, ◌++◌, Option, Some, None, option_and_then, option_map, if◌then◌else◌, List, map, find, length}
use Rattle.std.specs.{Borrow.Bor, HashMap.HashMap, HashMap.get_by, List.flat_map, Str.bytes_eq}
use Rattle.osbase.specs.Objects.{isr_of, mode_of, object_at, place_on, same_kind, spinlock_of}
use Rattle.osbase.specs.{declared.objects.Object.Object, declared.objects.TheConstants.NOBODY, declared.references.CoreId.CoreId, Sets.numbers_from, declared.objects.ObjectKind.ObjectKind, declared.objects.Place.Place, declared.references.IsrRef.IsrRef, declared.references.ModeId.ModeId, declared.references.SpinlockId.SpinlockId}
use Rattle.osplan.specs.{Names.name_of, Objects.common_names, Objects.object_count, declared.plans.Core.Core, declared.plans.Plan.Plan, declared.plans.TheConstants.COMMON, declared.plans.TheConstants.KINDS}

-- ---- what has a name

-- The name that the configuration gives to an object.
abbrev pub name_of_object : Plan → Object → List ℕ
name_of_object plan object = name_of plan object.kind object.place

-- The object of this kind at an index. `id` is the object's core, or NOBODY if all cores have it in common.
abbrev pub object_under : CoreId → ObjectKind → ℕ → Object
object_under id kind index = object_at kind (place_on id index)

-- The objects of this kind at the first `count` indices. `id` is their core, or NOBODY if all cores have them in
-- common.
abbrev pub objects_under : CoreId → ObjectKind → ℕ → List Object
objects_under id kind count = map (object_under id kind) (numbers_from 0 count)

-- The core's objects of this kind.
abbrev pub objects_in : Core → ObjectKind → List Object
objects_in core kind = objects_under core.id kind (object_count kind core)

-- The objects of this kind that all cores have in common.
abbrev pub common_in : Plan → ObjectKind → List Object
common_in plan kind = objects_under NOBODY kind (length (common_names kind plan))

-- All objects of a core, kind by kind.
abbrev pub named_in : Core → List Object
named_in core = flat_map (objects_in core) KINDS

-- The objects that all cores have in common, and then those of each core.
abbrev pub all_named : Plan → List Object
all_named plan = flat_map (common_in plan) COMMON ++ flat_map named_in plan.cores

-- The core has so few objects of each kind that a byte can index them.
abbrev pub HasFew : Core → Type 0
HasFew core = (kind : ObjectKind) → object_count kind core ≤ 255

-- All cores have so few objects of each kind in common that a byte can index them.
abbrev pub HasFewCommon : Plan → Type 0
HasFewCommon plan = (kind : ObjectKind) → length (common_names kind plan) ≤ 255

-- ---- what a name refers to

-- The first of these objects that has this name.
abbrev pub named_among : Plan → List Object → List ℕ → Option Object
named_among plan all name = find (λ (object : Object). bytes_eq (name_of_object plan object) name) all

-- The first object of the configuration that has this name.
abbrev pub named_by : Plan → List ℕ → Option Object
named_by plan name = named_among plan (all_named plan) name

-- The place of the object, if it is of this kind.
abbrev pub place_of_kind : ObjectKind → Object → Option Place
place_of_kind kind object = if same_kind object.kind kind then Some object.place else None

-- The place of the first object of this name, if it is of this kind.
abbrev pub place_named : Plan → ObjectKind → List ℕ → Option Place
place_named plan kind name = option_and_then (place_of_kind kind) (named_by plan name)

-- The mode of this name, if there is one.
abbrev pub mode_named : Plan → List ℕ → Option ModeId
mode_named plan name = option_map mode_of (place_named plan ObjectKind.Mode name)

-- The spinlock of this name, if there is one.
abbrev pub spinlock_named : Plan → List ℕ → Option SpinlockId
spinlock_named plan name = option_map spinlock_of (place_named plan ObjectKind.Spinlock name)

-- The ISR of this name, on whichever core, if there is one.
abbrev pub isr_named : Plan → List ℕ → Option IsrRef
isr_named plan name = option_map isr_of (place_named plan ObjectKind.Isr name)

-- ---- an index

-- The object that the index has for a name.
abbrev pub index_in : {S : Type 0} → HashMap (Bor (List ℕ)) Object S → List ℕ → Option Object
index_in index name = get_by (λ k. bytes_eq name k.now) index

-- For each name, the index has the first of these objects with that name, if there is one.
abbrev pub Indexes : {S : Type 0} → Plan → HashMap (Bor (List ℕ)) Object S → List Object → Type 0
Indexes plan index all = (name : List ℕ) → index_in index name ≡ named_among plan all name
