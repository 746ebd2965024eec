-- The objects that a configuration's text declares, in one list, and what names refer to. [own]
use Rattle.std.specs.Prelude.{ℕ, ◌==◌, ◌++◌, nat_le, Bool, Option, Some, None, option_and_then, option_map, unwrap_or, if◌then◌else◌, List, map, find, count_by}
use Rattle.std.specs.{List.enumerate_from, List.flat_map, Str.bytes_eq}
use Rattle.osbase.specs.Objects.{counter_of, mode_of, same_kind, spinlock_of}
use Rattle.osbase.specs.{declared.references.CoreId.CoreId, declared.references.CounterRef.CounterRef, declared.objects.ObjectKind.ObjectKind, declared.objects.ObjectKind.TheVariants.Counter, declared.objects.ObjectKind.TheVariants.Mode, declared.objects.ObjectKind.TheVariants.Spinlock, declared.objects.Place.Place, declared.objects.TheConstants.NOBODY, declared.references.ModeId.ModeId, declared.references.SpinlockId.SpinlockId}
use Rattle.osplan.specs.{declared.plans.TheConstants.COMMON, declared.plans.TheConstants.KINDS, Limits.CounterSizes}
use Rattle.osschema.specs.{declared.shapes.ConfigText.ConfigText, declared.shapes.CoreText.CoreText, declared.shapes.Named.Named, declared.declarations.Declaration.Declaration, Shape.common_in, Shape.objects_in}

-- The number as a byte; 0 if the number is below 0 (None) or above 255. A text without a fault has no such number.
abbrev pub byte_of : Option ℕ → ℕ
byte_of None = 0
byte_of (Some n) = if nat_le n 255 then n else 0

-- The number as one of 32 bits; 0 if the number is below 0 (None) or has more bits. A text without a fault has no such
-- number.
abbrev pub word_of : Option ℕ → ℕ
word_of None = 0
word_of (Some n) = if nat_le n 4294967295 then n else 0

-- The core of this number; core 0 if the number is no byte.
abbrev pub number_id : Option ℕ → CoreId
number_id number = record { number = byte_of number }

abbrev pub id_of : CoreText → CoreId
id_of core = number_id core.id

-- ---- the list

-- The declaration of an object of this kind. `p` has the object's index, and its name with a counter's numbers. `id` is
-- the object's core, or NOBODY if all cores have the object in common.
abbrev pub declaration : CoreId → ObjectKind → ℕ × Named → Declaration
declaration id kind p = record { name = p.1.name; kind = kind; core = id; index = p.0; max = p.1.max; min = p.1.min }

-- The declarations of these objects, all of this kind. The index of each is its place in `objects`. `id` is the core of
-- all of them, or NOBODY if all cores have them in common.
abbrev pub declared_as : CoreId → ObjectKind → List Named → List Declaration
declared_as id kind objects = map (declaration id kind) (enumerate_from 0 objects)

-- The declarations of the core's objects of this kind.
abbrev pub declared_of : CoreText → ObjectKind → List Declaration
declared_of core kind = declared_as (id_of core) kind (objects_in kind core)

-- The declarations of all objects of a core, kind by kind, and of each kind in the order of the text.
abbrev pub declared_by : CoreText → List Declaration
declared_by core = flat_map (declared_of core) KINDS

-- The declarations of the objects of this kind that all cores have in common.
abbrev pub common_of : ConfigText → ObjectKind → List Declaration
common_of t kind = declared_as NOBODY kind (common_in kind t)

-- The declarations of all objects of a text: those that all cores have in common, and then those of each core.
abbrev pub declarations : ConfigText → List Declaration
declarations t = flat_map (common_of t) COMMON ++ flat_map declared_by t.cores

-- The names of declared objects.
abbrev pub names_of : List Declaration → List (List ℕ)
names_of objects = map (λ (declaration : Declaration). declaration.name) objects

-- ---- what a name refers to

abbrev pub has_name : List ℕ → Declaration → Bool
has_name name declaration = bytes_eq declaration.name name

-- The place of the object, if it is of this kind.
abbrev pub place_in : ObjectKind → Declaration → Option Place
place_in kind declaration = if same_kind declaration.kind kind then Some (record { core = declaration.core; index = byte_of (Some declaration.index) }) else None

-- The place of the first object of this name, if it is of this kind.
abbrev pub place_of : List Declaration → ObjectKind → List ℕ → Option Place
place_of objects kind name = option_and_then (place_in kind) (find (has_name name) objects)

-- ---- modes, spinlocks and counters by their names

-- The mode of this name, or the first mode if there is none.
abbrev pub mode_ref : List Declaration → List ℕ → ModeId
mode_ref objects name = unwrap_or (option_map mode_of (place_of objects Mode name)) (record { index = 0 })

-- The spinlock of a name, if there is one.
abbrev pub spinlock_ref : List Declaration → List ℕ → Option SpinlockId
spinlock_ref objects name = option_map spinlock_of (place_of objects Spinlock name)

-- The counter of this name. If there is none: counter 0 of this core, whether this counter exists or not.
abbrev pub counter_ref : List Declaration → CoreId → List ℕ → CounterRef
counter_ref objects id name = unwrap_or (option_map counter_of (place_of objects Counter name)) (record { core = id; index = 0 })

-- Exactly one object has the name.
abbrev pub is_alone : List Declaration → List ℕ → Bool
is_alone objects name = count_by (has_name name) objects == 1

-- The declaration, if it is that of a counter.
abbrev pub if_counter : Declaration → Option Declaration
if_counter declaration = if same_kind declaration.kind Counter then Some declaration else None

-- The declaration of the counter of this name, if no other object has the name.
abbrev pub counter_declared : List Declaration → List ℕ → Option Declaration
counter_declared objects name = if is_alone objects name then option_and_then if_counter (find (has_name name) objects) else None

-- The greatest value and the least cycle of a declared counter.
abbrev pub declared_sizes : Declaration → CounterSizes
declared_sizes declaration = record { max = declaration.max; min = declaration.min }

-- The place of the object of this kind and name, if no other object has the name.
abbrev pub place_alone : List Declaration → ObjectKind → List ℕ → Option Place
place_alone objects kind name = if is_alone objects name then place_of objects kind name else None
