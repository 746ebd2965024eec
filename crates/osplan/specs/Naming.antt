-- What the scripts, alarms and tables of a core name: objects of one core, or of another, or a spinlock.
use Rattle.std.specs.Prelude.{◌==◌, ◌&&◌, ◌||◌, not, Bool}
use Rattle.std.specs.List.{list_any}
use Rattle.osbase.specs.{declared.references.CoreId.CoreId, declared.references.SpinlockId.SpinlockId, declared.messages.RemoteCall.RemoteCall, declared.objects.Object.Object, declared.objects.ObjectKind.TheVariants.Spinlock as SpinlockKind, History.same_core, Objects.object_of_call, Objects.same_kind}
use Rattle.oscript.specs.{declared.Op.Op, Rows.asks_shared, Rows.halts_all, Rows.objects_of}
use Rattle.osplan.specs.{declared.plans.Core.Core, declared.sides.Side.Side, declared.sides.Side.TheVariants.On, declared.sides.Side.TheVariants.Off, declared.sides.Side.TheVariants.Spinlock, declared.operations.OpTest.OpTest, declared.operations.OpTest.TheVariants.Names, declared.operations.OpTest.TheVariants.AsksShared, declared.operations.OpTest.TheVariants.HaltsAll, Objects.core_actions, Objects.core_scripts}

-- The object is on this core.
abbrev pub is_on : CoreId → Object → Bool
is_on id object = same_core object.place.core id

-- The object is not on this core.
abbrev pub is_off : CoreId → Object → Bool
is_off id object = not (is_on id object)

-- The object is this spinlock.
abbrev pub is_that_spinlock : SpinlockId → Object → Bool
is_that_spinlock l object = same_kind object.kind SpinlockKind && (object.place.index == l.index)

-- The object is on this side, or is this spinlock.
abbrev pub is_at : Side → Object → Bool
is_at (On id) object = is_on id object
is_at (Off id) object = is_off id object
is_at (Spinlock l) object = is_that_spinlock l object

-- The operation names an object that passes the test. The invalid identifier names nothing.
abbrev pub op_names : (Object → Bool) → Op → Bool
op_names test op = list_any test (objects_of op)

-- The operation names an object on this core.
abbrev pub names_own : CoreId → Op → Bool
names_own id op = op_names (is_on id) op

-- The operation names an object that is not on this core.
abbrev pub names_other : CoreId → Op → Bool
names_other id op = op_names (is_off id) op

-- The operation does what the test asks about: it names an object on the test's side, its effect depends on what all
-- cores share, or it shuts all cores down.
abbrev pub passes_test : OpTest → Op → Bool
passes_test (Names side) = op_names (is_at side)
passes_test AsksShared = asks_shared
passes_test HaltsAll = halts_all

-- A script of the core has an operation that passes the test.
abbrev pub has_operation : (Op → Bool) → Core → Bool
has_operation test core = list_any (list_any test) (core_scripts core)

-- An alarm or a schedule table of the core acts on an object that passes the test.
abbrev pub acts_on : (Object → Bool) → Core → Bool
acts_on test core = list_any (λ (action : RemoteCall). test (object_of_call action)) (core_actions core)

-- The core names an object that passes the test, by a script, an alarm or a table. [own]
abbrev pub names_object : (Object → Bool) → Core → Bool
names_object test core = has_operation (op_names test) core || acts_on test core
