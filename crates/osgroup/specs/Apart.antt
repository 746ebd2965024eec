-- What cores in a group and outside do not name, core by core.
use Rattle.std.specs.Prelude.{◌&&◌, not, if◌then◌else◌, Bool}
use Rattle.std.specs.List.{list_any}
use Rattle.osbase.specs.{declared.references.SpinlockId.SpinlockId, declared.items.CoreSet.CoreSet, declared.objects.Object.Object, declared.objects.ObjectKind.TheVariants.Spinlock, declared.objects.TheConstants.NOBODY, History.same_core, Objects.same_kind, Objects.spinlock_of, Sets.has_core}
use Rattle.oscript.specs.Rows.{halts_all}
use Rattle.osplan.specs.{declared.plans.Plan.Plan, declared.plans.Core.Core, Naming.has_operation, Naming.names_object, Naming.op_names}
use Rattle.osgroup.specs.Groups.{names_spinlock}

-- The object is on a core of the group.
abbrev pub is_inside : CoreSet → Object → Bool
is_inside group object = has_core group object.place.core

-- The object is on a core outside the group. Spinlocks and modes are on no core.
abbrev pub is_outside : CoreSet → Object → Bool
is_outside group object = not (is_inside group object) && not (same_core object.place.core NOBODY)

-- A script of a core of the group names the spinlock.
abbrev pub is_taken_in : Plan → CoreSet → SpinlockId → Bool
is_taken_in plan group l = list_any (λ (core : Core). has_core group core.id && names_spinlock core l) plan.cores

-- The object is a spinlock that a script of a core of the group names.
abbrev pub is_taken : Plan → CoreSet → Object → Bool
is_taken plan group object = same_kind object.kind Spinlock && is_taken_in plan group (spinlock_of object.place)

-- If the core is in the group, it names no object of a core outside. If it is outside, it names no object of the group,
-- and its scripts neither name a spinlock that the group's scripts name nor shut all cores down.
abbrev pub keeps_apart : Plan → CoreSet → Core → Bool
keeps_apart plan group core =
    if has_core group core.id
    then not (names_object (is_outside group) core)
    else (not (names_object (is_inside group) core) && not (has_operation halts_all core) && not (has_operation (op_names (is_taken plan group)) core))
