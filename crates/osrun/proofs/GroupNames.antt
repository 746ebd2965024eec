-- Whom the cores of a group may ask, and whom those outside it may ask, by what their scripts, alarms and tables name.
use Rattle.std.proofs.Common.{arith, List, ◌≡◌, ℕ, Bool, true, false, not, ◌&&◌, ◌||◌, Some, [], ◌∷◌, refl}
use Rattle.std.specs.List.{list_all, list_any, slice_get}
use Rattle.osbase.specs.{declared.references.CoreId.CoreId, declared.references.Runner.Runner, declared.references.SpinlockId.SpinlockId, declared.items.CoreSet.CoreSet, declared.objects.Object.Object, declared.objects.TheConstants.NOBODY, History.same_core, Objects.spinlock_of, Sets.has_core}
use Rattle.oscript.specs.{declared.Op.Op, Rows.halts_all, Rows.objects_of}
use Rattle.osplan.specs.{declared.plans.Plan.Plan, declared.plans.Core.Core, View.no_core, View.view_of}
use Rattle.osplan.specs.Naming.{has_operation, is_that_spinlock, names_object, op_names}
use Rattle.osplan.proofs.Tests.{find-fails, find-passes}
use Rattle.osgroup.specs.Apart.{is_inside, is_outside, is_taken, is_taken_in, keeps_apart}
use Rattle.osgroup.specs.Groups.{names_spinlock}
use Rattle.osstate.specs.Readings.{script_of}
use Rattle.osservice.proofs.{Called.may_lock, Partners.Partner}
use Rattle.oskernel.proofs.Carried.{NamesAllow, allow-cores}
use Rattle.oskernel.proofs.Scripts.{but_halt, names-allow, none-all, script-fails, script-none}
use Rattle.osrun.proofs.OwnCore.{found-id, own-by}

-- A core of the group may ask cores of the group, spinlocks that the group names, and whatever all cores share.
abbrev pub asks_inside : Plan → CoreSet → Partner → Bool
asks_inside plan group (Partner.Core core) = has_core group core || same_core core NOBODY
asks_inside plan group (Partner.Spinlock l) = is_taken_in plan group l
asks_inside plan group Partner.Shared = true
asks_inside plan group Partner.Halt = true

-- A core outside may ask no core of the group and no such spinlock, and it may not shut all cores down.
abbrev pub asks_outside : Plan → CoreSet → Partner → Bool
asks_outside plan group (Partner.Core core) = not (has_core group core)
asks_outside plan group (Partner.Spinlock l) = not (is_taken_in plan group l)
asks_outside plan group Partner.Shared = true
asks_outside plan group Partner.Halt = false

-- If no forbidden spinlock is among the objects, each of them is no spinlock or one that may be asked for.
locks-by : (may : Partner → Bool) (objects : List Object) → ((l : SpinlockId) → may (Partner.Spinlock l) ≡ false → list_any (is_that_spinlock l) objects ≡ false) → list_all (may_lock may) objects ≡ true
locks-by may [] none = refl
locks-by may (o ∷ os) none = grind (arith, none (spinlock_of o.place), locks-by may os (λ k fails. grind (arith, none k fails)))

module _ (plan : Plan) (group : CoreSet) (keeps : list_all (keeps_apart plan group) plan.cores ≡ true) (id : CoreId) where
  -- If a core without objects and each core that keeps apart fail a test, a core's own part fails it.
  own-fails : (test : Core → Bool) → test (no_core id) ≡ false → ((core : Core) → core.id ≡ id → keeps_apart plan group core ≡ true → test core ≡ false) → test (view_of plan id).own ≡ false
  own-fails test none each =
      own-by plan id (λ (core : Core). test core ≡ false) none
      (λ core found. each core (found-id plan id core found) (find-passes (λ (x : Core). same_core x.id id) (keeps_apart plan group) plan.cores core keeps found))

  module _ (inside : has_core group id ≡ true) where
    -- Each spinlock that its scripts name is one of the group's.
    names-taken : (l : SpinlockId) → is_taken_in plan group l ≡ false → names_spinlock (view_of plan id).own l ≡ false
    names-taken l fails =
        own-by plan id (λ (core : Core). names_spinlock core l ≡ false) refl (λ core found.
        let none = find-fails (λ (x : Core). same_core x.id id) (λ (x : Core). has_core group x.id && names_spinlock x l) plan.cores core fails found in
        grind (arith, inside, found-id plan id core found, none))

    pub inside-allow : NamesAllow (view_of plan id) (asks_inside plan group)
    inside-allow =
        names-allow (view_of plan id) (asks_inside plan group) (is_outside group)
        (own-fails (names_object (is_outside group)) refl (λ core same apart. grind (arith, inside, same, apart)))
        (λ object e. grind (arith, e))
        (λ r n op e. locks-by (asks_inside plan group) (objects_of op) (λ l fails. script-fails (view_of plan id).own (op_names (is_that_spinlock l)) (names-taken l fails) r n op e))
        (λ r n op e asks. refl)
        (λ r n op e halts. refl)

  module _ (outside : has_core group id ≡ false) where
    -- No script of a core outside the group shuts all cores down.
    unhalted : has_operation halts_all (view_of plan id).own ≡ false
    unhalted = own-fails (has_operation halts_all) refl (λ core same apart. grind (arith, outside, same, apart))

    -- No spinlock that its scripts name is one of the group's.
    locks-outside : (r : Runner) (n : ℕ) (op : Op) → slice_get (script_of (view_of plan id).own r) n ≡ Some op → list_all (may_lock (asks_outside plan group)) (objects_of op) ≡ true
    locks-outside r n op e =
        none-all (is_taken plan group) (may_lock (asks_outside plan group)) (λ object fails. grind (arith, fails)) (objects_of op)
        (script-fails (view_of plan id).own (op_names (is_taken plan group)) (own-fails (has_operation (op_names (is_taken plan group))) refl (λ core same apart. grind (arith, outside, same, apart))) r n op e)

    pub outside-allow : NamesAllow (view_of plan id) (asks_outside plan group)
    outside-allow =
        names-allow (view_of plan id) (asks_outside plan group) (is_inside group)
        (own-fails (names_object (is_inside group)) refl (λ core same apart. grind (arith, outside, same, apart)))
        (λ object e. grind (arith, e))
        locks-outside
        (λ r n op e asks. refl)
        (script-none (view_of plan id).own halts_all unhalted)

    pub outside-unhalted : NamesAllow (view_of plan id) but_halt
    outside-unhalted = allow-cores (view_of plan id) but_halt (λ core. refl) (λ l. refl) (λ r n op e asks. refl) (script-none (view_of plan id).own halts_all unhalted)
