-- The spinlocks of a configuration as objects, and the places of objects.
use Rattle.std.proofs.Common.{None, ap, refl, sym, true, ◌≡◌}
use Rattle.std.proofs.lemmas.List.{length-map}
use Rattle.osbase.specs.{Objects.object_at, Objects.place_on, Objects.spinlock_object, Objects.spinlock_of, declared.objects.Object.Object, declared.objects.ObjectKind.ObjectKind, declared.objects.Place.Place, declared.objects.TheConstants.NOBODY, declared.references.CoreId.CoreId, declared.references.SpinlockId.SpinlockId}
use Rattle.oscript.proofs.Homes.{home}
use Rattle.osplan.specs.{declared.plans.Plan.Plan, Limits.is_object, Limits.is_spinlock, View.core_of}
use Rattle.osplan.proofs.ModeObjects.{common-there, mode-there}

-- A spinlock that is an object of the configuration is one of its spinlocks, and on no core.
pub spinlock-there : (plan : Plan) (place : Place) → is_object plan (object_at ObjectKind.Spinlock place) ≡ true → (place.core ≡ NOBODY) × (is_spinlock plan (spinlock_of place) ≡ true)
spinlock-there plan place is = rw length-map at (common-there plan ObjectKind.Spinlock place (λ core. refl) is)

pub there-spinlock : (plan : Plan) → core_of plan NOBODY ≡ None → (l : SpinlockId) → is_spinlock plan l ≡ true → is_object plan (spinlock_object l) ≡ true
there-spinlock plan alone l is = rw (alone, length-map) is

-- An object of the configuration is where its references are.
pub stays : (plan : Plan) (object : Object) → is_object plan object ≡ true → home object.kind object.place ≡ object.place
stays plan object = by object.kind
  where
    by : (kind : ObjectKind) → is_object plan (object_at kind object.place) ≡ true → home kind object.place ≡ object.place
    by ObjectKind.Mode is = ap (λ (core : CoreId). place_on core object.place.index) (sym (mode-there plan object.place is).0)
    by ObjectKind.Spinlock is = ap (λ (core : CoreId). place_on core object.place.index) (sym (spinlock-there plan object.place is).0)
    by kind is = refl
