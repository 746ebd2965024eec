-- What an operation names: also the object of its call, and the spinlocks.
use native.Mathlib.Omega.{arith}
use Rattle.std.proofs.Common.{◌≡◌, ◌||◌, Bool, true, false, not, Option, Some, option_and_then, List, [], ◌∷◌, refl, ap, subst}
use Rattle.std.specs.List.{list_all}
use Rattle.std.proofs.lemmas.Bool.{and_from, and_parts, or_right}
use Rattle.osbase.specs.{declared.messages.RemoteCall.RemoteCall, declared.objects.Object.Object, declared.objects.ObjectKind.ObjectKind, declared.references.SpinlockId.SpinlockId, declared.statuses.ServiceId.ServiceId, Objects.object_of_call, Objects.same_kind, Objects.spinlock_of}
use Rattle.oscript.specs.{declared.Op.Op, Calls.call_of_op, Rows.asks_shared, Rows.halts_all, Rows.objects_of}
use Rattle.oscript.proofs.Acting.{called-object}
use Rattle.osplan.specs.View.{View}
use Rattle.osservice.proofs.{Kept.is_within, Partners.Partner}

-- The object is no spinlock, or one that may be asked for.
abbrev pub may_lock : (Partner → Bool) → Object → Bool
may_lock may object = not (same_kind object.kind ObjectKind.Spinlock) || may (Partner.Spinlock (spinlock_of object.place))

-- The core of each object that an operation names is the own core, or one that may be asked; each spinlock that it
-- names may be asked for. The operation asks for what all cores share, and for their shutdown, only if it may.
pub record IsAllowed (v : View) (may : Partner → Bool) (op : Op) : Type 0 where
  pub objects : list_all (λ (object : Object). is_within v may object.place.core) (objects_of op) ≡ true
  pub locks : list_all (may_lock may) (objects_of op) ≡ true
  pub shared : asks_shared op ≡ true → may Partner.Shared ≡ true
  pub halt : halts_all op ≡ true → may Partner.Halt ≡ true

-- If all objects of an operation pass a test, the object of its call passes it.
pub called-passes : (test : Object → Bool) (op : Op) (id : ServiceId) (call : RemoteCall) → call_of_op op ≡ Some (id, Some call) → list_all test (objects_of op) ≡ true → test (object_of_call call) ≡ true
called-passes test op id call is all =
    let object = called-object op call (ap (option_and_then (λ (entry : ServiceId × Option RemoteCall). entry.1)) is) in
    (and_parts (test (object_of_call call)) true (subst (λ (objects : List Object). list_all test objects ≡ true) object all)).0

-- If every spinlock may be asked for, nothing is required of those that are named.
pub locks-any : (may : Partner → Bool) → ((l : SpinlockId) → may (Partner.Spinlock l) ≡ true) → (objects : List Object) → list_all (may_lock may) objects ≡ true
locks-any may each [] = refl
locks-any may each (object ∷ objects) = and_from _ _ (or_right _ _ (each (spinlock_of object.place))) (locks-any may each objects)

-- An operation that asks for nothing that all cores share names no spinlock.
pub locks-none : (may : Partner → Bool) (op : Op) → asks_shared op ≡ false → list_all (may_lock may) (objects_of op) ≡ true
locks-none may Op.Work e = refl
locks-none may op e = grind arith
