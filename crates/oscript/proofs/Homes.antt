-- The places of the objects of arguments. What all cores have in common is on `NOBODY`, wherever it was found.
use Rattle.std.proofs.Common.{◌≡◌, Bool, true, Some, None, option_map, List, [], ◌∷◌, map, refl}
use Rattle.std.specs.List.{list_all}
use Rattle.std.proofs.lemmas.Bool.{and_parts}
use Rattle.osbase.specs.Objects.{mode_of, mode_place, spinlock_of, spinlock_place}
use Rattle.osbase.specs.{declared.objects.Object.Object as Named, declared.objects.ObjectKind.ObjectKind, declared.objects.ObjectKind.TheVariants.Mode, declared.objects.ObjectKind.TheVariants.Spinlock, declared.objects.Place.Place}
use Rattle.oscript.specs.{declared.rows.Arg.Arg, declared.rows.Arg.TheVariants.Object, Rows.objects_in}
use Rattle.oscript.proofs.Arguments.{rest-pass}

-- The place that a reference has if it is made for an object of this kind at this place.
abbrev pub home : ObjectKind → Place → Place
home Mode place = mode_place (mode_of place)
home Spinlock place = spinlock_place (spinlock_of place)
home kind place = place

abbrev pub at_home : Arg Place → Arg Place
at_home (Object kind target) = Object kind (option_map (home kind) target)
at_home arg = arg

-- If each object is at the place of its reference, the arguments stay as they are.
module _ (p : Named → Bool) (stays : (object : Named) → p object ≡ true → home object.kind object.place ≡ object.place) where
  arg-home : (arg : Arg Place) (args : List (Arg Place)) → list_all p (objects_in (arg ∷ args)) ≡ true → at_home arg ≡ arg
  arg-home (Object kind None) args all = refl
  arg-home (Object kind (Some place)) args all = rw (stays (record { kind = kind; place = place }) (and_parts (p (record { kind = kind; place = place })) _ all).0) refl
  arg-home arg args all = refl

  pub args-home : (args : List (Arg Place)) → list_all p (objects_in args) ≡ true → map at_home args ≡ args
  args-home [] all = refl
  args-home (arg ∷ args) all = rw (arg-home arg args all, args-home args (rest-pass p arg args all)) refl
