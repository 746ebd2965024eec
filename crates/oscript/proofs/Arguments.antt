-- The objects of arguments.
use native.Mathlib.Omega.{arith}
use Rattle.std.proofs.Common.{◌≡◌, Bool, true, List, ◌∷◌}
use Rattle.std.specs.List.{list_all}
use Rattle.osbase.specs.{declared.objects.Place.Place, declared.objects.Object.Object}
use Rattle.oscript.specs.{declared.rows.Arg.Arg, Rows.objects_in}

-- if the objects of all arguments pass a test, those of the later arguments do
pub rest-pass : (p : Object → Bool) (arg : Arg Place) (args : List (Arg Place)) → list_all p (objects_in (arg ∷ args)) ≡ true → list_all p (objects_in args) ≡ true
rest-pass p arg args all = grind arith
