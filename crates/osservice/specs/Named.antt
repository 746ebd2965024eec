-- What a script names.
use Rattle.std.specs.Prelude.{if◌then◌else◌, Option, Some, None}
use Rattle.osbase.specs.declared.objects.Object.{Object}
use Rattle.osplan.specs.{declared.plans.Core.Core, Objects.is_own_object}

-- An object that a script names, if it is one of the core's own. If the service is for own objects alone, no script of
-- an accepted configuration names another one. [own]
abbrev pub own_of : {R : Type 0} → (R → Object) → Core → Option R → Option R
own_of object core None = None
own_of object core (Some x) = if is_own_object core (object x) then Some x else None
