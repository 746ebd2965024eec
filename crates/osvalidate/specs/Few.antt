-- How many objects a text has, before their names are judged. [own]
use Rattle.std.specs.Prelude.{◌&&◌, nat_le, Bool, length}
use Rattle.std.specs.List.{list_all}
use Rattle.osvalidate.specs.Words.{ConfigText, CoreText, ObjectKind}
use Rattle.osplan.specs.{declared.plans.TheConstants.COMMON, declared.plans.TheConstants.KINDS, Limits.most_cores, Limits.most_of}
use Rattle.osschema.specs.Shape.{common_in, objects_in}

-- The core has no more objects of each kind than it may have.
abbrev pub is_core_few : CoreText → Bool
is_core_few core = list_all (λ (kind : ObjectKind). nat_le (length (objects_in kind core)) (most_of kind)) KINDS

-- The text has no more modes, spinlocks and cores than it may have, and each core no more objects of each kind.
abbrev pub are_objects_few : ConfigText → Bool
are_objects_few t = list_all (λ (kind : ObjectKind). nat_le (length (common_in kind t)) (most_of kind)) COMMON && nat_le (length t.cores) most_cores && list_all is_core_few t.cores
