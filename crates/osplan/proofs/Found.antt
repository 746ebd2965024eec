-- Each core of a configuration is found by its number.
use Rattle.std.proofs.Common.{◌≡◌, true, false, not, List, [], ◌∷◌, Some, find, refl, ◌∙◌}
use Rattle.std.specs.List.{AllByRecursion}
use Rattle.std.proofs.lemmas.Bool.{and_parts, not-true, or_parts}
use Rattle.osbase.specs.History.{same_core}
use Rattle.osbase.proofs.Same.{same_core-comm, same_core-refl}
use Rattle.osplan.specs.{declared.plans.Core.Core, Limits.are_numbers_distinct, Limits.has_number, Limits.number_of, Limits.numbers_of}

abbrev pub IsFound : List Core → Core → Type 0
IsFound cores core = find (λ (c : Core). same_core c.id core.id) cores ≡ Some core

behind : (first : Core) (all cores : List Core) → has_number (numbers_of cores) (number_of first.id) ≡ false → AllByRecursion (IsFound all) cores → AllByRecursion (IsFound (first ∷ all)) cores
behind first all [] apart found = tt
behind first all (core ∷ cores) apart found =
    let other = or_parts (same_core core.id first.id) _ apart in
    (rw (same_core-comm first.id core.id ∙ other.0) found.0, behind first all cores other.1 found.1)

pub each-found : (cores : List Core) → are_numbers_distinct (numbers_of cores) ≡ true → AllByRecursion (IsFound cores) cores
each-found [] distinct = tt
each-found (core ∷ cores) distinct =
    let apart = and_parts (not (has_number (numbers_of cores) (number_of core.id))) _ distinct in
    (rw (same_core-refl core.id) refl, behind core cores cores (not-true _ apart.0) (each-found cores apart.1))
