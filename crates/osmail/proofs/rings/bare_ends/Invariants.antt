use Rattle.std.proofs.Common.{◌≡◌, map, take}
use Rattle.std.specs.List.{AllByRecursion}
use Rattle.osmail.specs.Rings.{IsBare, core_of_end}
use Rattle.osmail.proofs.rings.bare_ends.Given as goal

abbrev pub invariant-loop-core : goal.invariant-loop-core
invariant-loop-core l = (map core_of_end l.ends.items ≡ take l.core-index l.cores) × AllByRecursion IsBare l.ends.items
