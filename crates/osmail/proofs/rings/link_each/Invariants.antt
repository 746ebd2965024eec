use Rattle.std.proofs.Common.{◌≡◌, ℕ, map, take, vec_len}
use Rattle.std.specs.List.{AllByRecursion}
use Rattle.osbase.specs.declared.references.CoreId.{CoreId}
use Rattle.osmail.specs.Rings.{AreMade, core_of_end, free_at}
use Rattle.osmail.proofs.rings.link_each.Given as goal

abbrev pub invariant-loop-to : goal.invariant-loop-to
invariant-loop-to l =
    (vec_len l.ends ≡ vec_len l.initial.ends) × AreMade l.ends.items × (map core_of_end l.ends.items ≡ map core_of_end l.initial.ends.items)
    × ((i : ℕ) (d : CoreId) → free_at l.initial.ends.items i d ≡ l.fn.cap → free_at l.ends.items i d ≡ l.fn.cap)
    × AllByRecursion (λ d. free_at l.ends.items l.fn.from d ≡ l.fn.cap) (take l.to (map core_of_end l.initial.ends.items))
