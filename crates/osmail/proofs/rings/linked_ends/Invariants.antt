use Rattle.std.proofs.Common.{◌≡◌, ◌<◌, ℕ, map, vec_len}
use Rattle.std.specs.List.{AllByRecursion}
use Rattle.osmail.specs.Rings.{AreMade, core_of_end, free_at}
use Rattle.osmail.proofs.rings.linked_ends.Given as goal

abbrev pub invariant-loop-from : goal.invariant-loop-from
invariant-loop-from l =
    (vec_len l.ends ≡ vec_len l.initial.ends) × AreMade l.ends.items × (map core_of_end l.ends.items ≡ l.fn.cores)
    × ((i : ℕ) → i < l.from → AllByRecursion (λ d. free_at l.ends.items i d ≡ l.fn.cap) l.fn.cores)
