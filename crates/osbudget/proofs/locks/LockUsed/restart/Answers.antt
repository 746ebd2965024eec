use Rattle.std.proofs.Common.{◌∙◌, ℕ, List, map, ap}
use Rattle.std.specs.List.{slice_set}
use Rattle.std.proofs.lemmas.List.{map-set}
use Rattle.osbudget.specs.Budget.{ticks_since}
use Rattle.osbudget.proofs.Wrapping.{none-since}
use Rattle.osbudget.proofs.locks.LockUsed.restart.Goals as goal

pub returns : goal.returns
returns c =
    map-set (ticks_since c.self.inside.ticks) c.self.inside.taken c.from.result c.self.inside.ticks
    ∙ (ap (λ (n : ℕ). slice_set (map (ticks_since c.self.inside.ticks) c.self.inside.taken) c.from.result n) (none-since c.self.inside.ticks c.self.invariant)
    ∙ (ap (λ (place : ℕ). slice_set (map (ticks_since c.self.inside.ticks) c.self.inside.taken) place 0) c.from.ensures
    ∙ ap (λ (used : List ℕ). slice_set used c.args.index 0) c.self.view_is))
