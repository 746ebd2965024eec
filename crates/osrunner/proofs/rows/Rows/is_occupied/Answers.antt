use Rattle.std.proofs.Common.{ℕ, false, List, ap, sym, ◌∙◌}
use Rattle.std.specs.List.{slice_index_or}
use Rattle.oscript.specs.Runners.{Row}
use Rattle.osrunner.specs.Rows.{is_occupied}
use Rattle.osrunner.proofs.Counts.{flagged}
use Rattle.osrunner.proofs.rows.Rows.is_occupied.Goals as goal

pub returns : goal.returns
returns c =
    ap (λ (i : ℕ). slice_index_or c.self.inside.occupied i false) c.from.ensures
    ∙ sym (flagged _ _ c.args.index c.self.invariant)
    ∙ ap (λ (all : List Row). is_occupied c.args.index all) c.self.view_is
