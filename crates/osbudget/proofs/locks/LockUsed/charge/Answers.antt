use Rattle.std.proofs.Common.{◌∙◌, map, suc, ap, subst, sym}
use Rattle.std.specs.List.{All}
use Rattle.osbudget.proofs.Wrapping.{all-more, IsFew}
use Rattle.osbudget.proofs.locks.LockUsed.charge.Goals as goal

pub returns : goal.returns
returns c = all-more c.self.inside.ticks c.self.inside.taken (subst (All IsFew) (sym c.self.view_is) c.requires) ∙ ap (map suc) c.self.view_is
