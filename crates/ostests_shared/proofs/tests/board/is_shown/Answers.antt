use Rattle.std.proofs.Common.{inl, refl}
use Rattle.osshared.proofs.Thins.{unlogged}
use Rattle.osboard.specs.Boards.{IsLook}
use Rattle.ostests_shared.proofs.tests.board.is_shown.Goals as goal

pub returns-clause-log : goal.returns-clause-log
returns-clause-log c log t = unlogged IsLook _ _ _ _ _ t (inl refl) c.look-view.ensures.mine refl
