use Rattle.std.proofs.Common.{◌≡◌}
use Rattle.osworker.specs.Working.{IsTurn, MayTurn}
use Rattle.osworker.specs.declared.turns.Turned.TheVariants.{Nothing}
use Rattle.osworker.proofs.worker.Shift.serve.Given as goal

abbrev pub invariant-loop-at : goal.invariant-loop-at
invariant-loop-at g l =
    IsTurn (g.M.Mail.sent) (g.M.Mail.taken) (g.M.Mail.which) 0 Nothing l.fn.self.worker l.self.worker × MayTurn (g.M.Mail.has_room) l.self.worker
    × (l.self.at ≡ l.fn.self.at) × (l.self.fruitless ≡ l.fn.self.fruitless)
