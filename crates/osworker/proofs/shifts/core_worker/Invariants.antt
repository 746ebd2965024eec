use Rattle.std.proofs.Common.{◌≡◌}
use Rattle.osworker.specs.Rounds.{IsGoing}
use Rattle.osworker.proofs.shifts.core_worker.Given as goal

abbrev pub invariant-loop : goal.invariant-loop
invariant-loop g l =
    (l.shift.worker.run.now ≡ l.run) × (l.shift.worker.core.id ≡ l.fn.seats.board.core)
    × IsGoing (g.M.Mail.sent) (g.M.Mail.taken) l.run.stimuli.now l.shift
    × (g.M.Mail.which l.shift.worker.mail ≡ g.M.Mail.which l.fn.mail)
