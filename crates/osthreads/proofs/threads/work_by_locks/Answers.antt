use Rattle.std.proofs.Common.{sym, ap}
use Rattle.osmail.specs.Ends.{sent_to, taken_from}
use Rattle.osthreads.specs.declared.ending.Kept.TheVariants.{Steps}
use Rattle.osthreads.proofs.Endings.{ended-by}
use Rattle.osthreads.proofs.threads.work_by_locks.Goals as goal

pub returns-clause-ended : goal.returns-clause-ended
returns-clause-ended g c =
    let w = c.core_worker-worked.ensures in
    ended-by _ _ c.args.run.now c.args.seats.board.core c.core_worker-worked.result (Steps c.into_steps-steps.result) w.worked w.core w.seats
    (ap sent_to (sym c.into_steps-steps.ensures)) (ap taken_from (sym c.into_steps-steps.ensures))
