use Rattle.std.proofs.Common.{refl}
use Rattle.osthreads.specs.declared.ending.Kept.TheVariants.{Rings}
use Rattle.osthreads.proofs.Endings.{ended-by}
use Rattle.osthreads.proofs.threads.work_by_ring.Goals as goal

pub returns-clause-ended : goal.returns-clause-ended
returns-clause-ended g c =
    let w = c.core_worker-worked.ensures in
    ended-by _ _ c.args.run.now c.args.seats.board.core c.core_worker-worked.result (Rings c.core_worker-worked.result.mail) w.worked w.core w.seats refl refl
