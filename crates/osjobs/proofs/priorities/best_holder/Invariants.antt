use Rattle.std.proofs.Common.{◌≡◌}
use Rattle.osjobs.specs.{Queue.IsBestSoFar, Ranking.rank_by}
use Rattle.osjobs.proofs.priorities.best_holder.Given as goal

abbrev pub invariant-loop-left : goal.invariant-loop-left
invariant-loop-left l = record {
  ranked : l.best.priority ≡ rank_by l.core l.rows l.raised l.best.job;
  so_far : IsBestSoFar l.core l.rows l.raised l.fn.holders l.jobs l.fn._front l.best.job l.left;
}

abbrev pub decreases-loop-left : goal.decreases-loop-left
decreases-loop-left l = l.left
