use Rattle.std.proofs.Common.{◌≡◌, true, IfSome, Option, sym, subst}
use Rattle.osbase.specs.declared.histories.Job.{Job}
use Rattle.osqueue.proofs.Bits.{changed-here, changed-others}
use Rattle.osjobs.specs.{OwnTasks.is_own_task, OwnTasks.own_tasks, Queue.IsBetter, Ranking.is_awake_in, Ranking.rank_by}
use Rattle.osjobs.proofs.Covering.{goes-on, oldest-own}
use Rattle.osjobs.proofs.priorities.best_holder.Goals as goal

pub consider-best-requires : goal.consider-best-requires
consider-best-requires c = record {
  own = subst (λ (o : Option Job). IfSome o (λ j. is_own_task (own_tasks c.args.core.now) j.runner ≡ true)) (sym c.oldest-holder.ensures) (oldest-own (own_tasks c.args.core.now) c.args.jobs.now _ c.requires.own);
  ranked = c.loop-left.invariant.ranked;
}

pub loop-left-preserved : goal.loop-left-preserved
loop-left-preserved c = record {
  ranked = c.consider-best.ensures.ranked;
  so_far = goes-on c.args.core.now c.args.rows.now c.args.raised c.args.holders c.args.jobs.now c.args._front c.loop-left.best.job c.consider-best.result.job c.loop-left.left c.unmarked-left.result c.greatest-index.result (changed-here c.loop-left.left c.unmarked-left.result c.greatest-index.result 0 c.unmarked-left.ensures.bits) (changed-others c.loop-left.left c.unmarked-left.result c.greatest-index.result 0 c.unmarked-left.ensures.bits) c.loop-left.invariant.so_far (subst (λ (o : Option Job). IsBetter (rank_by c.args.core.now c.args.rows.now c.args.raised) (is_awake_in c.args.rows.now) c.loop-left.best.job o c.consider-best.result.job) c.oldest-holder.ensures c.consider-best.ensures.better);
}
