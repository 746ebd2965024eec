use Rattle.std.proofs.Common.{◌≡◌, IfNone, IfSome, Option, [], ◌∙◌, subst}
use Rattle.osqueue.specs.{declared.ready.Ready.Ready, Ordered.IsBest}
use Rattle.osjobs.specs.{OwnTasks.own_tasks, Queue.queued, Ranking.is_awake_in}
use Rattle.osjobs.proofs.Covering.{begins, ends, front-able, front-low, front-older, front-one, none-best, own-one, owned}
use Rattle.osjobs.proofs.Configured.{own-runner}
use Rattle.osjobs.proofs.priorities.best_of.Goals as goal

pub returns-in_err-front-clause-greatest : goal.returns-in_err-front-clause-greatest
returns-in_err-front-clause-greatest c =
    let none : queued (own_tasks c.args.core.now) (is_awake_in c.args.rows.now) c.args.jobs.now ≡ [] = subst (λ (o : Option Ready). IfNone o (queued (own_tasks c.args.core.now) (is_awake_in c.args.rows.now) c.args.jobs.now ≡ [])) c.in_err-front.was c.requires.none in
    c.from_residual.ensures ∙ none-best c.args.core.now c.args.rows.now c.args.raised c.args.jobs.now none

pub rank_of-priority-requires : goal.rank_of-priority-requires
rank_of-priority-requires c =
    let best : IsBest c.in_ok-front.field-0 (queued (own_tasks c.args.core.now) (is_awake_in c.args.rows.now) c.args.jobs.now) = subst (λ (o : Option Ready). IfSome o (λ x. IsBest x (queued (own_tasks c.args.core.now) (is_awake_in c.args.rows.now) c.args.jobs.now))) c.in_ok-front.was c.requires.first in
    own-runner c.args.core.now c.in_ok-front.field-0.job.runner (own-one (own_tasks c.args.core.now) c.args.jobs.now c.in_ok-front.field-0.job c.requires.own (front-one c.args.core.now c.args.rows.now c.args.jobs.now c.in_ok-front.field-0 best))

pub consider-best-requires-clause-own : goal.consider-best-requires-clause-own
consider-best-requires-clause-own c = owned (own_tasks c.args.core.now) c.args.jobs.now c.args.raised c.requires.own c.requires.raised

pub best_holder-best-requires-clause-so_far : goal.best_holder-best-requires-clause-so_far
best_holder-best-requires-clause-so_far c =
    let best : IsBest c.in_ok-front.field-0 (queued (own_tasks c.args.core.now) (is_awake_in c.args.rows.now) c.args.jobs.now) = subst (λ (o : Option Ready). IfSome o (λ x. IsBest x (queued (own_tasks c.args.core.now) (is_awake_in c.args.rows.now) c.args.jobs.now))) c.in_ok-front.was c.requires.first in
    begins c.args.core.now c.args.rows.now c.args.raised c.args.holders c.args.jobs.now c.in_ok-front.field-0.job c.consider-best.result.job (front-one c.args.core.now c.args.rows.now c.args.jobs.now c.in_ok-front.field-0 best) (front-able c.args.core.now c.args.rows.now c.args.jobs.now c.in_ok-front.field-0 best) c.requires.raised c.consider-best.ensures.better

pub returns-clause-greatest : goal.returns-clause-greatest
returns-clause-greatest c =
    let best : IsBest c.in_ok-front.field-0 (queued (own_tasks c.args.core.now) (is_awake_in c.args.rows.now) c.args.jobs.now) = subst (λ (o : Option Ready). IfSome o (λ x. IsBest x (queued (own_tasks c.args.core.now) (is_awake_in c.args.rows.now) c.args.jobs.now))) c.in_ok-front.was c.requires.first in
    ends c.args.core.now c.args.rows.now c.args.raised c.args.holders c.args.jobs.now c.in_ok-front.field-0.job c.best_holder-best.result.job c.requires.ascending c.requires.own c.requires.tasks c.requires.holders c.best_holder-best.ensures c.requires.raised (front-low c.args.core.now c.args.rows.now c.args.jobs.now c.in_ok-front.field-0 best) (front-older c.args.core.now c.args.rows.now c.args.jobs.now c.in_ok-front.field-0 best)

pub returns-clause-own : goal.returns-clause-own
returns-clause-own c =
    own-runner c.args.core.now c.best_holder-best.result.job.runner (own-one (own_tasks c.args.core.now) c.args.jobs.now c.best_holder-best.result.job c.requires.own c.best_holder-best.ensures.one)
