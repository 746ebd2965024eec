use Rattle.std.proofs.Common.{◌≡◌, ◌≤◌, true, IfNone, IfSome, Option, List, [], filter, length, ap, sym, subst, ◌∙◌}
use Rattle.osbase.specs.{declared.histories.Job.Job, History.first_greatest, History.oldest_of, declared.limits.TheConstants.TASKS}
use Rattle.osqueue.specs.{declared.ready.Ready.Ready, Ordered.IsBest}
use Rattle.osjobs.specs.Jobs.{Ascending, Each, JobState, current_among, raised_among}
use Rattle.osjobs.specs.{OwnTasks.OwnTasks, OwnTasks.is_own_task, OwnTasks.own_tasks, Priorities.raised_of, Queue.OneOf, Queue.queued, Ranking.is_awake_in, Ranking.rank_by}
use Rattle.osjobs.proofs.{Covering.raised-one, Elders.same-best}
use Rattle.osjobs.proofs.jobs.Jobs.best_task.Goals as goal

pub best_of-requires-clause-own : goal.best_of-requires-clause-own
best_of-requires-clause-own g c =
    let tasks : c.self.inside.tasks ≡ own_tasks c.args.core.now = ap (λ (s : JobState). s.tasks) c.self.view_is ∙ c.requires.tasks in
    rw c.as_slice.ensures.value (subst (λ (t : OwnTasks). Each (λ (j : Job). is_own_task t j.runner ≡ true) c.self.inside.jobs.items) tasks c.self.invariant.queue.own)

pub best_of-requires-clause-tasks : goal.best_of-requires-clause-tasks
best_of-requires-clause-tasks g c =
    let tasks : c.self.inside.tasks ≡ own_tasks c.args.core.now = ap (λ (s : JobState). s.tasks) c.self.view_is ∙ c.requires.tasks in
    subst (λ (t : OwnTasks). length t.priorities ≤ TASKS) tasks c.self.invariant.queue.within

pub best_of-requires-clause-first : goal.best_of-requires-clause-first
best_of-requires-clause-first g c =
    let tasks : c.self.inside.tasks ≡ own_tasks c.args.core.now = ap (λ (s : JobState). s.tasks) c.self.view_is ∙ c.requires.tasks in
    let queue : c.self.inside.ready ≡ queued (own_tasks c.args.core.now) (is_awake_in c.self.inside.rows) c.self.inside.jobs.items = c.self.invariant.queue.queue ∙ ap (λ (t : OwnTasks). queued t (is_awake_in c.self.inside.rows) c.self.inside.jobs.items) tasks in
    rw c.as_slice.ensures.value (subst (λ (l : List Ready). IfSome c.look_first-first.result (λ x. IsBest x l)) queue c.look_first-first.ensures.best)

pub best_of-requires-clause-none : goal.best_of-requires-clause-none
best_of-requires-clause-none g c =
    let tasks : c.self.inside.tasks ≡ own_tasks c.args.core.now = ap (λ (s : JobState). s.tasks) c.self.view_is ∙ c.requires.tasks in
    let queue : c.self.inside.ready ≡ queued (own_tasks c.args.core.now) (is_awake_in c.self.inside.rows) c.self.inside.jobs.items = c.self.invariant.queue.queue ∙ ap (λ (t : OwnTasks). queued t (is_awake_in c.self.inside.rows) c.self.inside.jobs.items) tasks in
    rw c.as_slice.ensures.value (subst (λ (l : List Ready). IfNone c.look_first-first.result (l ≡ [])) queue c.look_first-first.ensures.none)

pub best_of-requires-clause-raised : goal.best_of-requires-clause-raised
best_of-requires-clause-raised g c =
    let running : c.args.current ≡ oldest_of c.self.inside.current c.self.inside.jobs.items = c.requires.current ∙ ap current_among (sym c.self.view_is) in
    let is : c.raised_of-raised.result ≡ raised_of c.args.core.now c.self.inside.giving_way (oldest_of c.self.inside.current c.self.inside.jobs.items) = c.raised_of-raised.ensures ∙ ap (raised_of c.args.core.now c.self.inside.giving_way) running in
    rw c.as_slice.ensures.value (subst (λ (o : Option Job). IfSome o (λ j. OneOf j c.self.inside.jobs.items)) (sym is) (raised-one c.args.core.now c.self.inside.giving_way c.self.inside.current c.self.inside.jobs.items))

pub returns-clause-best : goal.returns-clause-best
returns-clause-best g c =
    let now : JobState = c.args.self.now in
    let core = c.args.core.now in
    let up : Ascending now.jobs = subst (λ (s : JobState). Ascending s.jobs) c.self.view_is c.self.invariant.ascending in
    let raised : c.raised_of-raised.result ≡ raised_among core now =
    c.raised_of-raised.ensures ∙ (ap (raised_of core c.self.inside.giving_way) c.requires.current ∙ ap (λ (s : JobState). raised_of core s.giving_way (current_among now)) c.self.view_is) in
    c.best_of.ensures.greatest
    ∙ (ap (λ (jobs : List Job). first_greatest (rank_by core c.self.inside.rows c.raised_of-raised.result) (filter (is_awake_in c.self.inside.rows) jobs)) c.as_slice.ensures.value
    ∙ (ap (λ (o : Option Job). first_greatest (rank_by core c.self.inside.rows o) (filter (is_awake_in c.self.inside.rows) c.self.inside.jobs.items)) raised
    ∙ (ap (λ (s : JobState). first_greatest (rank_by core s.rows (raised_among core now)) (filter (is_awake_in s.rows) s.jobs)) c.self.view_is
    ∙ same-best core now up)))
