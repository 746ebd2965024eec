use Rattle.std.proofs.Common.{◌≡◌, ◌<◌, ◌∙◌, ap, true, length, arith, rules, sym, subst, cond, Option, Some, None}
use Rattle.std.specs.{List.All, Option.option_or}
use Rattle.osbase.specs.declared.references.Runner.TheVariants as Runner
use Rattle.osbase.specs.{declared.histories.Job.Job, History.is_waiting}
use Rattle.osqueue.specs.Ordered.{ComesBefore}
use Rattle.oscript.specs.Runners.{Row}
use Rattle.osjobs.specs.{Jobs.Each, Jobs.JobState, Jobs.is_current, OwnTasks.is_own_task, Queue.entry_of, Ranking.is_awake_in}
use Rattle.osjobs.proofs.Keeping.{activates, behind-all, fewer-holders, if-any, length-ready}
use Rattle.osjobs.proofs.{Stamps.ascending-push, CurrentJob.job-joined}
use Rattle.osjobs.proofs.jobs.Jobs.activate.Goals as goal

pub enqueue-requires : goal.enqueue-requires
enqueue-requires g c =
    let job : Job = record { runner = Runner.Task c.args.task; stamp = c.args.stamp } in
    let own : is_own_task c.self.inside.tasks (Runner.Task c.args.task) ≡ true = subst (λ (s : JobState). is_own_task s.tasks (Runner.Task c.args.task) ≡ true) (sym c.self.view_is) c.requires.own in
    let place : length c.self.inside.jobs.items < g.row.J = subst (λ (s : JobState). length s.jobs < g.row.J) (sym c.self.view_is) c.requires.room in
    let newest : Each (λ (k : Job). k.stamp < c.args.stamp) c.self.inside.jobs.items = subst (λ (s : JobState). Each (λ (k : Job). k.stamp < c.args.stamp) s.jobs) (sym c.self.view_is) c.requires.newest in
    let few : length c.self.inside.ready < g.row.J = omega (arith, length-ready g.row.P g.row.J _ _ _ _ c.self.invariant.queue, place) in
    (search rules, (rw c.if_awake-job.ensures (if-any (λ (j : Job). length c.self.inside.ready < g.row.J) (is_awake_in c.put_events.new.self job) job few), (rw c.if_awake-job.ensures (if-any (λ (j : Job). is_own_task c.self.inside.tasks j.runner ≡ true) (is_awake_in c.put_events.new.self job) job own), (rw c.if_awake-job.ensures (if-any (λ (j : Job). All (ComesBefore (entry_of c.self.inside.tasks j)) c.self.inside.ready) (is_awake_in c.put_events.new.self job) job (behind-all g.row.P g.row.J _ _ _ _ c.self.invariant.queue job place own newest)), (c.self.invariant.queue.low, c.self.invariant.queue.narrow)))))

pub invariant_of-self : goal.invariant_of-self
invariant_of-self g c =
    let job : Job = record { runner = Runner.Task c.args.task; stamp = c.args.stamp } in
    let own : is_own_task c.self.inside.tasks (Runner.Task c.args.task) ≡ true = subst (λ (s : JobState). is_own_task s.tasks (Runner.Task c.args.task) ≡ true) (sym c.self.view_is) c.requires.own in
    let place : length c.self.inside.jobs.items < g.row.J = subst (λ (s : JobState). length s.jobs < g.row.J) (sym c.self.view_is) c.requires.room in
    let newest : Each (λ (k : Job). k.stamp < c.args.stamp) c.self.inside.jobs.items = subst (λ (s : JobState). Each (λ (k : Job). k.stamp < c.args.stamp) s.jobs) (sym c.self.view_is) c.requires.newest in
    record {
      ascending = rw c.push.ensures.jobs (ascending-push _ _ c.self.invariant.ascending newest);
      counted = c.push.ensures.counted;
      isrs_counted = c.self.invariant.isrs_counted;
      queue = rw (c.push.ensures.jobs, c.enqueue.ensures, c.if_awake-job.ensures, c.put_events.ensures) (activates g.row.P g.row.J _ _ _ _ c.self.invariant.queue job place own newest (Runner.Task c.args.task) (λ (row : Row). record row { events = c.with_none_set.result }) (ap is_waiting c.with_none_set.ensures ∙ ap is_waiting c.events-events.ensures));
      holders = rw c.put_events.ensures (fewer-holders (Runner.Task c.args.task) (λ (row : Row). record row { events = c.with_none_set.result }) c.self.inside.rows c.self.inside.holders c.self.invariant.holders (λ h. h));
      current = rw c.push.ensures.jobs (c.job_joined-self-inside.ensures ∙ ap (λ (o : Option Job). option_or o (cond (is_current c.self.inside.current job.runner) (Some job) None)) c.self.invariant.current ∙ job-joined c.self.inside.current c.self.inside.jobs.items job);
    }
