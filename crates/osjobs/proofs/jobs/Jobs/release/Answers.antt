use Rattle.std.proofs.Common.{◌≡◌, ◌≤◌, ◌<◌, true, rules, ap, sym, subst, ◌∙◌}
use Rattle.std.specs.List.{Contains}
use Rattle.osbase.specs.declared.references.Runner.TheVariants as Runner
use Rattle.osbase.specs.{declared.histories.Job.Job, History.is_waiting, History.job_count, History.oldest}
use Rattle.oscript.specs.Runners.{Row}
use Rattle.osjobs.specs.{Jobs.Each, Jobs.JobState, OwnTasks.is_own_task, Queue.entry_of, Ranking.is_awake_in}
use Rattle.osjobs.proofs.Keeping.{behind-others, fewer-holders, if-found, own-restamped, releases, room-left, there}
use Rattle.osjobs.proofs.{Stamps.ascending-anew, CurrentJob.job-anew}
use Rattle.osjobs.proofs.jobs.Jobs.release.Goals as goal

pub dequeue-requires : goal.dequeue-requires
dequeue-requires g c =
    (search rules, rw c.stamp_anew-job.ensures.job (if-found (λ (j : Job). is_awake_in c.self.inside.rows j ≡ true → Contains c.self.inside.ready (entry_of c.self.inside.tasks j)) (oldest (Runner.Task c.args.task) c.self.inside.jobs.items) (λ j e able. there g.row.P g.row.J _ _ _ _ c.self.invariant.queue c.self.invariant.ascending (Runner.Task c.args.task) j e able)))

pub enqueue-requires : goal.enqueue-requires
enqueue-requires g c =
    let own : is_own_task c.self.inside.tasks (Runner.Task c.args.task) ≡ true = subst (λ (s : JobState). is_own_task s.tasks (Runner.Task c.args.task) ≡ true) (sym c.self.view_is) c.requires.own in
    let single : job_count (Runner.Task c.args.task) c.self.inside.jobs.items ≤ 1 = subst (λ (s : JobState). job_count (Runner.Task c.args.task) s.jobs ≤ 1) (sym c.self.view_is) c.requires.single in
    let newest : Each (λ (k : Job). k.stamp < c.args.stamp) c.self.inside.jobs.items = subst (λ (s : JobState). Each (λ (k : Job). k.stamp < c.args.stamp) s.jobs) (sym c.self.view_is) c.requires.newest in
    (search rules, (rw (c.stamped.ensures, c.dequeue.ensures, c.stamp_anew-job.ensures.job) (room-left g.row.P g.row.J _ _ _ _ c.self.invariant.queue c.self.invariant.ascending c.args.task own single c.args.stamp newest), (rw (c.stamped.ensures, c.stamp_anew-job.ensures.job) (own-restamped g.row.P g.row.J _ _ _ _ c.self.invariant.queue c.self.invariant.ascending c.args.task own single c.args.stamp newest), (rw (c.stamped.ensures, c.dequeue.ensures, c.stamp_anew-job.ensures.job) (behind-others g.row.P g.row.J _ _ _ _ c.self.invariant.queue c.self.invariant.ascending c.args.task own single c.args.stamp newest), (c.self.invariant.queue.low, c.self.invariant.queue.narrow)))))

pub invariant_of-self : goal.invariant_of-self
invariant_of-self g c =
    let own : is_own_task c.self.inside.tasks (Runner.Task c.args.task) ≡ true = subst (λ (s : JobState). is_own_task s.tasks (Runner.Task c.args.task) ≡ true) (sym c.self.view_is) c.requires.own in
    let single : job_count (Runner.Task c.args.task) c.self.inside.jobs.items ≤ 1 = subst (λ (s : JobState). job_count (Runner.Task c.args.task) s.jobs ≤ 1) (sym c.self.view_is) c.requires.single in
    let newest : Each (λ (k : Job). k.stamp < c.args.stamp) c.self.inside.jobs.items = subst (λ (s : JobState). Each (λ (k : Job). k.stamp < c.args.stamp) s.jobs) (sym c.self.view_is) c.requires.newest in
    record {
      ascending = rw c.stamp_anew-job.ensures.jobs (ascending-anew (Runner.Task c.args.task) c.args.stamp _ c.self.invariant.ascending newest);
      counted = c.stamp_anew-job.ensures.counted;
      isrs_counted = c.self.invariant.isrs_counted;
      queue = rw (c.enqueue.ensures, c.stamped.ensures, c.dequeue.ensures, c.stamp_anew-job.ensures.job, c.stamp_anew-job.ensures.jobs, c.put_events.ensures) (releases g.row.P g.row.J _ _ _ _ c.self.invariant.queue c.self.invariant.ascending c.args.task own single c.args.stamp newest (λ (row : Row). record row { events = c.with_awaited.result }) (ap is_waiting c.with_awaited.ensures));
      holders = rw c.put_events.ensures (fewer-holders (Runner.Task c.args.task) (λ (row : Row). record row { events = c.with_awaited.result }) c.self.inside.rows c.self.inside.holders c.self.invariant.holders (λ h. h));
      current = rw c.stamp_anew-job.ensures.jobs (c.job_anew-self-inside.ensures ∙ rw (c.as_slice.ensures.value, c.stamp_anew-job.ensures.jobs, c.self.invariant.current) (job-anew c.args.task c.args.stamp c.self.inside.current c.self.inside.jobs.items));
    }
