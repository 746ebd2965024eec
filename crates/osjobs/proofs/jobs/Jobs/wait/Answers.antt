use Rattle.std.proofs.Common.{◌≡◌, ◌≤◌, true, refl, rules, ap, sym, subst, ◌∙◌}
use Rattle.std.specs.List.{Contains}
use Rattle.osbase.specs.declared.references.Runner.TheVariants as Runner
use Rattle.osbase.specs.{declared.histories.Job.Job, History.job_count, History.oldest}
use Rattle.oscript.specs.Runners.{waiting_for}
use Rattle.osjobs.specs.{Jobs.JobState, OwnTasks.is_own_task, Queue.entry_of, Ranking.is_awake_in}
use Rattle.osjobs.proofs.Keeping.{fewer-holders, if-found, there, waits}
use Rattle.osjobs.proofs.jobs.Jobs.wait.Goals as goal

pub dequeue-requires : goal.dequeue-requires
dequeue-requires g c =
    let found : c.oldest-job.result ≡ oldest (Runner.Task c.args.task) c.self.inside.jobs.items = c.oldest-job.ensures ∙ ap (oldest (Runner.Task c.args.task)) c.as_slice.ensures.value in
    (search rules, rw found (if-found (λ (j : Job). is_awake_in c.self.inside.rows j ≡ true → Contains c.self.inside.ready (entry_of c.self.inside.tasks j)) (oldest (Runner.Task c.args.task) c.self.inside.jobs.items) (λ j e able. there g.row.P g.row.J _ _ _ _ c.self.invariant.queue c.self.invariant.ascending (Runner.Task c.args.task) j e able)))

pub invariant_of-self : goal.invariant_of-self
invariant_of-self g c =
    let found : c.oldest-job.result ≡ oldest (Runner.Task c.args.task) c.self.inside.jobs.items = c.oldest-job.ensures ∙ ap (oldest (Runner.Task c.args.task)) c.as_slice.ensures.value in
    let own : is_own_task c.self.inside.tasks (Runner.Task c.args.task) ≡ true = subst (λ (s : JobState). is_own_task s.tasks (Runner.Task c.args.task) ≡ true) (sym c.self.view_is) c.requires.own in
    let single : job_count (Runner.Task c.args.task) c.self.inside.jobs.items ≤ 1 = subst (λ (s : JobState). job_count (Runner.Task c.args.task) s.jobs ≤ 1) (sym c.self.view_is) c.requires.single in
    record {
      ascending = c.self.invariant.ascending;
      counted = c.self.invariant.counted;
      isrs_counted = c.self.invariant.isrs_counted;
      queue = rw (c.dequeue.ensures, found, c.wait.ensures) (waits g.row.P g.row.J _ _ _ _ c.self.invariant.queue c.self.invariant.ascending c.args.task own single (waiting_for c.args.mask) refl);
      holders = rw c.wait.ensures (fewer-holders (Runner.Task c.args.task) (waiting_for c.args.mask) c.self.inside.rows c.self.inside.holders c.self.invariant.holders (λ h. h));
      current = c.self.invariant.current;
    }
