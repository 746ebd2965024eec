use Rattle.std.proofs.Common.{◌≡◌, true, refl, rules, cond, Option, None, ap, ◌∙◌}
use Rattle.std.specs.List.{Contains}
use Rattle.std.proofs.lemmas.Bool.{false≢true}
use Rattle.osbase.specs.declared.references.Runner.TheVariants as Runner
use Rattle.osbase.specs.{declared.histories.Job.Job, History.oldest}
use Rattle.oscript.specs.Runners.{ended}
use Rattle.osjobs.specs.{Queue.entry_of, Ranking.is_awake_in, Jobs.is_current}
use Rattle.osjobs.proofs.Keeping.{ends, fewer-holders, if-found, there}
use Rattle.osjobs.proofs.{Stamps.ascending-less, CurrentJob.job-ended}
use Rattle.osjobs.proofs.jobs.Jobs.end.Goals as goal

pub dequeue-requires : goal.dequeue-requires
dequeue-requires g c =
    (search rules, rw c.take_oldest-job.ensures.job (if-found (λ (j : Job). is_awake_in c.self.inside.rows j ≡ true → Contains c.self.inside.ready (entry_of c.self.inside.tasks j)) (oldest (Runner.Task c.args.task) c.self.inside.jobs.items) (λ j e able. there g.row.P g.row.J _ _ _ _ c.self.invariant.queue c.self.invariant.ascending (Runner.Task c.args.task) j e able)))

pub without_free-self-inside-requires : goal.without_free-self-inside-requires
without_free-self-inside-requires g c = rw c.end.ensures (fewer-holders (Runner.Task c.args.task) ended c.self.inside.rows c.self.inside.holders c.self.invariant.holders (λ h. absurd (false≢true h)))

pub invariant_of-self : goal.invariant_of-self
invariant_of-self g c = record {
  ascending = rw c.take_oldest-job.ensures.rest (ascending-less (Runner.Task c.args.task) _ c.self.invariant.ascending);
  counted = c.take_oldest-job.ensures.counted;
  isrs_counted = c.self.invariant.isrs_counted;
  queue = rw (c.dequeue.ensures, c.take_oldest-job.ensures.rest, c.take_oldest-job.ensures.job, c.end.ensures) (ends g.row.P g.row.J _ _ _ _ c.self.invariant.queue c.self.invariant.ascending (Runner.Task c.args.task) ended refl);
  holders = c.without_free-self-inside.ensures;
  current = rw (c.left_by-self-inside.ensures, c.take_oldest-job.ensures.rest) (c.job_left-self-inside.ensures ∙ ap (λ (o : Option Job). cond (is_current c.self.inside.current (Runner.Task c.args.task)) None o) c.self.invariant.current ∙ job-ended c.args.task c.self.inside.current c.self.inside.jobs.items);
}
