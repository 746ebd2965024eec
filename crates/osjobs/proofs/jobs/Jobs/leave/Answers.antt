use Rattle.std.proofs.Common.{Option, None, cond, ap, ◌∙◌}
use Rattle.osbase.specs.declared.references.Runner.TheVariants as Runner
use Rattle.osbase.specs.declared.histories.Job.{Job}
use Rattle.osjobs.specs.Jobs.{is_current}
use Rattle.osjobs.proofs.CurrentJob.{job-left}
use Rattle.osjobs.proofs.jobs.Jobs.leave.Goals as goal

pub invariant_of-self : goal.invariant_of-self
invariant_of-self g c = record {
  ascending = c.self.invariant.ascending;
  counted = c.self.invariant.counted;
  isrs_counted = c.self.invariant.isrs_counted;
  queue = c.self.invariant.queue;
  holders = c.self.invariant.holders;
  current = rw c.left_by-self-inside.ensures (c.job_left-self-inside.ensures ∙ ap (λ (o : Option Job). cond (is_current c.self.inside.current (Runner.Task c.args.task)) None o) c.self.invariant.current ∙ job-left c.args.task c.self.inside.current c.self.inside.jobs.items);
}
