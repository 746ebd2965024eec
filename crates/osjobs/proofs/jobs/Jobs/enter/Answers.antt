use Rattle.std.proofs.Common.{ap, ◌∙◌}
use Rattle.osbase.specs.declared.references.Runner.TheVariants as Runner
use Rattle.osbase.specs.History.{oldest}
use Rattle.osjobs.proofs.jobs.Jobs.enter.Goals as goal

pub invariant_of-self : goal.invariant_of-self
invariant_of-self g c = record {
  ascending = c.self.invariant.ascending;
  counted = c.self.invariant.counted;
  isrs_counted = c.self.invariant.isrs_counted;
  queue = c.self.invariant.queue;
  holders = c.self.invariant.holders;
  current = c.oldest-self-inside.ensures ∙ ap (oldest (Runner.Task c.args.task)) c.as_slice.ensures.value;
}
