use Rattle.std.proofs.Common.{refl}
use Rattle.oscript.specs.Runners.{holding}
use Rattle.osjobs.proofs.Keeping.{keeps, raised-holders}
use Rattle.osjobs.proofs.jobs.Jobs.raise.Goals as goal

pub invariant_of-self : goal.invariant_of-self
invariant_of-self g c = record {
  ascending = c.self.invariant.ascending;
  counted = c.self.invariant.counted;
  isrs_counted = c.self.invariant.isrs_counted;
  queue = rw c.raise.ensures (keeps g.row.P g.row.J _ _ _ _ c.self.invariant.queue c.args.runner (holding c.args.resource) refl);
  holders = rw c.raise.ensures (raised-holders c.args.runner c.args.resource c.self.inside.rows c.self.inside.holders c.with_holder-self-inside.result c.self.invariant.holders c.with_holder-self-inside.ensures.here c.with_holder-self-inside.ensures.others);
  current = c.self.invariant.current;
}
