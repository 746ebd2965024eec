use Rattle.std.proofs.Common.{drop, refl}
use Rattle.oscript.specs.Runners.{Row}
use Rattle.osrunner.specs.Rows.{held_in}
use Rattle.osjobs.proofs.Keeping.{dropped-fewer, fewer-holders, keeps}
use Rattle.osjobs.proofs.jobs.Jobs.lower.Goals as goal

pub without_free-self-inside-requires : goal.without_free-self-inside-requires
without_free-self-inside-requires g c = rw c.lower.ensures.rest (fewer-holders c.args.runner (λ (row : Row). record row { held = drop 1 row.held }) c.self.inside.rows c.self.inside.holders c.self.invariant.holders (dropped-fewer (held_in c.args.runner c.self.inside.rows)))

pub invariant_of-self : goal.invariant_of-self
invariant_of-self g c = record {
  ascending = c.self.invariant.ascending;
  counted = c.self.invariant.counted;
  isrs_counted = c.self.invariant.isrs_counted;
  queue = rw c.lower.ensures.rest (keeps g.row.P g.row.J _ _ _ _ c.self.invariant.queue c.args.runner (λ (row : Row). record row { held = drop 1 row.held }) refl);
  holders = c.without_free-self-inside.ensures;
  current = c.self.invariant.current;
}
