use Rattle.std.proofs.{Common.refl, lemmas.Bool.false≢true}
use Rattle.osbase.specs.declared.references.Runner.TheVariants as Runner
use Rattle.oscript.specs.Runners.{ended}
use Rattle.osjobs.proofs.Keeping.{fewer-holders, keeps}
use Rattle.osjobs.proofs.jobs.Jobs.end_isr.Goals as goal

pub invariant_of-self : goal.invariant_of-self
invariant_of-self g c = record {
  ascending = c.self.invariant.ascending;
  counted = c.self.invariant.counted;
  isrs_counted = c.take_oldest.ensures.counted;
  queue = rw c.end.ensures (keeps g.row.P g.row.J _ _ _ _ c.self.invariant.queue (Runner.Isr c.args.isr) ended refl);
  holders = rw c.end.ensures (fewer-holders (Runner.Isr c.args.isr) ended c.self.inside.rows c.self.inside.holders c.self.invariant.holders (λ h. absurd (false≢true h)));
  current = c.self.invariant.current;
}
