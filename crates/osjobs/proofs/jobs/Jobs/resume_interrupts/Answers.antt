use Rattle.std.proofs.Common.{refl}
use Rattle.osbase.specs.Interrupts.{shallower}
use Rattle.oscript.specs.Runners.{Row}
use Rattle.osjobs.proofs.Keeping.{kept}
use Rattle.osjobs.proofs.jobs.Jobs.resume_interrupts.Goals as goal

pub invariant_of-self : goal.invariant_of-self
invariant_of-self g c = rw c.resume_interrupts.ensures (kept c.self.invariant c.args.runner (λ (row : Row). record row { depth = shallower row.depth }) refl (λ h. h))
