use Rattle.std.proofs.Common.{refl}
use Rattle.oscript.specs.Runners.{charged}
use Rattle.osjobs.proofs.Keeping.{kept}
use Rattle.osjobs.proofs.jobs.Jobs.tick.Goals as goal

pub invariant_of-self : goal.invariant_of-self
invariant_of-self g c = rw c.charge.ensures (kept c.self.invariant c.in-Some.job.runner charged refl (λ h. h))
