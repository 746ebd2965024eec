use Rattle.std.proofs.Common.{refl}
use Rattle.oscript.specs.{Frames.completed, Runners.Row}
use Rattle.osjobs.proofs.Keeping.{kept}
use Rattle.osjobs.proofs.jobs.Jobs.complete.Goals as goal

pub invariant_of-self : goal.invariant_of-self
invariant_of-self g c =
    rw c.complete.ensures (kept c.self.invariant c.args.runner (λ (row : Row). record row { frame = completed c.args.script.now row.frame c.args.status c.args.value }) refl (λ h. h))
