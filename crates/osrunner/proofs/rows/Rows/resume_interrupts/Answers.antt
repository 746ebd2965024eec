use Rattle.std.proofs.Common.{refl}
use Rattle.osrunner.proofs.Counts.{kept}
use Rattle.osrunner.proofs.rows.Rows.resume_interrupts.Goals as goal

pub invariant_of-self : goal.invariant_of-self
invariant_of-self c = rw c.resume_interrupts_at.ensures (kept _ _ c.slot.result _ c.self.invariant refl)
