use Rattle.std.proofs.Common.{sym, subst, arith}
use Rattle.osstate.specs.State.{KernelState}
use Rattle.oskernel.specs.Bounded.{IsBounded}
use Rattle.oskernel.proofs.kernel.Kernel.new.Goals as goal

pub invariant_of-result : goal.invariant_of-result
invariant_of-result g c = subst (λ (s : KernelState). IsBounded g.row.OUT s) (sym c.new.ensures) (record { outbox = c.requires.outbox; entries = omega arith })
