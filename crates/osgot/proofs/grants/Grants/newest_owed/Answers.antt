use Rattle.std.proofs.Common.{◌<◌, IfSome, Option, ap, sym, subst, ◌∙◌}
use Rattle.osbase.specs.{declared.references.SpinlockId.SpinlockId, declared.limits.TheConstants.SPINLOCKS, Spins.newest_owed}
use Rattle.osgot.proofs.Apart.{known-owed}
use Rattle.osgot.proofs.grants.Grants.newest_owed.Goals as goal

pub returns-clause-known : goal.returns-clause-known
returns-clause-known c =
    subst (λ (o : Option SpinlockId). IfSome o (λ l. l.index < SPINLOCKS)) (sym (c.first_owed.ensures ∙ ap newest_owed c.as_slice.ensures.value)) (known-owed c.self.inside.got.items c.self.invariant)
