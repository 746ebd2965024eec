-- The acts of each service are allowed: an operation that names a spinlock asks for it, and for what all cores share.
use Rattle.std.proofs.Common.{◌≡◌, true, Some, None, IfSome, List, refl}
use Rattle.std.proofs.lemmas.Bool.{and_from, and_parts}
use Rattle.osbase.specs.{declared.statuses.Status.TheVariants.EOsId, declared.statuses.ServiceId.ServiceId, declared.references.Runner.Runner, declared.references.SpinlockId.SpinlockId, declared.histories.Awaited.Awaited}
use Rattle.osbase.specs.declared.statuses.ServiceId.TheVariants as Service
use Rattle.osbase.specs.declared.histories.Awaited.TheVariants as Awaits
use Rattle.oscript.specs.declared.Op.{Op}
use Rattle.osservice.specs.Checks.{Check}
use Rattle.osacts.specs.Seen.{AllCores, Seen}
use Rattle.osservice.proofs.{Called.IsAllowed, Partners.Partner, Partners.partner_of}
use Rattle.osservice.proofs.Kept.{AreAllowed, IsNamed, Leave, answers-ok, returns-ok}
use Rattle.osservice_spins.specs.Spinlocks.{asks_spinlock, awaits, getting_checks, releasing_checks, spin_acts}

module _ (l : Leave) where
  asks-ok : (r : Runner) (service : ServiceId) (checks : AllCores → Seen → SpinlockId → List Check) (awaited : SpinlockId → Awaited) (lock : SpinlockId) → IsNamed l r → l.may Partner.Shared ≡ true → l.may (partner_of (awaited lock)) ≡ true
      → AreAllowed l (asks_spinlock r service checks awaited (Some lock))
  asks-ok r service checks awaited lock n shared may =
      (shared, λ all s seen. answers-ok l r service (checks all s lock) (awaits r (awaited lock)) n (λ ok. (and_from _ _ may n, tt)))

  pub spin_acts-ok : (r : Runner) (op : Op) → IsNamed l r → IsAllowed l.view l.may op → IfSome (spin_acts r op) (AreAllowed l)
  spin_acts-ok r (Op.GetSpinlock (Some lock)) n allowed = asks-ok r Service.GetSpinlock (getting_checks r) Awaits.Get lock n (allowed.shared refl) (and_parts _ true allowed.locks).0
  spin_acts-ok r (Op.GetSpinlock None) n allowed = returns-ok l r Service.GetSpinlock EOsId None n
  spin_acts-ok r (Op.TryToGetSpinlock (Some lock) x) n allowed = asks-ok r Service.TryToGetSpinlock (getting_checks r) Awaits.Try lock n (allowed.shared refl) (and_parts _ true allowed.locks).0
  spin_acts-ok r (Op.TryToGetSpinlock None x) n allowed = returns-ok l r Service.TryToGetSpinlock EOsId None n
  spin_acts-ok r (Op.ReleaseSpinlock (Some lock)) n allowed = asks-ok r Service.ReleaseSpinlock (releasing_checks r) Awaits.Release lock n (allowed.shared refl) (and_parts _ true allowed.locks).0
  spin_acts-ok r (Op.ReleaseSpinlock None) n allowed = returns-ok l r Service.ReleaseSpinlock EOsId None n
  spin_acts-ok r op n allowed = tt
