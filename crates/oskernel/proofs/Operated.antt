-- The acts of an operation are allowed if the objects that it names are.
use Rattle.std.proofs.Common.{◌≡◌, Option, Some, None, refl}
use Rattle.osbase.specs.{declared.references.Runner.Runner, declared.messages.RemoteCall.RemoteCall, declared.statuses.ServiceId.ServiceId, declared.statuses.Status.TheVariants.EOsDisabledint}
use Rattle.oscript.specs.{declared.Op.Op, Calls.call_of_op}
pub use Rattle.osservice.proofs.Called.{IsAllowed}
use Rattle.osservice.proofs.Kept.{AreAllowed, IsNamed, Leave, first-ok, returns-ok}
use Rattle.osservice_tasks.proofs.Allowed.{task_acts-ok}
use Rattle.osservice_alarms.proofs.Allowed.{counter_acts-ok}
use Rattle.osservice_tables.proofs.Allowed.{table_acts-ok}
use Rattle.osservice_spins.proofs.Allowed.{spin_acts-ok}
use Rattle.oschain.proofs.Allowed.{chain_acts-ok}
use Rattle.oscall.proofs.Allowed.{called-ok, core_acts-ok, script_acts-ok}
use Rattle.osexpiry.proofs.Allowed.{ActionsAllow, increment_acts-ok}
use Rattle.oskernel.specs.Operations.{operates, operates_by, operates_unless, refused_now}

pub operates-ok : (l : Leave) → ActionsAllow l.view l.may → (op : Op) (r : Runner) → IsNamed l r → IsAllowed l.view l.may op → AreAllowed l (operates r op)
operates-ok l actions op r n allowed = λ s seen. (λ ignored. (refl, tt), λ performed. unless (refused_now s r op))
  where
    by : (o : Option (ServiceId × Option RemoteCall)) → call_of_op op ≡ o → AreAllowed l (operates_by r op o)
    by None is =
        first-ok l _ _ (script_acts-ok l r op n)
        (first-ok l _ _ (task_acts-ok l r op n)
        (first-ok l _ _ (chain_acts-ok l r op n allowed)
        (first-ok l _ _ (counter_acts-ok l r op n)
        (first-ok l _ _ (increment_acts-ok l actions r op n)
        (first-ok l _ _ (table_acts-ok l r op n)
        (first-ok l _ _ (spin_acts-ok l r op n allowed)
        (first-ok l _ _ (core_acts-ok l r op n allowed) tt)))))))
    by (Some c) is = called-ok l r op c.0 c.1 n is allowed

    unless : (o : Option ServiceId) → AreAllowed l (operates_unless r o (operates_by r op (call_of_op op)))
    unless None = by (call_of_op op) refl
    unless (Some service) = returns-ok l r service EOsDisabledint None n
