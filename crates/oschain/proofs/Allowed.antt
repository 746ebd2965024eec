-- Which acts ChainTask does: it names only objects of cores that marks may name, and asks only cores that may be asked.
-- The check makes the cases of a table itself: the first clause is only there to begin them.
use Rattle.std.proofs.Common.{◌≡◌, nat_lt, true, Some, IfSome}
use Rattle.std.proofs.lemmas.Bool.{and_parts}
use Rattle.osbase.specs.{declared.statuses.ServiceId.ServiceId, declared.references.Runner.Runner, declared.messages.RemoteCall.RemoteCall, declared.limits.TheConstants.CORES}
use Rattle.oscript.specs.declared.Op.{Op}
use Rattle.osservice.proofs.Called.{IsAllowed}
use Rattle.osservice.proofs.Kept.{AreAllowed, IsNamed, Leave, crosses-ok, is_within}
use Rattle.osservice_tasks.proofs.Allowed.{ends-ok}
use Rattle.oschain.specs.Chaining.{chain_acts, chains_here, chains_to}

module _ (l : Leave) where
  pub chain_acts-ok : (r : Runner) (op : Op) → IsNamed l r → IsAllowed l.view l.may op → IfSome (chain_acts r op) (AreAllowed l)
  chain_acts-ok r (Op.ChainTask (Some t)) n allowed =
      let within = (and_parts (is_within l.view l.may t.core) true allowed.objects).0 in
      let named = l.named t.core within in
      let chained : nat_lt t.core.number CORES ≡ true → AreAllowed l (chains_to r t) = crosses-ok l r ServiceId.ChainTask t.core (RemoteCall.ActivateTask t) (λ s. chains_here r t) n named within (λ s seen q at. assumption (ends-ok l r n, named)) in
      (λ task. (within, (λ known s seen. (λ free. chained known, assumption), assumption)), assumption)
  chain_acts-ok r op n allowed = assumption
