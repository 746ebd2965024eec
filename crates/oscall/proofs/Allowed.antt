-- Which acts a service that may cross does: it names only objects of cores that marks may name, and asks only cores
-- that may be asked. The check makes the cases of a table itself: the first clause is only there to begin them.
use Rattle.std.proofs.Common.{◌≡◌, ℤ, true, Option, Some, None, IfSome, refl}
use Rattle.std.proofs.lemmas.Bool.{and_from}
use Rattle.osbase.specs.{declared.statuses.Status.Status, declared.statuses.ServiceId.ServiceId, declared.references.CoreId.CoreId, declared.references.Runner.Runner, declared.messages.RemoteCall.RemoteCall, declared.objects.Object.Object, Answers.served}
use Rattle.oscript.specs.{declared.Op.Op, Calls.call_of_op}
use Rattle.osacts.specs.{Acts.Prints, Seen.Seen}
use Rattle.osservice.specs.{Checks.first_failing, Service.effect_of, Service.serves}
use Rattle.osservice.proofs.Called.{IsAllowed, called-passes}
use Rattle.osservice.proofs.Kept.{AreAllowed, IsNamed, IsSeen, Leave, crosses-ok, is_allowed, is_within, returns-ok, serves-ok}
use Rattle.osservice_alarms.proofs.Allowed.{absolute-ok, relative-ok}
use Rattle.oscall.specs.{Border.calls, Border.core_of_call, Border.service_of, Shutdown.core_acts, Shutdown.starting_checks, Variables.script_acts}

module _ (l : Leave) where
  pub service-ok : (call : RemoteCall) → l.names (core_of_call call) ≡ true → (s : Seen) → IsSeen l s → AreAllowed l (effect_of (service_of call s))
  service-ok (RemoteCall.SetRelAlarm a increment cycle) n s seen = relative-ok l a increment cycle s seen
  service-ok (RemoteCall.SetAbsAlarm a start cycle) n s seen = absolute-ok l a start cycle s seen
  service-ok call n s seen = (λ ok. assumption, λ failed. tt)

  pub served-ok : (from : CoreId) (call : RemoteCall) (status : Status) (value : Option ℤ) → l.names (core_of_call call) ≡ true → is_allowed l (Prints (served from call status value)) ≡ true
  served-ok from (RemoteCall.GetAlarm alarm variable) status (Some x) n = n
  served-ok from call status value n = n

  pub called-ok : (r : Runner) (op : Op) (id : ServiceId) (target : Option RemoteCall) → IsNamed l r → call_of_op op ≡ Some (id, target) → IsAllowed l.view l.may op → AreAllowed l (calls r id target)
  called-ok r op id None n is allowed = assumption
  called-ok r op id (Some call) n is allowed =
      let within = called-passes (λ (o : Object). is_within l.view l.may o.place.core) op id call is allowed.objects in
      let named = l.named (core_of_call call) within in
      assumption (crosses-ok l r id (core_of_call call) call (λ s. serves r id (service_of call s)) n named within (λ s seen. serves-ok l r id (service_of call s) n (service-ok call named s seen)))

  -- An operation that starts or counts cores asks for what all cores share; one that shuts them all down asks for that.
  pub core_acts-ok : (r : Runner) (op : Op) → IsNamed l r → IsAllowed l.view l.may op → IfSome (core_acts r op) (AreAllowed l)
  core_acts-ok r (Op.StartCore target) n allowed = (allowed.shared refl, λ all. returns-ok l r ServiceId.StartCore (first_failing (starting_checks all target)) None n)
  core_acts-ok r (Op.GetNumberOfActivatedCores x) n allowed = (allowed.shared refl, λ all. (n, (refl, tt)))
  core_acts-ok r (Op.ShutdownOs status) n allowed = (refl, (refl, tt))
  core_acts-ok r (Op.ShutdownAllCores status) n allowed = (and_from _ _ (allowed.halt refl) n, tt)
  core_acts-ok r op n allowed = tt

  pub script_acts-ok : (r : Runner) (op : Op) → IsNamed l r → IfSome (script_acts r op) (AreAllowed l)
  script_acts-ok r Op.Work n = assumption
  script_acts-ok r op n = assumption
