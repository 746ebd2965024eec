-- The acts of each service are allowed: they name the runner or the task alone, and ask no core.
use Rattle.std.proofs.Common.{ℕ, Option, Some, None, IfSome, refl}
use Rattle.osbase.specs.declared.statuses.ServiceId.TheVariants as Service
use Rattle.osbase.specs.{declared.statuses.Status.TheVariants.EOk, declared.references.Runner.Runner, declared.histories.HeldResource.HeldResource, Objects.task_object}
use Rattle.oscript.specs.declared.Op.{Op}
use Rattle.osstate.specs.Readings.{resource_of}
use Rattle.osacts.specs.Acts.{Acts, both}
use Rattle.osservice.specs.{Named.own_of, Returning.returns}
use Rattle.osservice.proofs.Kept.{AreAllowed, IsNamed, Leave, answers-ok, returns-ok, serves_own-ok}
use Rattle.osservice_tasks.specs.Events.{begins_to_wait, clearing_checks, clears, clears_and_returns, goes_on_or_waits, reading, waiting_checks}
use Rattle.osservice_tasks.specs.Resources.{gives, giving_checks, takes, taking_checks}
use Rattle.osservice_tasks.specs.Tasks.{ends, ends_without_terminate, task_acts, task_checks}

module _ (l : Leave) where
  abbrev Allowed : Acts → Type 0
  Allowed = AreAllowed l

  -- ---- of a runner

  pub ends-ok : (r : Runner) → IsNamed l r → Allowed (ends r)
  ends-ok (Runner.Task t) n = ((n, tt), (n, tt))
  ends-ok (Runner.Isr i) n = (n, tt)

  pub ends_without_terminate-ok : (r : Runner) → IsNamed l r → Allowed (ends_without_terminate r)
  ends_without_terminate-ok (Runner.Task t) n = ((refl, tt), ends-ok (Runner.Task t) n)
  ends_without_terminate-ok (Runner.Isr i) n = ((λ s seen. (λ o. (refl, tt), λ o. tt)), ends-ok (Runner.Isr i) n)

  clears-ok : (r : Runner) (mask : ℕ) → IsNamed l r → Allowed (clears r mask)
  clears-ok (Runner.Task t) mask n = (n, tt)
  clears-ok (Runner.Isr i) mask n = tt

  begins_to_wait-ok : (r : Runner) (mask : ℕ) → IsNamed l r → Allowed (begins_to_wait r mask)
  begins_to_wait-ok (Runner.Task t) mask n = ((n, tt), ((n, tt), (refl, tt)))
  begins_to_wait-ok (Runner.Isr i) mask n = tt

  takes-ok : (r : Runner) (x : Option HeldResource) → Allowed (takes r x)
  takes-ok r None = tt
  takes-ok r (Some x) = (refl, tt)

  gives-ok : (r : Runner) (x : Option HeldResource) → Allowed (gives r x)
  gives-ok r None = tt
  gives-ok r (Some x) = (refl, tt)

  -- ---- the table

  pub task_acts-ok : (r : Runner) (op : Op) → IsNamed l r → IfSome (task_acts r op) Allowed
  task_acts-ok r Op.TerminateTask n = λ s seen. answers-ok l r Service.TerminateTask (task_checks s r) (ends r) n (λ e. ends-ok r n)
  task_acts-ok r Op.Schedule n = λ s seen. answers-ok l r Service.Schedule (task_checks s r) (returns r Service.Schedule EOk None) n (λ e. returns-ok l r Service.Schedule EOk None n)
  task_acts-ok r (Op.GetResource target) n = λ s seen.
      answers-ok l r Service.GetResource (taking_checks s r (resource_of s.core target)) (both (takes r (resource_of s.core target)) (returns r Service.GetResource EOk None)) n
      (λ e. (takes-ok r (resource_of s.core target), returns-ok l r Service.GetResource EOk None n))
  task_acts-ok r (Op.ReleaseResource target) n = λ s seen.
      answers-ok l r Service.ReleaseResource (giving_checks s r (resource_of s.core target)) (both (gives r (resource_of s.core target)) (returns r Service.ReleaseResource EOk None)) n
      (λ e. (gives-ok r (resource_of s.core target), returns-ok l r Service.ReleaseResource EOk None n))
  task_acts-ok r (Op.ClearEvent mask) n = λ s seen.
      answers-ok l r Service.ClearEvent (clearing_checks s r) (clears_and_returns r mask) n (λ e. (clears-ok r mask n, returns-ok l r Service.ClearEvent EOk None n))
  task_acts-ok r (Op.GetEvent target x) n = serves_own-ok l r Service.GetEvent reading (λ core. own_of task_object core target) n (λ t s seen. tt)
  task_acts-ok r (Op.WaitEvent mask) n = λ s seen.
      answers-ok l r Service.WaitEvent (waiting_checks s r) (goes_on_or_waits r mask) n
      (λ e t seen_then. (λ o. returns-ok l r Service.WaitEvent EOk None n, λ o. begins_to_wait-ok r mask n))
  task_acts-ok r Op.SuspendAllInterrupts n = (refl, (refl, tt))
  task_acts-ok r Op.ResumeAllInterrupts n = (refl, (refl, tt))
  task_acts-ok r op n = tt
