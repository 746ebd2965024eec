-- A service on an object that a script names: it is done if the core has the object, and then it returns.
use Rattle.std.proofs.Common.{◌≡◌, ◌≤◌, ℕ, Option, Some, None, ap, sym, subst, arith, lit≤, Vec, Global}
use Rattle.std.specs.Option.{option_map}
use Rattle.osbase.specs.{declared.marks.Mark.Mark, declared.references.Runner.Runner, declared.statuses.ServiceId.ServiceId, declared.statuses.Status.TheVariants.EOsId}
use Rattle.osplan.specs.declared.plans.Core.{Core}
use Rattle.osstate.specs.{Does.service_entries, Does.service_marks, State.KernelState}
use Rattle.osacts.specs.{Acts.both, Runs.runs, Runs.says, Runs.seen_in, Seen.Seen, Steps.QuietSteps, Steps.Steps}
use Rattle.osacts.proofs.Each.{as_steps, then, unprinted}
use Rattle.osservice.specs.{declared.returning.ServiceResult.ServiceResult, Returning.returns, Service.Service, Service.answer_of, Service.carries_out, Service.returns_with, Service.serves_if, Service.serves_own}

module _ {A : Type 0} (r : Runner) (id : ServiceId) (make : A → Seen → Service) (named : Core → Option A) where
  -- The core has the object.
  pub served-found : {most : ℕ} {s done now s' : KernelState} {vec vec' : Vec Mark Global} {answer : ServiceResult} (x : A) → named s.view.own ≡ Some x → most ≤ 2 → now ≡ done → answer ≡ answer_of (make x (seen_in s)) → QuietSteps most (carries_out (make x)) s done → Steps 3 2 (returns r id answer.status answer.value) now s' vec vec' → Steps service_entries service_marks (serves_own r id make named) s s' vec vec'
  served-found {most = most} {s = s} {done = done} {now = now} {s' = s'} {vec = vec} {vec' = vec'} x is few same answered quiet returned =
      let here : QuietSteps most (carries_out (make x)) s now = subst (λ (q : KernelState). QuietSteps most (carries_out (make x)) s q) (sym same) quiet in
      let there : Steps 3 2 (returns_with r id (answer_of (make x (seen_in s)))) now s' vec vec' = subst (λ (a : ServiceResult). Steps 3 2 (returns_with r id a) now s' vec vec') answered returned in
      as_steps {x = both (carries_out (make x)) (returns_with r id (answer_of (make x (seen_in s))))}
      (ap (λ (o : Option A). runs (serves_if r id (option_map (λ (y : A). make y (seen_in s)) o)) s) is)
      (ap (λ (o : Option A). says (serves_if r id (option_map (λ (y : A). make y (seen_in s)) o)) s) is)
      (omega (arith, few)) (lit≤ tt) (then (unprinted here) there)

  -- The core does not have the object.
  pub served-missing : {s now s' : KernelState} {vec vec' : Vec Mark Global} {answer : ServiceResult} → named s.view.own ≡ None → now ≡ s → answer ≡ record { status = EOsId; value = None } → Steps 3 2 (returns r id answer.status answer.value) now s' vec vec' → Steps service_entries service_marks (serves_own r id make named) s s' vec vec'
  served-missing {s = s} {now = now} {s' = s'} {vec = vec} {vec' = vec'} is same answered returned =
      let told : Steps 3 2 (returns r id EOsId None) now s' vec vec' = subst (λ (a : ServiceResult). Steps 3 2 (returns_with r id a) now s' vec vec') answered returned in
      let here : Steps 3 2 (returns r id EOsId None) s s' vec vec' = subst (λ (q : KernelState). Steps 3 2 (returns r id EOsId None) q s' vec vec') same told in
      as_steps {x = returns r id EOsId None}
      (ap (λ (o : Option A). runs (serves_if r id (option_map (λ (y : A). make y (seen_in s)) o)) s) is)
      (ap (λ (o : Option A). says (serves_if r id (option_map (λ (y : A). make y (seen_in s)) o)) s) is)
      (lit≤ tt) (lit≤ tt) here
