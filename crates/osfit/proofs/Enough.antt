-- A kernel that is large enough for a core has room for all of it, part by part.
use Rattle.std.proofs.Common.{◌≡◌, ℕ, ◌≤◌, true, nat_le, nat_lt, Option, Some, None, IsTrue, IsSome, refl, sum_by}
use Rattle.std.specs.{List.list_all, Option.unwrap_or}
use Rattle.std.proofs.lemmas.Bool.{and_parts, false≢true, leb-true}
use Rattle.osplan.specs.{declared.plans.Core.Core, declared.plans.Resource.Resource, declared.plans.Task.Task, Objects.outbox_needed}
use Rattle.osfit.specs.Fits.{fits_in}

pub record IsLargeEnough (p j n : ℕ) (configured : Option Core) (own : Core) : Type 0 where
  pub found : IsSome configured
  pub priorities : IsTrue (list_all (λ (t : Task). nat_lt t.priority p) own.tasks)
  pub ceilings : IsTrue (list_all (λ (r : Resource). nat_lt r.ceiling p) own.resources)
  pub activations : sum_by (λ (t : Task). t.activations) own.tasks ≤ j
  pub outbox : outbox_needed own ≤ n

pub large-enough : (p j n : ℕ) (configured : Option Core) (none : Core) → fits_in p j n configured ≡ true → IsLargeEnough p j n configured (unwrap_or configured none)
large-enough p j n None none e = absurd (false≢true e)
large-enough p j n (Some core) none e =
    let outer = and_parts _ (nat_le (outbox_needed core) n) e in
    let inner = and_parts _ (nat_le (sum_by (λ (t : Task). t.activations) core.tasks) j) outer.0 in
    let first = and_parts _ (list_all (λ (r : Resource). nat_lt r.ceiling p) core.resources) inner.0 in
    record {
      found = refl;
      priorities = first.0;
      ceilings = first.1;
      activations = leb-true (sum_by (λ (t : Task). t.activations) core.tasks) j inner.1;
      outbox = leb-true (outbox_needed core) n outer.1;
    }
