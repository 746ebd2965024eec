-- A configured core fits the largest kernel.
use Rattle.std.proofs.Common.{◌≡◌, ◌≤◌, true, IsTrue, Option, Some, None, IsSome, refl, arith, nat_lt, sum_by, unwrap_or}
use Rattle.std.specs.List.{list_all}
use Rattle.osbase.specs.declared.references.CoreId.{CoreId}
use Rattle.osplan.specs.{declared.plans.Plan.Plan, declared.plans.Core.Core, declared.plans.Resource.Resource, declared.plans.Task.Task, Limits.is_within_limits, Objects.outbox_needed, View.core_of, View.no_core, View.view_of}
use Rattle.oskernel.specs.Step.{outbox_size}
use Rattle.osplan.proofs.Within.{FitsKernel, core-fits}

module _ (plan : Plan) (id : CoreId) (limits : IsTrue (is_within_limits plan)) where
  view-fits : IsSome (core_of plan id) → FitsKernel (view_of plan id).own
  view-fits some = by (core_of plan id) refl some
    where
      by : (o : Option Core) → core_of plan id ≡ o → IsSome o → FitsKernel (unwrap_or o (no_core id))
      by None found some = cc
      by (Some core) found some = core-fits plan id core limits found

  pub view-priorities : IsSome (core_of plan id) → list_all (λ (t : Task). nat_lt t.priority 32) (view_of plan id).own.tasks ≡ true
  view-priorities some = (view-fits some).priorities

  pub view-ceilings : IsSome (core_of plan id) → list_all (λ (r : Resource). nat_lt r.ceiling 32) (view_of plan id).own.resources ≡ true
  view-ceilings some = (view-fits some).ceilings

  pub view-activations : IsSome (core_of plan id) → sum_by (λ (t : Task). t.activations) (view_of plan id).own.tasks ≤ 64
  view-activations some = (view-fits some).activations

  -- the outbox has places for what its alarms and tables post at once
  pub view-outbox : IsSome (core_of plan id) → outbox_needed (view_of plan id).own ≤ outbox_size
  view-outbox some = omega (arith, (view-fits some).posted)
