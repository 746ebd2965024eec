-- A core's own part of the configuration: that of the configured core of its number, or that of a core without objects.
use Rattle.std.proofs.Common.{◌≡◌, Option, Some, None, unwrap_or, refl}
use Rattle.osbase.specs.{declared.references.CoreId.CoreId, History.same_core}
use Rattle.osbase.proofs.Same.{same_core-true}
use Rattle.osplan.specs.{declared.plans.Plan.Plan, declared.plans.Core.Core, View.core_of, View.no_core, View.view_of}
use Rattle.osplan.proofs.Tests.{find-holds}

pub found-id : (plan : Plan) (id : CoreId) (core : Core) → core_of plan id ≡ Some core → core.id ≡ id
found-id plan id core found = same_core-true core.id id (find-holds (λ (c : Core). same_core c.id id) plan.cores core found)

-- What holds of the configured core and of the core without objects holds of the part that the core sees.
pub own-by : (plan : Plan) (id : CoreId) (P : Core → Type 0) → P (no_core id) → ((core : Core) → core_of plan id ≡ Some core → P core) → P (view_of plan id).own
own-by plan id P none each = by (core_of plan id) refl
  where
    by : (o : Option Core) → core_of plan id ≡ o → P (unwrap_or o (no_core id))
    by None found = none
    by (Some core) found = each core found
