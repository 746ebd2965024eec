-- The lock budgets of the resources that a job holds. A resource has one lock budget for all its holders, and it is a
-- fault to reach it. This is the project's own.
use Rattle.std.specs.Prelude.{ℕ, Bool, slice_get, slice_index_or}
use Rattle.std.specs.{List.list_any, Option.option_map_or}
use Rattle.osbase.specs.declared.histories.HeldResource.{HeldResource}
use Rattle.osbudget.specs.Budget.{is_reached}
use Rattle.oscript.specs.Runners.{Row}
use Rattle.osplan.specs.{declared.plans.Core.Core, declared.plans.Resource.Resource}

-- The lock budget of the core's resource of this index, in ticks; 0 is none.
abbrev pub lock_of : Core → ℕ → ℕ
lock_of core index = option_map_or (λ (r : Resource). r.lock) (slice_get core.resources index) 0

-- The oldest job of the runner with this row has reached the lock budget of a resource that it holds. The ticks count
-- since it took the resource.
abbrev pub is_overheld : Core → Row → Bool
is_overheld core row = list_any (λ (x : HeldResource). is_reached (lock_of core x.index) (slice_index_or row.lock_used x.index 0)) row.held
