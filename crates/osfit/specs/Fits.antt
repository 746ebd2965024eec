-- Whether a kernel is large enough for a core.
use Rattle.std.specs.Prelude.{ℕ, ◌&&◌, nat_le, nat_lt, Bool, false, Option, sum_by}
use Rattle.std.specs.{List.list_all, Option.option_map_or}
use Rattle.osplan.specs.{declared.plans.Core.Core, declared.plans.Resource.Resource, declared.plans.Task.Task, Objects.outbox_needed}

-- The core's priorities and ceilings are below the bound `priorities`. There is room for as many jobs as its tasks may
-- have at once, and for as many letters as its outbox needs. [own]
abbrev pub fits_core : ℕ → ℕ → ℕ → Core → Bool
fits_core priorities jobs places core =
    list_all (λ (t : Task). nat_lt t.priority priorities) core.tasks
    && list_all (λ (r : Resource). nat_lt r.ceiling priorities) core.resources
    && nat_le (sum_by (λ (t : Task). t.activations) core.tasks) jobs
    && nat_le (outbox_needed core) places

-- There is a core, and it fits into a kernel of this size. A core that is not configured fits nowhere.
abbrev pub fits_in : ℕ → ℕ → ℕ → Option Core → Bool
fits_in priorities jobs places core = option_map_or (fits_core priorities jobs places) core false
