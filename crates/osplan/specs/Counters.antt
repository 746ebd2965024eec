-- The counters of a core, and its objects of one kind that are attached to them.
use Rattle.std.specs.Prelude.{ℕ, List, filter, length, map}
use Rattle.osbase.specs.{declared.references.CounterRef.CounterRef, Families.Family, Families.IsObjectOf, Families.goes_by, Sets.numbers_from}
use Rattle.osplan.specs.declared.plans.Core.{Core}

-- A counter of the core by its index.
abbrev pub counter_ref : Core → ℕ → CounterRef
counter_ref core index = record { core = core.id; index = index }

-- For each counter of the core, in index order: those of the references `refs` whose objects use the counter.
abbrev pub each_by : {R X : Type 0} → Core → Family R X → List R → List (List R)
each_by core f refs = map (λ (n : ℕ). filter (goes_by f (counter_ref core n)) refs) (numbers_from 0 (length core.counters))

-- `r` is the reference of index `n`, and the configuration of its object refers to `counter`, one of the core's.
abbrev pub IsObject : {R X : Type 0} → Core → Family R X → ℕ → CounterRef → R → Type 0
IsObject core f n counter r = IsObjectOf core.id (length core.counters) f n counter r
