-- Core numbers, sets of cores, and the places of a core's tasks and ISRs.
use Rattle.std.specs.Prelude.{ℕ, zero, suc, ◌+◌, ◌&&◌, nat_lt, Bool, false, List, [], ◌∷◌, map, slice_get}
use Rattle.std.specs.Option.{option_map_or}
use Rattle.osbase.specs.{declared.references.CoreId.CoreId, declared.items.CoreSet.CoreSet, declared.references.Runner.Runner, declared.limits.TheConstants.CORES, declared.limits.TheConstants.TASKS}

-- The `count` numbers from `first` on.
abbrev pub numbers_from : ℕ → ℕ → List ℕ
numbers_from first zero = []
numbers_from first (suc count) = first ∷ numbers_from (first + 1) count

-- The numbers that a configured core may have.
abbrev pub core_ids : List CoreId
core_ids = map (λ (n : ℕ). record { number = n }) (numbers_from 0 CORES)

-- The core is in the set. A set has a flag for each core number, so no other number is in it.
abbrev pub has_core : CoreSet → CoreId → Bool
has_core cores id = nat_lt id.number CORES && option_map_or (λ (b : Bool). b) (slice_get cores.members id.number) false

-- The place of a runner among its core's tasks and ISRs: the index of a task, or `TASKS` plus the index of an ISR.
-- [own]
abbrev pub slot_of : Runner → ℕ
slot_of (Runner.Task t) = t.index
slot_of (Runner.Isr i) = TASKS + i.index
