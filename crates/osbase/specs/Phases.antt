-- The phases of a core in their order, from off to its end; and whether it runs.
use Rattle.std.specs.Prelude.{ℕ, ◌==◌, ◌&&◌, nat_lt, Bool, true, false}
use Rattle.osbase.specs.{declared.histories.Course.Course, declared.histories.Course.TheVariants.Going, declared.histories.Course.TheVariants.Down, declared.histories.Course.TheVariants.Halted, declared.histories.Phase.Phase}
use Rattle.osbase.specs.declared.histories.Phase.TheVariants.{Off, Boot, FirstGate, BetweenGates, SecondGate, Live, Drained, Closing, Ended}

-- The place of a phase in the order of the phases. [own]
abbrev pub place_of : Phase → ℕ
place_of Off = 0
place_of Boot = 1
place_of FirstGate = 2
place_of BetweenGates = 3
place_of SecondGate = 4
place_of Live = 5
place_of Drained = 6
place_of Closing = 7
place_of Ended = 8

-- Both phases are the same.
abbrev pub same_phase : Phase → Phase → Bool
same_phase asked p = place_of p == place_of asked

-- A core in this phase does not schedule yet.
abbrev pub is_before_live : Phase → Bool
is_before_live p = nat_lt (place_of p) (place_of Live)

-- A core in this phase is past the first gate of StartOS, and not at its end.
abbrev pub is_past_first_gate : Phase → Bool
is_past_first_gate p = nat_lt (place_of FirstGate) (place_of p) && nat_lt (place_of p) (place_of Ended)

-- A core in this phase schedules jobs, serves other cores and posts letters: it is past the second gate of StartOS, and
-- not at its end. [own]
abbrev pub is_scheduling : Phase → Bool
is_scheduling p = nat_lt (place_of SecondGate) (place_of p) && nat_lt (place_of p) (place_of Ended)

-- The core is neither down nor halted, so it schedules and serves as its phase allows. [own]
abbrev pub is_going : Course → Bool
is_going Going = true
is_going Down = false
is_going Halted = false

-- The core is down, by its own shutdown.
abbrev pub is_down : Course → Bool
is_down Going = false
is_down Down = true
is_down Halted = false

-- The course after a halt of all cores: a core that is down stays down. [own]
abbrev pub halted_from : Course → Course
halted_from Going = Halted
halted_from Down = Down
halted_from Halted = Halted
