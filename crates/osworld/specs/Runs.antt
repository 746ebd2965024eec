-- What a run of listed turns promises, and the default schedule.
use Rattle.std.specs.Prelude.{◌≡◌, ◌⊎◌, ℕ, zero, suc, ◌+◌, ◌<◌, ◌==◌, ◌||◌, Bool, false, not, if◌then◌else◌, IsTrue, List, [], ◌∷◌, ◌++◌, length, map, filter, take}
use Rattle.std.specs.List.{list_all, flat_map}
use Rattle.osbase.specs.{declared.references.CoreId.CoreId, declared.items.Item.Item, declared.turns.CoreStimuli.CoreStimuli, declared.turns.Choice.Choice, declared.turns.Choice.TheVariants.Own, declared.turns.Choice.TheVariants.Serve, declared.turns.Choice.TheVariants.Look, declared.turns.Report.Report, History.same_core, Sets.has_core}
use Rattle.osplan.specs.{declared.plans.Plan.Plan, View.view_of}
use Rattle.osstate.specs.Readings.{phase_at}
use Rattle.osworld.specs.{declared.runs.RunFault.RunFault, declared.runs.RunFault.TheVariants.NotBegun, declared.runs.RunFault.TheVariants.NoMemory}
use Rattle.osrun.specs.{Fits.history_by, Fits.ids_of, Sound.AreSound, Sound.report_by, CoreRuns.is_ended_phase}
use Rattle.osworld.specs.World.{World, board_in, first_world, is_unchanged, world, world_from}

-- ---- listed turns

-- The reports are those of the world's items after these turns, one for each configured core's list. They are sound
-- (`AreSound`).
pub record AreReports (plan : Plan) (stimuli : List CoreStimuli) (turns : List (CoreId × Choice)) (reports : List Report) : Type 0 where
  pub are : reports ≡ map (λ (p : CoreId × List Item). report_by plan p.0 p.1) (world plan stimuli turns).items
  pub sound : AreSound plan stimuli reports

-- Of these turns, played from this world on, the one at place `at` appends an item.
abbrev pub AppendsAt : Plan → List CoreStimuli → World → List (CoreId × Choice) → ℕ → Type 0
AppendsAt plan stimuli w turns at =
    is_unchanged (world_from plan stimuli w (take at turns)) (world_from plan stimuli w (take (at + 1) turns)) ≡ false

-- The fault of a run of these turns: it did not begin; or it broke off before a turn that would have appended an item,
-- and the fault has the reports of the turns before.
abbrev pub IsBrokenOff : Plan → List CoreStimuli → List (CoreId × Choice) → RunFault → Type 0
IsBrokenOff plan stimuli turns NotBegun = Unit {0}
IsBrokenOff plan stimuli turns (NoMemory reports) =
    (before : ℕ) × (before < length turns) × AppendsAt plan stimuli (first_world plan) turns before
    × AreReports plan stimuli (take before turns) reports.items

-- ---- the default schedule

-- The turns at which core `id` serves every other of these cores, in order. [own]
abbrev pub serves_of : List CoreId → CoreId → List (CoreId × Choice)
serves_of ids id = map (λ from. (id, Serve from)) (filter (λ from. not (same_core from id)) ids)

-- The turns of one core in a round: it serves every other core, does its own work, and looks at the board. [own]
abbrev pub turns_in_round : List CoreId → CoreId → List (CoreId × Choice)
turns_in_round ids id = serves_of ids id ++ (id, Own) ∷ (id, Look) ∷ []

-- One round of these cores: the turns of each core, in order. [own]
abbrev pub round_by : List CoreId → List (CoreId × Choice)
round_by ids = flat_map (turns_in_round ids) ids

-- One round of all configured cores, by ascending number.
abbrev pub round_of : Plan → List (CoreId × Choice)
round_of plan = round_by (ids_of plan)

-- The turns of this round, repeated so many times.
abbrev pub rounds : ℕ → List (CoreId × Choice) → List (CoreId × Choice)
rounds zero round = []
rounds (suc n) round = rounds n round ++ round

-- A core has ended by these items.
abbrev pub has_ended : Plan → CoreId × List Item → Bool
has_ended plan p = is_ended_phase (phase_at (view_of plan p.0) (history_by plan p.0 p.1))

-- Every started core has ended. [own]
abbrev pub is_over : Plan → World → Bool
is_over plan w = list_all (λ (p : CoreId × List Item). not (has_core (board_in plan w).view.started p.0) || has_ended plan p) w.items

-- From this world on, the default schedule has n whole rounds. Here n is the least number, 1 or more, after whose
-- rounds every started core has ended, or in whose last round nothing changed. [own]
abbrev pub is_default_from : Plan → List CoreStimuli → World → ℕ → Bool
is_default_from plan stimuli w zero = false
is_default_from plan stimuli w (suc n) =
    let next = world_from plan stimuli w (round_of plan) in
    if is_over plan next || is_unchanged w next then n == 0 else is_default_from plan stimuli next n

-- The default schedule, from the world before the first turn on, has n rounds.
abbrev pub is_default : Plan → List CoreStimuli → ℕ → Bool
is_default plan stimuli n = is_default_from plan stimuli (first_world plan) n

-- The turns of n rounds of all configured cores: those of the default schedule, if it has n rounds.
abbrev pub default_turns : Plan → ℕ → List (CoreId × Choice)
default_turns plan n = rounds n (round_of plan)

-- The default schedule has at least this many rounds.
abbrev pub HasAtLeast : Plan → List CoreStimuli → ℕ → Type 0
HasAtLeast plan stimuli rounds = (fewer : ℕ) → fewer < rounds → is_default plan stimuli fewer ≡ false

-- As `IsBrokenOff`, for the turns of the default schedule.
abbrev pub IsDefaultBrokenOff : Plan → List CoreStimuli → RunFault → Type 0
IsDefaultBrokenOff plan stimuli NotBegun = Unit {0}
IsDefaultBrokenOff plan stimuli (NoMemory reports) =
    (rounds : ℕ) × HasAtLeast plan stimuli rounds × IsBrokenOff plan stimuli (default_turns plan rounds) (NoMemory reports)

-- The reports are those of the default schedule, which has `rounds` rounds.
pub record IsDefaultRun (plan : Plan) (stimuli : List CoreStimuli) (reports : List Report) : Type 0 where
  pub rounds : ℕ
  pub least : IsTrue (is_default plan stimuli rounds)
  pub are : AreReports plan stimuli (default_turns plan rounds) reports

-- The turns are those of the default schedule.
pub record IsDefaultSchedule (plan : Plan) (stimuli : List CoreStimuli) (turns : List (CoreId × Choice)) : Type 0 where
  pub rounds : ℕ
  pub least : IsTrue (is_default plan stimuli rounds)
  pub is : turns ≡ default_turns plan rounds

-- The fault where the default schedule was not found, since its run did not begin or broke off, or could not be stored.
-- The fault's reports, if it has any, are those of the turns played.
abbrev pub HasNoSchedule : Plan → List CoreStimuli → RunFault → Type 0
HasNoSchedule plan stimuli NotBegun = Unit {0}
HasNoSchedule plan stimuli (NoMemory reports) =
    IsDefaultBrokenOff plan stimuli (NoMemory reports) ⊎ IsDefaultRun plan stimuli reports.items
