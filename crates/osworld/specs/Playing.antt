-- What a listed run holds in memory for a world. A reader of what a run promises needs none of this. [own]
use Rattle.std.specs.Prelude.{◌≡◌, ℕ, ◌*◌, ◌<◌, ◌≤◌, Bool, not, IsTrue, Some, List, length, drop, take, map, position}
use Rattle.std.specs.List.{All}
use Rattle.osbase.specs.{declared.references.CoreId.CoreId, declared.messages.Letter.Letter, declared.items.Item.Item, declared.turns.Choice.Choice, declared.turns.CoreStimuli.CoreStimuli, declared.limits.TheConstants.CORES, History.posted, History.received_count, History.same_core}
use Rattle.osmail.specs.Mail.{Mail, box_of}
use Rattle.osplan.specs.declared.plans.Plan.{Plan}
use Rattle.osrun.specs.{declared.core_runs.CoreRun.CoreRun, CoreRuns.IsCoreRun}
use Rattle.osworld.specs.{declared.answering.Shared.Shared, declared.worlds.World.World as Run}
use Rattle.osworld.specs.Runs.{AppendsAt, HasAtLeast, default_turns, is_default, round_of}
use Rattle.osworld.specs.World.{World, board_in, first_world, history_in, holders_in, is_unchanged, world, world_from}

-- The item list of each of these cores.
abbrev pub lists_of : List CoreRun → List (CoreId × List Item)
lists_of core_runs = map (λ (s : CoreRun). (s.id, s.items.items)) core_runs

-- What was posted from one core to another and not yet received.
abbrev pub waiting : Plan → World → CoreId → CoreId → List Letter
waiting plan w from to = drop (received_count from (history_in plan w to)) (posted to (history_in plan w from))

-- The mailboxes, one for each pair of cores, hold what was posted and not received. Each has room for as many envelopes
-- as the configuration says. No core received more than was posted to it.
pub record IsMail (plan : Plan) (w : World) (mail : Mail) : Type 0 where
  pub cap : mail.cap ≡ plan.cap
  pub places : length mail.boxes ≡ CORES * CORES
  pub boxes : (from to : CoreId) → from.number < CORES → to.number < CORES → box_of mail from to ≡ waiting plan w from to
  pub order : (from to : CoreId) → received_count from (history_in plan w to) ≤ length (posted to (history_in plan w from))

-- The cores in memory, the mailboxes, the board and the spinlocks represent this world.
pub record Plays (plan : Plan) (stimuli : List CoreStimuli) (w : World) (core_runs : List CoreRun) (shared : Shared) : Type 0 where
  pub seated : All (IsCoreRun plan stimuli) core_runs
  pub lists : w.items ≡ lists_of core_runs
  pub carries : IsMail plan w shared.mail
  pub shown : shared.board ≡ board_in plan w
  pub held : shared.spins ≡ holders_in w

-- The run in memory represents this world.
abbrev pub StandsFor : List CoreStimuli → World → Run → Type 0
StandsFor stimuli w run = Plays run.config.now stimuli w run.core_runs.items run.shared

-- The turns were played: memory represents the world after them. `changed` says whether one of them appended an item.
pub record IsPlayed (plan : Plan) (stimuli : List CoreStimuli) (w : World) (turns : List (CoreId × Choice)) (changed : Bool) (core_runs : List CoreRun) (shared : Shared) : Type 0 where
  pub plays : Plays plan stimuli (world_from plan stimuli w turns) core_runs shared
  pub tells : changed ≡ not (is_unchanged w (world_from plan stimuli w turns))

-- Memory ran out before a turn that appends an item, and the turns before it were played.
pub record IsCutShort (plan : Plan) (stimuli : List CoreStimuli) (w : World) (turns : List (CoreId × Choice)) (core_runs : List CoreRun) (shared : Shared) : Type 0 where
  pub before : ℕ
  pub within : before < length turns
  pub with_turn : AppendsAt plan stimuli w turns before
  pub plays : Plays plan stimuli (world_from plan stimuli w (take before turns)) core_runs shared

-- The run was begun, and no turn is played yet.
abbrev pub IsBegun : Plan → List CoreRun → Shared → Type 0
IsBegun plan core_runs shared = (stimuli : List CoreStimuli) × Plays plan stimuli (first_world plan) core_runs shared

-- The turns are one round of the default schedule.
abbrev pub IsRound : Plan → List (CoreId × Choice) → Type 0
IsRound plan turns = turns ≡ round_of plan

-- The default schedule was played: it has `rounds` rounds.
pub record IsDefaultPlayed (plan : Plan) (stimuli : List CoreStimuli) (rounds : ℕ) (core_runs : List CoreRun) (shared : Shared) : Type 0 where
  pub least : IsTrue (is_default plan stimuli rounds)
  pub plays : Plays plan stimuli (world plan stimuli (default_turns plan rounds)) core_runs shared

-- Memory ran out before a turn of the default schedule that appends an item, and the turns before it were played. The
-- default schedule has at least `rounds` rounds.
pub record IsDefaultCutShort (plan : Plan) (stimuli : List CoreStimuli) (core_runs : List CoreRun) (shared : Shared) : Type 0 where
  pub rounds : ℕ
  pub goes_on : HasAtLeast plan stimuli rounds
  pub cut : IsCutShort plan stimuli (first_world plan) (default_turns plan rounds) core_runs shared

-- The core is at this place of the list.
abbrev pub SitsAt : List CoreRun → CoreId → ℕ → Type 0
SitsAt core_runs core at = position (λ (s : CoreRun). same_core s.id core) core_runs ≡ Some at

-- Whatever world the old run represents, the new run represents that world after these turns. `changed` says whether
-- one of them appended an item.
abbrev pub PlaysTurns : List (CoreId × Choice) → Run → Bool → Run → Type 0
PlaysTurns turns old changed new =
    (stimuli : List CoreStimuli) (w : World) → StandsFor stimuli w old → IsPlayed old.config.now stimuli w turns changed new.core_runs.items new.shared

-- Memory ran out before one of these turns, which appends an item. Whatever world the old run represents, the new run
-- represents that world after the turns before.
abbrev pub StopsShort : List (CoreId × Choice) → Run → Run → Type 0
StopsShort turns old new =
    (stimuli : List CoreStimuli) (w : World) → StandsFor stimuli w old → IsCutShort old.config.now stimuli w turns new.core_runs.items new.shared

-- If the old run represents the world before the first turn, the new one represents the world after the default
-- schedule, which has `rounds` rounds.
abbrev pub PlaysDefault : Run → ℕ → Run → Type 0
PlaysDefault old rounds new =
    (stimuli : List CoreStimuli) → StandsFor stimuli (first_world old.config.now) old → IsDefaultPlayed old.config.now stimuli rounds new.core_runs.items new.shared

-- Memory ran out before a turn of the default schedule that appends an item. If the old run represents the world before
-- the first turn, the new run represents the world after the turns played.
abbrev pub StopsDefaultShort : Run → Run → Type 0
StopsDefaultShort old new =
    (stimuli : List CoreStimuli) → StandsFor stimuli (first_world old.config.now) old → IsDefaultCutShort old.config.now stimuli new.core_runs.items new.shared
