-- A worker in its rounds: what its loop keeps between two turns, and what holds once it stopped. Working.antt says what
-- is promised of a worker. [own]
use Rattle.std.specs.Prelude.{◌≡◌, ◌+◌, ◌<◌, ◌≤◌, nat_lt, ℕ, zero, suc, false, None, if◌then◌else◌, List, length}
use Rattle.osbase.specs.declared.turns.CoreStimuli.{CoreStimuli}
use Rattle.osmail.specs.Ends.{Streams}
use Rattle.osrun.specs.CoreRuns.{is_ended_phase}
use Rattle.osworker.specs.{declared.turns.Stop.Stop, declared.turns.Turned.Turned, declared.turns.Turned.TheVariants.Nothing, declared.worker.Shift.Shift}
use Rattle.osworker.specs.Working.{HasNoWork, HasWorked, is_ended_by, refusal_at}

-- The number of looks by a turn at place `at` of a round. A round has a place for each other core, one for the core's
-- own work, and then one for a look. So the own turn is at the last core's place, and the look is at place `cores`.
abbrev pub loads_at : ℕ → ℕ → ℕ
loads_at cores at = if nat_lt at cores then 0 else 1

-- Where the round is after a turn that serves: at a later place, and at the latest at the core's own turn. If the turn
-- changed nothing, the core's own turn is next.
pub record IsServed (cores at : ℕ) (turned : Turned) (next : ℕ) : Type 0 where
  pub past : at < next
  pub within : next < cores
  pub all : turned ≡ Nothing → next + 1 ≡ cores

-- Where the round is after a turn at place `at`. A turn that serves goes on as `IsServed` says. The look comes after
-- the core's own turn, and the first place after the look.
pub record IsNext (cores at : ℕ) (turned : Turned) (next : ℕ) : Type 0 where
  pub served : at + 1 < cores → IsServed cores at turned next
  pub worked : at + 1 ≡ cores → next ≡ cores
  pub looked : cores ≤ at → next ≡ 0

-- How many turns ago the core's own turn was, if `at` is the next place and no turn since then changed anything. It was
-- the last turn if the look is next. Otherwise, the look came after it and, if the own turn is next and there are other
-- cores, one turn that served.
abbrev pub since_own : ℕ → ℕ → ℕ
since_own cores at = if nat_lt at cores then (if nat_lt (at + 1) cores then 2 else if nat_lt 0 at then 3 else 2) else 1

-- The number of places in this many rounds. The rounds have at most that many turns.
abbrev pub places_of : ℕ → ℕ → ℕ
places_of cores zero = 0
places_of cores (suc rounds) = places_of cores rounds + (cores + 1)

-- The number of configured cores.
abbrev pub core_count : {M : Type 0} → Shift M → ℕ
core_count shift = length shift.worker.run.now.cores.now

-- A worker between two turns, whose core has not ended. The core's calls end with at least `loads` looks without an
-- item. The last turns in a row that changed nothing are at most those of `loads` rounds and of the round that the
-- worker is in. If the core's own turn is among them, the core can do nothing alone.
pub record IsGoing {M : Type 0} (sent taken : M → Streams) (stimuli : List CoreStimuli) (shift : Shift M) : Type 0 where
  pub loads : ℕ
  pub worked : HasWorked sent taken stimuli None loads shift.worker
  pub count : shift.fruitless ≤ places_of (core_count shift) loads + shift.at
  pub place : shift.at ≤ core_count shift
  pub running : is_ended_phase shift.worker.core.kernel.progress.phase ≡ false
  pub stuck : 0 < core_count shift → since_own (core_count shift) shift.at ≤ shift.fruitless → HasNoWork shift.worker

-- A worker that stopped. Its core has ended exactly if the worker stopped for that. If the worker stalled, `loads`
-- rounds and one more have more places than turns were allowed. If, besides, more turns were allowed than there are
-- cores, the core can do nothing alone.
pub record IsStopped {M : Type 0} (sent taken : M → Streams) (stimuli : List CoreStimuli) (stop : Stop) (shift : Shift M) : Type 0 where
  pub loads : ℕ
  pub worked : HasWorked sent taken stimuli (refusal_at stop) loads shift.worker
  pub ended : is_ended_phase shift.worker.core.kernel.progress.phase ≡ is_ended_by stop
  pub stalled : stop ≡ Stop.Stalled → shift.worker.run.now.turns < places_of (core_count shift) (suc loads)
  pub stuck : stop ≡ Stop.Stalled → 0 < core_count shift → core_count shift < shift.worker.run.now.turns → HasNoWork shift.worker
