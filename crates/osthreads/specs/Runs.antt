-- What the run of one core results in, and what the runs of all cores result in together. It is about reports, the
-- calls of the board and the spinlocks, and the envelopes, and not about turns or threads. [own]
use mathlib.Core.List.{IsPrefix}
use Rattle.std.specs.Prelude.{◌≡◌, ℕ, None, List, [], ◌∷◌, map}
use Rattle.std.specs.List.{AllByRecursion}
use Rattle.osbase.specs.{declared.references.CoreId.CoreId, declared.turns.CoreStimuli.CoreStimuli, declared.turns.Report.Report, History.posted, History.received}
use Rattle.osplan.specs.{declared.plans.Plan.Plan, View.core_of, View.view_of}
use Rattle.osshared.specs.{declared.histories.Plan.Plan as SeatPlan, Histories.IsLegal, Runs.IsOneRun}
use Rattle.osboard.specs.Boards.{one_board}
use Rattle.osspin.specs.Spins.{spinlocks}
use Rattle.osrun.specs.{Requests.Calls, Requests.calls_of, Requests.no_calls, Sound.IsOwn}
use Rattle.osrun.specs.Fits.{AreAnswered, FitsCore, history_by, ids_of}
use Rattle.osworker.specs.Working.{IsFinished}

-- The report is that of its own items (`IsOwn`), and these fit what was listed for its core.
pub record IsOneCore (plan : Plan) (stimuli : List CoreStimuli) (report : Report) : Type 0 where
  pub own : IsOwn plan report
  pub fits : FitsCore plan stimuli report.core report.items

-- `IsOneCore` holds of the report. Each of its items, in order, is the result of a reply, by these calls of the board
-- and the spinlocks.
pub record IsRun (plan : Plan) (stimuli : List CoreStimuli) (report : Report) (calls : Calls) : Type 0 where
  pub alone : IsOneCore plan stimuli report
  pub answers : AreAnswered (view_of plan report.core) [] report.items calls

-- These are the calls of each report, in order: `IsRun` holds of the report and its calls.
abbrev pub AreRuns : Plan → List CoreStimuli → List Report → List Calls → Type 0
AreRuns plan stimuli [] [] = Unit {0}
AreRuns plan stimuli [] (l ∷ ls) = ⊥
AreRuns plan stimuli (r ∷ rs) [] = ⊥
AreRuns plan stimuli (r ∷ rs) (l ∷ ls) = IsRun plan stimuli r l × AreRuns plan stimuli rs ls

-- What the core of the second report received from the core of the first is a prefix of what that core posted to it.
abbrev pub IsDelivered : Plan → Report → Report → Type 0
IsDelivered plan a b = IsPrefix (received a.core (history_by plan b.core b.items)) (posted b.core (history_by plan a.core a.items))

-- `IsDelivered` holds of each two of these reports.
abbrev pub AreDelivered : Plan → List Report → Type 0
AreDelivered plan reports = AllByRecursion (λ a. AllByRecursion (IsDelivered plan a) reports) reports

-- What the board of a configuration is made with: the configured cores, and the master.
abbrev pub new_board : Plan → SeatPlan CoreId
new_board plan = record { cores = ids_of plan; about = plan.master }

-- What the spinlocks of a configuration are made with: the configured cores.
abbrev pub new_spins : Plan → SeatPlan Unit
new_spins plan = record { cores = ids_of plan; about = tt }

-- One history of the board has the board's calls of all logs, a log for each configured core, and no other calls.
abbrev pub IsOneBoard : Plan → List Calls → Type 0
IsOneBoard plan logs = IsOneRun one_board (new_board plan) (map (λ (log : Calls). log.board) logs)

-- The same of the spinlocks: one history has their calls of all logs, and no other calls.
abbrev pub AreOneSpins : Plan → List Calls → Type 0
AreOneSpins plan logs = IsOneRun spinlocks (new_spins plan) (map (λ (log : Calls). log.spins) logs)

-- Each core has ended, or its worker stalled, by the core's calls in one history of the board and one of the spinlocks.
-- Both histories are legal. They have all calls of the configured cores, also those that resulted in no item, and no
-- others.
pub record AreFinished (plan : Plan) (stimuli : List CoreStimuli) (turns : ℕ) (reports : List Report) : Type 0 where
  pub history : Calls
  pub board : IsLegal one_board plan.master history.board
  pub spins : IsLegal spinlocks tt history.spins
  pub finished : AllByRecursion (λ (r : Report). IsFinished plan stimuli turns r (calls_of r.core history)) reports
  pub others : (id : CoreId) → core_of plan id ≡ None → calls_of id history ≡ no_calls
