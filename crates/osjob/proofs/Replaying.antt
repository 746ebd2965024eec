-- A log as a file, and a replay of it.
use Rattle.std.proofs.Common.{◌≡◌, ◌≢◌, ℕ, List, Option, Result, Ok, Err, refl}
use Rattle.std.specs.Prelude.{IfErr, IsSome}
use Rattle.osbase.specs.{declared.items.Item.Item, declared.references.CoreId.CoreId, declared.turns.Report.Report}
use Rattle.osload.specs.Meaning.{config_of}
use Rattle.oslog.specs.{Logs.IsLog, declared.faults.LogFault.LogFault}
use Rattle.oslog.specs.declared.faults.LogFault.TheVariants as log
use Rattle.osplan.specs.{declared.plans.Plan.Plan, View.core_of}
use Rattle.osjob.specs.{declared.faults.Fault.Fault, declared.faults.Fault.TheVariants.ItemRefused, declared.faults.Fault.TheVariants.NoMemoryToRun, declared.faults.Fault.TheVariants.Unreadable, declared.outcomes.Outcome.Outcome, Faults.of_log, LogTexts.IsLogFault, LogTexts.IsLogOf, LogTexts.log_at, Performs.PrintsFrom, Performs.PrintsOrFaults, Performs.fails, Performs.prints}
use Rattle.osjob.specs.Replays.{EndsAt, HasNoReplay, IsReplayOutput, Replays, broken_off}
use Rattle.osjob.specs.Texts.{File, Means, text_at}
use Rattle.osjob.proofs.Printing.{written-asked}

-- A reader's fault is the fault of the file.
pub IsLogFault-read : (plan : Plan) (file : Result (List ℕ) Fault) (text : List ℕ) (read : LogFault) (fault : Fault) → Ok text ≡ file → fault ≡ of_log read
    → (◌≡◌ {A = Result (List Item) LogFault} (Err read) (Err log.BadLog) → (items : List Item) → IsLog plan text items → ⊥) → IsLogFault plan file fault
IsLogFault-read plan file text log.BadLog fault is named bad = rw (← is, named) (bad refl)
IsLogFault-read plan file text log.NoMemory fault is named bad = rw (← is, named) tt

-- A replay never ends with the fault `Unreadable`.
ends-asked : (plan : Plan) (core : CoreId) (items : List Item) (report : Report) (ending : Result Outcome Fault) → EndsAt plan core items report ending → IfErr ending (λ fault. fault ≢ Unreadable)
ends-asked plan core items report (Ok outcome) ends = tt
ends-asked plan core items report (Err (ItemRefused number)) ends = λ e. cc
ends-asked plan core items report (Err fault) ends = absurd ends

-- What a replay of a log's items prints is what a replay of the files prints.
pub replay-comes : {O : Type 0} (taken : O → Option (List ℕ)) (failed : O → ℕ) (old new : O) (plan : Plan) (core : CoreId) (items : List Item) (files : List File) (result : Result Outcome Fault) (count : ℕ)
    → Means config_of (text_at files 0) plan → IsSome (core_of plan core) → IsLogOf plan (log_at files 1) items
    → PrintsOrFaults taken failed old new (Replays plan core items) (λ fault. fault ≡ NoMemoryToRun) result
    → PrintsFrom taken failed old new (IsReplayOutput core files) (HasNoReplay core files) files count result
replay-comes taken failed old new plan core items files result count config configured said (prints text ending replays printed) = record {
  comes = prints text ending (record { plan = plan; items = items; config = config; configured = configured; log = said; replays = replays }) printed;
  asked = written-asked printed.written ending result count files (ends-asked plan core items replays.report ending replays.ends) printed.result_is;
}
replay-comes taken failed old new plan core items files result count config configured said (fails fault is none same) = record {
  comes = fails fault is (λ apart. broken_off plan items config configured said none) same;
  asked = rw is (λ e. cc);
}
