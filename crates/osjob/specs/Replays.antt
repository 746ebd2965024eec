-- What a replay prints, and how it ends. [own]
use Rattle.std.specs.Prelude.{◌≡◌, ◌≢◌, ℕ, Result, Ok, Err, List, IsSome}
use Rattle.osbase.specs.{declared.items.Item.Item, declared.references.CoreId.CoreId, declared.turns.Report.Report}
use Rattle.osload.specs.Meaning.{config_of, faults_of}
use Rattle.osplan.specs.{declared.faults.ConfFault.TheVariants.NoMemory, declared.plans.Plan.Plan, View.core_of}
use Rattle.osreplay.specs.Replays.{IsRefused, IsReplayed}
use Rattle.ostrace_text.specs.Trace.{block_of}
use Rattle.osjob.specs.LogTexts.{IsLogFault, IsLogOf, IsUnknownCore, log_at}
use Rattle.osjob.specs.Texts.{File, IsFaultOf, Means, text_at}
use Rattle.osjob.specs.{declared.faults.Fault.Fault, declared.faults.Fault.TheVariants.ItemRefused, declared.faults.Fault.TheVariants.NoMemoryToRun, declared.faults.Fault.TheVariants.Text, declared.outcomes.Outcome.Outcome, declared.outcomes.Outcome.TheVariants.Done}

-- If the core may take all the items in turn, the report is that of all of them, and the replay is done. If it may not
-- take an item, the report is that of the items before this one, and the fault has the item's number. [own]
abbrev pub EndsAt : Plan → CoreId → List Item → Report → Result Outcome Fault → Type 0
EndsAt plan core items report (Ok outcome) = IsReplayed plan core items report × (outcome ≡ Done)
EndsAt plan core items report (Err (ItemRefused number)) = IsRefused plan core items number report
EndsAt plan core items report (Err fault) = ⊥

-- What a replay of these items prints, the block of the core, and how it ends.
pub record Replays (plan : Plan) (core : CoreId) (items : List Item) (text : List ℕ) (ending : Result Outcome Fault) : Type 0 where
  pub report : Report
  pub text_is : text ≡ block_of plan report
  pub ends : EndsAt plan core items report ending

-- The files have meanings: a configuration that has the core, and a log. This is what the replay of the log prints, and
-- how it ends. [own]
pub record IsReplayOutput (core : CoreId) (files : List File) (text : List ℕ) (ending : Result Outcome Fault) : Type 0 where
  pub plan : Plan
  pub items : List Item
  pub config : Means config_of (text_at files 0) plan
  pub configured : IsSome (core_of plan core)
  pub log : IsLogOf plan (log_at files 1) items
  pub replays : Replays plan core items text ending

-- Why a replay prints nothing: the configuration has a fault, the core is not configured, the log has a fault, or
-- memory ran out in the replay. [own]
pub data IsReplayFault (core : CoreId) (files : List File) (fault : Fault) : Type 0 where
  in_config : IsFaultOf faults_of (text_at files 0) fault → IsReplayFault core files fault
  in_core : (plan : Plan) → Means config_of (text_at files 0) plan → IsUnknownCore plan core fault → IsReplayFault core files fault
  in_log : (plan : Plan) → Means config_of (text_at files 0) plan → IsSome (core_of plan core) → IsLogFault plan (log_at files 1) fault →
      IsReplayFault core files fault
  broken_off : (plan : Plan) (items : List Item) → Means config_of (text_at files 0) plan → IsSome (core_of plan core) →
      IsLogOf plan (log_at files 1) items → fault ≡ NoMemoryToRun → IsReplayFault core files fault

-- The fault of a replay that prints nothing. If memory ran out while the files were read, nothing is said about them.
abbrev pub HasNoReplay : CoreId → List File → Fault → Type 0
HasNoReplay core files fault = fault ≢ Text NoMemory → IsReplayFault core files fault
