-- A core alone with the items that another run gave it. [own]
use Rattle.std.specs.Prelude.{◌≡◌, ◌<◌, ℕ, ◌+◌, false, Some, IfErr, IfOk, List, Result, length, slice_get, take}
use Rattle.osbase.specs.{declared.items.Item.Item, declared.references.CoreId.CoreId, declared.turns.Report.Report}
use Rattle.osplan.specs.{View.view_of, declared.plans.Plan.Plan}
use Rattle.oskernel.specs.Step.{outbox_size, solo, takes}
use Rattle.osrun.specs.{Fits.history_by, Sound.report_by}
use Rattle.osreplay.specs.{declared.replays.ReplayFault.ReplayFault, declared.replays.ReplayFault.TheVariants.ItemRefused, declared.replays.ReplayFault.TheVariants.NoMemory}

-- The core may take each of the items in its turn, and this is its report. [own]
pub record IsReplayed (plan : Plan) (id : CoreId) (items : List Item) (report : Report) : Type 0 where
  pub alone : solo (view_of plan id) items ≡ Some (history_by plan id items)
  pub report_is : report ≡ report_by plan id items

-- The item of this number, counted from 1, is the first that the core may not take; this is the report of the items
-- before. [own]
pub record IsRefused (plan : Plan) (id : CoreId) (items : List Item) (number : ℕ) (report : Report) : Type 0 where
  pub before : ℕ
  pub item : Item
  pub number_is : number ≡ before + 1
  pub item_is : slice_get items before ≡ Some item
  pub replayed : IsReplayed plan id (take before items) report
  pub refused : takes outbox_size (view_of plan id) (history_by plan id (take before items)) item ≡ false

-- An allocation failed before one of the items; this is the report of the items before. [own]
pub record IsCutShort (plan : Plan) (id : CoreId) (items : List Item) (report : Report) : Type 0 where
  pub before : ℕ
  pub within : before < length items
  pub replayed : IsReplayed plan id (take before items) report

-- The fault says why the core did not take all items, and has the report of those that it took.
abbrev pub IsReplayFault : Plan → CoreId → List Item → ReplayFault → Type 0
IsReplayFault plan id items (NoMemory report) = IsCutShort plan id items report
IsReplayFault plan id items (ItemRefused number report) = IsRefused plan id items number report

-- The core took all items, or the fault says why it did not. [own]
pub record IsReplayResult (plan : Plan) (id : CoreId) (items : List Item) (result : Result Report ReplayFault) : Type 0 where
  pub ok : IfOk result (IsReplayed plan id items)
  pub fault : IfErr result (IsReplayFault plan id items)
