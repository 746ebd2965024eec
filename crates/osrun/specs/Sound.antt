-- The promise about a run. It relates the reports to the configuration and the listed stimuli, and to nothing else. So
-- any way to run the cores, in turns or otherwise, can make it.
use mathlib.Core.List.{IsPrefix}
use Rattle.std.specs.Prelude.{◌≡◌, ℕ, true, if◌then◌else◌, IsTrue, Some, List, ◌∷◌, [], ◌++◌, map}
use Rattle.std.specs.List.{AllByRecursion}
use Rattle.osbase.specs.{declared.references.CoreId.CoreId, declared.items.Agreement.Agreement, declared.items.Item.Item, declared.items.Stimulus.Stimulus, declared.turns.CoreStimuli.CoreStimuli, declared.turns.Report.Report, History.History, History.course_of, History.no_cores, Phases.is_going, Runs.stimuli_of, declared.items.CoreMode.CoreMode, declared.items.CoreMode.TheVariants.Named, declared.items.CoreMode.TheVariants.DontCare}
use Rattle.osplan.specs.{declared.plans.Plan.Plan, View.View, View.view_of}
use Rattle.osseparate.specs.Separate.{cut_of, is_separate}
use Rattle.oskernel.specs.Step.{after, solo}
use Rattle.ostrace_text.specs.Trace.{block_of}
use Rattle.osboard.specs.Boards.{with_core}
use Rattle.osrun.specs.Fits.{Fits, has_drained, history_by, ids_of, items_of}
use Rattle.osrun.specs.Groups.{AreApart}
pub use Rattle.osrun.specs.Reports.{IsOwn, end_by, is_end, report_by, unclocked}

-- ---- a separate core

-- The result of the first gate for one core alone: the mode that the core names, if it names one.
abbrev pub own_agreement : CoreMode → Agreement
own_agreement (Named m) = Agreement.Mode m
own_agreement DontCare = Agreement.NoMode

-- The items by which this core alone reaches and passes both gates.
abbrev pub gate_items : Plan → CoreId → List Item
gate_items plan id = Item.Entered ∷ Item.Pass1 (own_agreement (view_of plan id).own.mode) ∷ Item.Readied ∷ Item.Pass2 (with_core id no_cores) ∷ []

-- The stimuli that a core alone takes after this history, in order: all of these, or those up to the first by which the
-- core goes down.
abbrev pub until_down : View → History → List Stimulus → List Stimulus
until_down v h [] = []
until_down v h (s ∷ stimuli) = if is_going (course_of h) then s ∷ until_down v (after v h (Item.Stim s)) stimuli else []

-- The items that a core alone takes: those of both gates, its stimuli in order up to the first by which it goes down,
-- and at last `Drained`.
-- [own]
abbrev pub alone_items : Plan → List CoreStimuli → CoreId → List Item
alone_items plan stimuli id =
    gate_items plan id
    ++ map Item.Stim (until_down (view_of (cut_of plan id) id) (history_by (cut_of plan id) id (gate_items plan id)) (stimuli_of stimuli id)) ++ Item.Drained ∷ []

-- The report of a core alone: of its `alone_items`, by the core's own configuration. [own]
abbrev pub alone_report : Plan → List CoreStimuli → CoreId → Report
alone_report plan stimuli id = report_by (cut_of plan id) id (alone_items plan stimuli id)

-- The text of `alone_report`, with the names of the core's own configuration. [own]
abbrev pub alone_block : Plan → List CoreStimuli → CoreId → List ℕ
alone_block plan stimuli id = block_of (cut_of plan id) (alone_report plan stimuli id)

-- A separate core that took these items prints a prefix of what its configuration alone prints, and all of it once it
-- has drained. This holds of the marks, and of their text, the block. If the core has ended, it has drained. Alone, it
-- can take each of the items of `alone_items` in turn. [own]
pub record IsAlone (plan : Plan) (stimuli : List CoreStimuli) (id : CoreId) (items : List Item) : Type 0 where
  pub begins : IsPrefix (report_by plan id items).marks (alone_report plan stimuli id).marks
  pub whole : has_drained items ≡ true → (report_by plan id items).marks ≡ (alone_report plan stimuli id).marks
  pub block_begins : IsPrefix (block_of plan (report_by plan id items)) (alone_block plan stimuli id)
  pub block_whole : has_drained items ≡ true → block_of plan (report_by plan id items) ≡ alone_block plan stimuli id
  pub ends : end_by items ≡ true → has_drained items ≡ true
  pub alone : solo (view_of (cut_of plan id) id) (alone_items plan stimuli id) ≡ Some (history_by (cut_of plan id) id (alone_items plan stimuli id))

-- `IsAlone` holds of each separate core of these lists.
abbrev pub ArePrintedAlone : Plan → List CoreStimuli → List (CoreId × List Item) → Type 0
ArePrintedAlone plan stimuli lists = (id : CoreId) → IsTrue (is_separate plan id) → IsAlone plan stimuli id (items_of lists id)

-- ---- all reports

-- The cores' item lists.
abbrev pub lists_in : List Report → List (CoreId × List Item)
lists_in reports = map (λ (r : Report). (r.core, r.items)) reports

-- The promise. The reports are those of the configured cores, ascending, one each. Each is the report of its own items
-- (`IsOwn`). The items fit one another, the listed stimuli and what the cores share: stimuli, mailboxes, the spinlocks
-- and the shared board each have one order that all cores' items agree with. A separate core is one that names no other
-- core's object and no spinlock, and that no other core names. It prints what its configuration alone prints. The items
-- of a group of cores on which no other core acts fit by the group's own configuration and print the same by it. [own]
pub record AreSound (plan : Plan) (stimuli : List CoreStimuli) (reports : List Report) : Type 0 where
  pub cores : map (λ (r : Report). r.core) reports ≡ ids_of plan
  pub own : AllByRecursion (IsOwn plan) reports
  pub fit : Fits plan stimuli (lists_in reports)
  pub separate : ArePrintedAlone plan stimuli (lists_in reports)
  pub groups : AreApart plan stimuli (lists_in reports)
