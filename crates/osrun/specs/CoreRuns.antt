-- A core of a run, by the items that it took. This says nothing of what the cores share, nor of what gives the core its
-- turns. [own]
use Rattle.std.specs.Prelude.{◌≡◌, ◌+◌, ◌<◌, ◌≤◌, ℕ, suc, Bool, true, false, Some, List, [], ◌∷◌, ◌++◌, drop, vec_len, vec_capacity}
use Rattle.osbase.specs.{declared.histories.Phase.Phase, declared.items.Item.Item, declared.items.Stimulus.Stimulus, declared.turns.CoreStimuli.CoreStimuli, declared.turns.Report.Report, Runs.stimuli_of}
use Rattle.osplan.specs.{declared.plans.Plan.Plan, View.view_of}
use Rattle.osstate.specs.Does.{Does, Tracks}
use Rattle.oskernel.specs.{declared.kernel.TheConstants.STEP_MARKS, Step.after, Step.solo}
use Rattle.osrun.specs.{declared.core_runs.CoreRun.CoreRun, Fits.history_by}

-- How many of these items are stimuli. [own]
abbrev pub stimulus_count : List Item → ℕ
stimulus_count [] = 0
stimulus_count (Item.Stim s ∷ items) = suc (stimulus_count items)
stimulus_count (item ∷ items) = stimulus_count items

-- The stimuli that are left after an item: a stimulus takes the first of them away, and any other item none.
abbrev pub left_after : Item → List Stimulus → List Stimulus
left_after (Item.Stim stimulus) stimuli = drop 1 stimuli
left_after item stimuli = stimuli

-- A core in this phase has ended.
abbrev pub is_ended_phase : Phase → Bool
is_ended_phase Phase.Ended = true
is_ended_phase p = false

-- A core's report, without clocks.
abbrev pub report_of : CoreRun → Report
report_of core_run = record {
  core = core_run.id;
  items = core_run.items.items;
  clocks = [];
  marks = core_run.marks.items;
  ended = is_ended_phase core_run.kernel.progress.phase;
}

-- There is room for one more item and for all lines that it may print.
pub record HasRoomForItem (core_run : CoreRun) : Type 0 where
  pub items : vec_len core_run.items < vec_capacity core_run.items
  pub marks : vec_len core_run.marks + STEP_MARKS ≤ vec_capacity core_run.marks

-- The core is unchanged, except for the capacity of its vectors.
pub record Keeps (old new : CoreRun) : Type 0 where
  pub id : new.id ≡ old.id
  pub plan : new.plan ≡ old.plan
  pub left : new.stimuli ≡ old.stimuli
  pub items : new.items.items ≡ old.items.items
  pub marks : new.marks.items ≡ old.marks.items
  pub kernel : new.kernel ≡ old.kernel

-- The core took this item. The item joins the core's items, and a stimulus is removed from those left. The kernel took
-- one step, which may have printed lines.
pub record Took (old new : CoreRun) (item : Item) : Type 0 where
  pub id : new.id ≡ old.id
  pub plan : new.plan ≡ old.plan
  pub left : new.stimuli.now ≡ left_after item old.stimuli.now
  pub items : new.items.items ≡ old.items.items ++ item ∷ []
  pub does : Does (λ v h. after v h item) old.kernel new.kernel old.marks.items new.marks.items

-- A core of a run of this plan. Its kernel and its lines follow from its items, each of which it could take in turn.
-- The stimuli left are those listed for the core, without those taken.
pub record IsCoreRun (plan : Plan) (stimuli : List CoreStimuli) (core_run : CoreRun) : Type 0 where
  pub planned : core_run.plan.now ≡ plan
  pub tracks : Tracks (view_of plan core_run.id) (history_by plan core_run.id core_run.items.items) [] [] core_run.kernel core_run.marks.items
  pub alone : solo (view_of plan core_run.id) core_run.items.items ≡ Some (history_by plan core_run.id core_run.items.items)
  pub left : core_run.stimuli.now ≡ drop (stimulus_count core_run.items.items) (stimuli_of stimuli core_run.id)
