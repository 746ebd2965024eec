-- A core of a run by the items that it took.
use Rattle.std.proofs.Common.{◌≡◌, ℕ, ◌+◌, Bool, true, List, [], ◌∷◌, ◌++◌, drop, ap, ◌∙◌, arith, refl, Bor}
use Rattle.std.proofs.lemmas.List.{drop-drop}
use Rattle.osbase.specs.{declared.references.CoreId.CoreId, declared.items.Item.Item, declared.items.Stimulus.Stimulus, declared.turns.CoreStimuli.CoreStimuli, Runs.stimuli_of, declared.marks.Mark.Mark, declared.turns.Report.Report}
use Rattle.osplan.specs.{declared.plans.Plan.Plan, View.view_of}
use Rattle.osstate.specs.State.{KernelState, state_of}
use Rattle.oskernel.specs.Step.{takes, outbox_size}
use Rattle.osrun.specs.{declared.core_runs.CoreRun.CoreRun, Fits.history_by, Sound.IsOwn, Sound.report_by}
use Rattle.osrun.specs.CoreRuns.{Keeps, Took, stimulus_count, left_after, IsCoreRun, is_ended_phase, report_of}
use Rattle.osrun.proofs.{Longer.history_from-push, Longer.solo-push, Longer.stimulus_count-push, Ending.ended-by}

-- A core that took nothing is a core of this plan.
pub seated-first : (plan : Plan) (stimuli : List CoreStimuli) (core_run : CoreRun) (id : CoreId) → core_run.id ≡ id → core_run.plan.now ≡ plan → core_run.kernel ≡ state_of (view_of plan id) [] → core_run.stimuli.now ≡ stimuli_of stimuli id → core_run.items.items ≡ [] → core_run.marks.items ≡ [] → IsCoreRun plan stimuli core_run
seated-first plan stimuli core_run id is_id is_plan is_kernel is_left no_items no_marks = record {
  planned = is_plan;
  tracks = rw (is_id, no_items, no_marks) (record { stands = record { is = is_kernel; granted = refl }; added = []; behind = refl; shows = refl });
  alone = rw (is_id, no_items) refl;
  left = rw (is_id, no_items) is_left;
}

pub seated-kept : (plan : Plan) (stimuli : List CoreStimuli) (old new : CoreRun) → Keeps old new → IsCoreRun plan stimuli old → IsCoreRun plan stimuli new
seated-kept plan stimuli old new keeps seated = record {
  planned = ap (λ (p : Bor Plan). p.now) keeps.plan ∙ seated.planned;
  tracks = rw (keeps.id, keeps.items, keeps.marks, keeps.kernel) seated.tracks;
  alone = rw (keeps.id, keeps.items) seated.alone;
  left = rw (keeps.id, keeps.items, keeps.left) seated.left;
}

-- The stimuli that are left after one more item.
left-on : (item : Item) (n : ℕ) (xs : List Stimulus) → left_after item (drop n xs) ≡ drop (n + stimulus_count (item ∷ [])) xs
left-on (Item.Stim s) n xs = drop-drop 1 n xs
left-on i n xs = ap (λ (k : ℕ). drop k xs) (omega arith)

pub seated-on : (plan : Plan) (stimuli : List CoreStimuli) (old new : CoreRun) (item : Item) → IsCoreRun plan stimuli old → takes outbox_size (view_of plan old.id) (history_by plan old.id old.items.items) item ≡ true → Took old new item → IsCoreRun plan stimuli new
seated-on plan stimuli old new item seated taken took = record {
  planned = ap (λ (p : Bor Plan). p.now) took.plan ∙ seated.planned;
  tracks = rw (took.id, took.items, history_from-push (view_of plan old.id) [] old.items.items item) (took.does (view_of plan old.id) (history_by plan old.id old.items.items) [] [] seated.tracks);
  alone = rw (took.id, took.items, history_from-push (view_of plan old.id) [] old.items.items item) (solo-push (view_of plan old.id) [] old.items.items item seated.alone taken);
  left = rw (took.id, took.items, took.left, seated.left, stimulus_count-push old.items.items item) (left-on item (stimulus_count old.items.items) (stimuli_of stimuli old.id));
}

-- A core that makes room and then takes an item takes that item from where it was before.
pub took-kept : (old roomy new : CoreRun) (item : Item) → Keeps old roomy → Took roomy new item → Took old new item
took-kept old roomy new item keeps took = record {
  id = took.id ∙ keeps.id;
  plan = took.plan ∙ keeps.plan;
  left = took.left ∙ ap (λ (xs : Bor (List Stimulus)). left_after item xs.now) keeps.left;
  items = took.items ∙ ap (λ (xs : List Item). xs ++ item ∷ []) keeps.items;
  does = rw (← keeps.kernel, ← keeps.marks) took.does;
}

-- A core's report says what its items say.
pub seated-own : (plan : Plan) (stimuli : List CoreStimuli) (s : CoreRun) → IsCoreRun plan stimuli s → IsOwn plan (report_of s)
seated-own plan stimuli s here =
    ap (λ (marks : List Mark). let r : Report = record (report_of s) { marks = marks } in r) (here.tracks.behind ∙ here.tracks.shows)
    ∙ ap (λ (ended : Bool). let r : Report = record (report_by plan s.id s.items.items) { ended = ended } in r)
    (ap (λ (k : KernelState). is_ended_phase k.progress.phase) here.tracks.stands.is ∙ ended-by (view_of plan s.id) s.items.items here.alone)
