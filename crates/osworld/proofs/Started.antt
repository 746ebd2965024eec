-- The seats, and what the cores share, before the first turn.
use native.Mathlib.Omega.{arith}
use Rattle.std.proofs.Common.{◌≡◌, ℕ, ◌+◌, ◌*◌, ◌<◌, ◌≤◌, true, false, List, [], ◌∷◌, ◌++◌, map, drop, refl, sym, ap, ◌∙◌}
use Rattle.std.specs.{List.All, Option.option_map_or}
use Rattle.std.proofs.{lemmas.List.map-append, lemmas.List.length-replicate, lemmas.List.Elements.All-push}
use Rattle.osbase.specs.{declared.references.CoreId.CoreId, declared.messages.Letter.Letter, declared.items.Item.Item, declared.turns.CoreStimuli.CoreStimuli, declared.limits.TheConstants.CORES, History.History, History.posted, History.received_count, Runs.stimuli_of}
use Rattle.osmail.specs.Mail.{empty_mail}
use Rattle.osmail.proofs.Boxes.{box_of-empty}
use Rattle.osplan.specs.{declared.plans.Plan.Plan, View.view_of}
use Rattle.osstate.specs.State.{state_of}
use Rattle.oskernel.specs.Step.{history_from}
use Rattle.osrun.specs.{declared.core_runs.CoreRun.CoreRun, Fits.ids_of, CoreRuns.IsCoreRun}
use Rattle.osboard.specs.Boards.{first_board}
use Rattle.osspin.specs.Spins.{no_holders}
use Rattle.osworld.specs.{declared.answering.Shared.Shared, World.first_world, World.history_in, Playing.lists_of, Playing.Plays}
use Rattle.osworld.proofs.Listed.{Lists, list_of}
use Rattle.osrun.proofs.Configured.{id_at, ids_below, ids_below-push, ids_below-skip, is_there}
use Rattle.osrun.proofs.CoreRunning.{seated-first}

abbrev pub lists_below : Plan → ℕ → Lists
lists_below plan n = map (λ (id : CoreId). (id, [])) (ids_below plan n)

-- nothing was posted or received
module _ (plan : Plan) where
  pub nothing_of : (id : CoreId) (ids : List CoreId) → option_map_or (λ (p : CoreId × List Item). p.1) (list_of id (map (λ (i : CoreId). (i, [])) ids)) [] ≡ []
  nothing_of id [] = refl
  nothing_of id (i ∷ is) = grind (arith, nothing_of id is)

  pub no_history : (id : CoreId) → history_in plan (first_world plan) id ≡ []
  no_history id = ap (λ (items : List Item). history_from (view_of plan id) [] items) (nothing_of id (ids_of plan))

-- all 16 numbers were looked at
pub started-all : (plan : Plan) (stimuli : List CoreStimuli) (core_runs : List CoreRun) (n : ℕ) (shared : Shared) → All (IsCoreRun plan stimuli) core_runs → lists_of core_runs ≡ lists_below plan n → 16 ≤ n → n ≤ 16 → shared.mail ≡ empty_mail plan.cap → shared.board ≡ first_board plan.master → shared.spins ≡ no_holders → Plays plan stimuli (first_world plan) core_runs shared
started-all plan stimuli core_runs n shared seated lists low high is_mail is_board is_free = record {
  seated = seated;
  lists = let whole : n ≡ 16 = omega arith in sym (lists ∙ ap (lists_below plan) whole);
  carries = rw is_mail (record {
    cap = refl;
    places = length-replicate {A = List Letter} (CORES * CORES) [];
    boxes = λ from to a b. box_of-empty plan.cap from to a b
        ∙ sym (ap (λ (h : History). drop (received_count from h) (posted to (history_in plan (first_world plan) from))) (no_history plan to) ∙ ap (posted to) (no_history plan from));
    order = λ from to. rw (no_history plan to) (omega arith);
  });
  shown = is_board;
  held = is_free;
}

-- a configured core gets one seat more, without items; any other core gets none
pub started-push : (plan : Plan) (stimuli : List CoreStimuli) (core_runs : List CoreRun) (n : ℕ) (core_run : CoreRun) → n < 16 → is_there plan (id_at n) ≡ true → All (IsCoreRun plan stimuli) core_runs × (lists_of core_runs ≡ lists_below plan n)
    → core_run.id ≡ id_at n → core_run.plan.now ≡ plan → core_run.kernel ≡ state_of (view_of plan (id_at n)) [] → core_run.stimuli.now ≡ stimuli_of stimuli (id_at n) → core_run.items.items ≡ [] → core_run.marks.items ≡ []
    → All (IsCoreRun plan stimuli) (core_runs ++ core_run ∷ []) × (lists_of (core_runs ++ core_run ∷ []) ≡ lists_below plan (n + 1))
started-push plan stimuli core_runs n core_run lt there before is_id is_plan is_kernel is_left no_items no_marks = (
  All-push (IsCoreRun plan stimuli) core_runs core_run before.0 (seated-first plan stimuli core_run (id_at n) is_id is_plan is_kernel is_left no_items no_marks),
  map-append (λ (s : CoreRun). (s.id, s.items.items)) core_runs (core_run ∷ [])
      ∙ ap (λ (ls : Lists). ls ++ (core_run.id, core_run.items.items) ∷ []) before.1
      ∙ ap (λ (i : CoreId). lists_below plan n ++ (i, core_run.items.items) ∷ []) is_id
      ∙ ap (λ (items : List Item). lists_below plan n ++ (id_at n, items) ∷ []) no_items
      ∙ sym (ap (map (λ (id : CoreId). (id, []))) (ids_below-push plan n lt there) ∙ map-append (λ (id : CoreId). (id, [])) (ids_below plan n) (id_at n ∷ [])),
)

pub started-skip : (plan : Plan) (stimuli : List CoreStimuli) (core_runs : List CoreRun) (n : ℕ) → n < 16 → is_there plan (id_at n) ≡ false → All (IsCoreRun plan stimuli) core_runs × (lists_of core_runs ≡ lists_below plan n) → All (IsCoreRun plan stimuli) core_runs × (lists_of core_runs ≡ lists_below plan (n + 1))
started-skip plan stimuli core_runs n lt nobody before = (before.0, before.1 ∙ ap (map (λ (id : CoreId). (id, []))) (sym (ids_below-skip plan n lt nobody)))
