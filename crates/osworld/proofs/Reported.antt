-- The reports of a run that stands for a world are sound, and have the world's items.
use native.Mathlib.Omega.{arith}
use Rattle.std.proofs.Common.{◌≡◌, get_or, ◌<◌, ℕ, List, [], ◌∷◌, map, take, length, IsTrue, refl, ap, sym, subst, ◌∙◌}
use Rattle.std.specs.List.{All, AllByRecursion}
use Rattle.std.proofs.{lemmas.List.map-id, lemmas.List.Elements.All-map, lemmas.List.Elements.recursion_from_All, lemmas.Simd.map-map}
use Rattle.osbase.specs.{declared.references.CoreId.CoreId, declared.items.Item.Item, declared.turns.Choice.Choice, declared.turns.CoreStimuli.CoreStimuli, declared.turns.Report.Report}
use Rattle.osplan.specs.{Stimuli.AreKnown, declared.plans.Plan.Plan, Limits.is_within_limits}
use Rattle.osworld.specs.{declared.answering.Shared.Shared, Runs.AppendsAt, Runs.AreReports, Playing.IsCutShort, Playing.Plays}
use Rattle.osrun.specs.{declared.core_runs.CoreRun.CoreRun, Fits.Fits, Fits.ids_of, CoreRuns.IsCoreRun, CoreRuns.report_of}
use Rattle.osrun.specs.Sound.{IsOwn, lists_in, report_by, unclocked}
use Rattle.osworld.specs.World.{World, first_world, with_item, world}
use Rattle.osrun.proofs.{Alone.fits-alone, Grouped.fits-apart, CoreRunning.seated-own}
use Rattle.osworld.proofs.{Fitted.world_fits, Listed.Lists, Turns.turns-keep}

-- a turn does not change which cores have lists
abbrev ids : Lists → List CoreId
ids ls = map (λ (p : CoreId × List Item). p.0) ls

same-ids : (id : CoreId) (item : Item) (ls : Lists) → ids (with_item id item ls) ≡ ids ls
same-ids id item [] = refl
same-ids id item (q ∷ qs) = grind (arith, same-ids id item qs)

pub ids-world : (plan : Plan) (stimuli : List CoreStimuli) (turns : List (CoreId × Choice)) → ids (world plan stimuli turns).items ≡ ids_of plan
ids-world plan stimuli turns =
    turns-keep plan stimuli (λ (w : World). ids w.items ≡ ids_of plan) (λ w core request item p turn same. same-ids core item w.items ∙ same) (first_world plan) turns
    (map-map (λ (p : CoreId × List Item). p.0) (λ (id : CoreId). let p : CoreId × List Item = (id, []) in p) (ids_of plan) ∙ map-id (ids_of plan))

-- each seat's report says what its items say
each-own : (plan : Plan) (stimuli : List CoreStimuli) (core_runs : List CoreRun) → All (IsCoreRun plan stimuli) core_runs → AllByRecursion (IsOwn plan) (map report_of core_runs)
each-own plan stimuli core_runs seated =
    recursion_from_All (IsOwn plan) (map report_of core_runs) (All-map (IsOwn plan) report_of core_runs (λ k d within. seated-own plan stimuli (get_or core_runs k d) (seated k d within)))

-- If reports say what their items say, their items determine them, but for their clocks.
abbrev pub reports_by : Plan → List (CoreId × List Item) → List Report
reports_by plan lists = map (λ (p : CoreId × List Item). report_by plan p.0 p.1) lists

pub by-their-items : (plan : Plan) (rs : List Report) → AllByRecursion (IsOwn plan) rs → map unclocked rs ≡ reports_by plan (lists_in rs)
by-their-items plan [] own = refl
by-their-items plan (r ∷ rs) own =
    ap (λ (s : Report). s ∷ map unclocked rs) own.0 ∙ ap (λ (ss : List Report). report_by plan r.core r.items ∷ ss) (by-their-items plan rs own.1)

-- the reports after turns that were played from the first world on
pub reports-played : (plan : Plan) → IsTrue (is_within_limits plan) → (stimuli : List CoreStimuli) → AreKnown plan stimuli → (turns : List (CoreId × Choice)) (core_runs : List CoreRun) (shared : Shared) → Plays plan stimuli (world plan stimuli turns) core_runs shared → AreReports plan stimuli turns (map report_of core_runs)
reports-played plan limits stimuli known turns core_runs shared plays =
    let lists : lists_in (map report_of core_runs) ≡ (world plan stimuli turns).items = map-map (λ (r : Report). (r.core, r.items)) report_of core_runs ∙ sym plays.lists in
    let fits : Fits plan stimuli (lists_in (map report_of core_runs)) = subst (Fits plan stimuli) (sym lists) (world_fits plan stimuli turns) in
    let own : AllByRecursion (IsOwn plan) (map report_of core_runs) = each-own plan stimuli core_runs plays.seated in
    record {
      are = sym (map-map unclocked report_of core_runs) ∙ by-their-items plan (map report_of core_runs) own ∙ ap (reports_by plan) lists;
      sound = record {
        cores = sym (map-map (λ (p : CoreId × List Item). p.0) (λ (r : Report). let p : CoreId × List Item = (r.core, r.items) in p) (map report_of core_runs)) ∙ ap ids lists ∙ ids-world plan stimuli turns;
        own = own;
        fit = fits;
        separate = fits-alone plan stimuli (lists_in (map report_of core_runs)) fits limits known;
        groups = fits-apart plan stimuli (lists_in (map report_of core_runs)) fits limits;
      };
    }

-- the reports, if memory ran out before one of the turns
pub reported-cut : (plan : Plan) → IsTrue (is_within_limits plan) → (stimuli : List CoreStimuli) → AreKnown plan stimuli → (turns : List (CoreId × Choice)) (core_runs : List CoreRun) (shared : Shared) → IsCutShort plan stimuli (first_world plan) turns core_runs shared
    → (before : ℕ) × (before < length turns) × AppendsAt plan stimuli (first_world plan) turns before × AreReports plan stimuli (take before turns) (map report_of core_runs)
reported-cut plan limits stimuli known turns core_runs shared short =
    (short.before, short.within, short.with_turn, reports-played plan limits stimuli known (take short.before turns) core_runs shared short.plays)
