-- Where the items of all cores fit, a separate core prints what its configuration alone prints.
use Rattle.std.proofs.Common.{◌≡◌, ◌<◌, ℕ, true, false, not, ◌||◌, Option, Some, None, is_some, IsTrue, List, [], ◌∷◌, ◌++◌, refl, sym, ap, ◌∙◌, arith}
use Rattle.std.specs.{List.list_all, Option.option_map_or}
use Rattle.std.proofs.{lemmas.Bool.and_from, Math.Bool.or-false}
use Rattle.osbase.specs.{declared.references.CoreId.CoreId, declared.references.ModeId.ModeId, declared.items.CoreSet.CoreSet, declared.items.Item.Item, declared.marks.Mark.Mark, declared.turns.CoreStimuli.CoreStimuli, Runs.stimuli_of, Sets.core_ids, Sets.has_core, declared.items.CoreMode.CoreMode, declared.items.CoreMode.TheVariants.Named, declared.items.CoreMode.TheVariants.DontCare}
use Rattle.osbase.specs.History.{marks_of, no_cores, received, same_core}
use Rattle.osbase.proofs.Same.{same_core-true, same_core-refl}
use Rattle.osplan.specs.{declared.plans.Plan.Plan, declared.plans.Core.Core, Limits.is_within_limits, Stimuli.AreKnown}
use Rattle.osplan.proofs.{Within.limit-parts, Numbered.configured-low, Tests.all-weaker}
use Rattle.osseparate.specs.Separate.{cut_of, is_separate_core}
use Rattle.osplan.specs.View.{View, core_of, is_configured, view_of}
use Rattle.osseparate.proofs.Separating.{SeparateParts, separate-parts}
use Rattle.osstate.specs.Readings.{is_this_core}
use Rattle.osservice.proofs.Kept.{nobody}
use Rattle.osadmit.specs.Admission.{are_started_cores}
use Rattle.oskernel.specs.Step.{history_from, solo}
use Rattle.oskernel.proofs.{Carried.NamesAllow, Own.inside-items, Scripts.all_but, Scripts.other-allow, Scripts.own-allow, Stepping.alone_view}
use Rattle.ostrace_text.specs.Trace.{line_end, line_of, lines_of, title_of}
use Rattle.ostrace_text.proofs.Named.{lines-same}
use Rattle.osrun.specs.Sound.{alone_items, alone_report, ArePrintedAlone, IsAlone, own_agreement, until_down}
use Rattle.osboard.specs.Boards.{with_core}
use Rattle.osrun.specs.Requests.{Calls}
use Rattle.osrun.specs.Fits.{Fits, FitsBy, history_by, items_of}
use Rattle.osrun.proofs.Ahead.{boot_items, Goes, goes-alone, live_items, solo-alone, Taken}
use Rattle.osrun.proofs.{Beginnings.begins-all_pass, Beginnings.begins-flat_map, Drained.drained-where-ended, Mailed.is_reply, Mailed.posts-replies, Mailed.takes-no-mail, Members.only-one, Members.only-own, OwnCore.found-id, Sane.undisturbed}

-- ---- the set of one core

-- The set of this core alone.
abbrev only : CoreId → CoreSet
only id = with_core id no_cores

only-known : (v : View) → v.core.number < 16 → are_started_cores (alone_view v (v.core ∷ [])) (only v.core) ≡ true
only-known v low =
    and_from _ _ (only-own v.core low)
    (all-weaker (λ (id : CoreId). true) (λ (id : CoreId). not (has_core (only v.core) id) || is_configured (alone_view v (v.core ∷ [])) id) (λ id e. known id) core_ids refl)
  where
    known : (id : CoreId) → (not (has_core (only v.core) id) || is_configured (alone_view v (v.core ∷ [])) id) ≡ true
    known id = grind (arith, only-one v.core id, same_core-refl v.core)

-- ---- the configuration alone

module _ (plan : Plan) (stimuli : List CoreStimuli) (lists : List (CoreId × List Item)) (calls : Calls) (fits : FitsBy plan stimuli lists calls) (limits : IsTrue (is_within_limits plan)) (known : AreKnown plan stimuli) (id : CoreId) (core : Core) (found : core_of plan id ≡ Some core) (separate : is_separate_core plan core ≡ true) where
  abbrev v : View
  v = view_of plan id

  -- What the core sees alone.
  abbrev self : View
  self = alone_view v (id ∷ [])

  same : core.id ≡ id
  same = found-id plan id core found

  -- The core sees what it sees in the whole configuration, except that it is the master and that no other core exists.
  view_alone : view_of (cut_of plan id) id ≡ self
  view_alone = rw (found, same, same_core-refl id) refl

  low : id.number < 16
  low = configured-low plan id limits (ap is_some found)

  parts : SeparateParts plan core
  parts = separate-parts plan core separate

  no_start : v.own.start ≡ []
  no_start = rw found parts.no_start

  allowed : NamesAllow v nobody
  allowed = own-allow plan core id found same parts

  own_self : is_this_core v v.own.id ≡ true
  own_self = rw (found, same) (same_core-refl id)

  -- Both configurations have the same core at its number.
  core_alone : (c : CoreId) → is_this_core v c ≡ true → core_of plan c ≡ core_of (cut_of plan id) c
  core_alone c mine = rw (same_core-true c id mine) (grind (arith, found, same, same_core-refl id))

  -- The core names a mode in its configuration.
  module _ (m : ModeId) (mode : core.mode ≡ Named m) where
    in_mode : v.own.mode ≡ Named m
    in_mode = rw found mode

    -- Each other core's items show that only replies come from it. So this core takes no mail.
    replies : (from : CoreId) → same_core from id ≡ false → list_all is_reply (received from (history_by plan id (items_of lists id))) ≡ true
    replies from other =
        let spared = other-allow plan id from (rw same at parts.unnamed) parts.unhalted other in
        begins-all_pass is_reply _ _ (fits.streams from id)
        (posts-replies id (view_of plan from) (all_but id) (ap not (same_core-refl id)) spared (items_of lists from) (fits.cores from).alone)

    taken : Taken v [] (items_of lists id)
    taken = record {
      each = (fits.cores id).alone;
      no_mail = takes-no-mail v allowed (items_of lists id) [] (fits.cores id).alone (record { closed = refl; empty = refl; none_got = refl }) replies;
      calm = undisturbed plan m (rw mode at parts.agreed) parts.unhalted (limit-parts plan limits).master calls fits.board (items_of lists) (λ d. (fits.cores d).alone) fits.answers id;
    }

    abbrev items : List Item
    items = boot_items self m (only id) (stimuli_of stimuli id)

    abbrev gates_by : CoreMode → List Item
    gates_by k = Item.Entered ∷ Item.Pass1 (own_agreement k) ∷ Item.Readied ∷ Item.Pass2 (only id) ∷ []

    abbrev items_by : View → CoreMode → List Item
    items_by view k = gates_by k ++ live_items (until_down view (history_from view [] (gates_by k)) (stimuli_of stimuli id))

    items_alone : alone_items plan stimuli id ≡ items
    items_alone = ap (λ (view : View). items_by view v.own.mode) view_alone ∙ ap (items_by self) in_mode

    goes : Goes v self [] [] (items_of lists id) items
    goes = goes-alone v (id ∷ []) allowed m in_mode no_start (only id) (only-own id low) (items_of lists id) (stimuli_of stimuli id) taken ((fits.cores id).begins, (fits.cores id).drains)

    takes_alone : solo self items ≡ Some (history_from self [] items)
    takes_alone =
        let few = known.few id in
        solo-alone v (id ∷ []) allowed m in_mode no_start (only id) (only-own id low) (only-known v low) (stimuli_of stimuli id) (known.there id) (omega arith)

    -- The marks name the core's own objects alone, which have the same names in its own configuration.
    abbrev marks : List Mark
    marks = marks_of (history_from v [] (items_of lists id))

    lines_alone : lines_of plan marks ≡ lines_of (cut_of plan id) marks
    lines_alone =
        lines-same plan (cut_of plan id) (is_this_core v) core_alone marks
        (inside-items v nobody (is_this_core v) allowed (λ c within. sym (or-false (is_this_core v c)) ∙ within) own_self (items_of lists id) [] (fits.cores id).alone (record { own = refl; caller = refl })).own

    marks_alone : (alone_report plan stimuli id).marks ≡ marks_of (history_from self [] items)
    marks_alone = (λ j. marks_of (history_from (view_alone j) [] (items_alone j)))

    is_alone : IsAlone plan stimuli id (items_of lists id)
    is_alone = record {
      begins = rw marks_alone goes.0;
      whole = λ drained. goes.1 drained ∙ sym marks_alone;
      block_begins = rw lines_alone (begins-flat_map (λ (m : Mark). line_of (cut_of plan id) m ++ line_end) (title_of id ++ line_end) marks _ (rw marks_alone goes.0));
      block_whole = λ drained. ap (λ (lines : List ℕ). (title_of id ++ line_end) ++ lines) (lines_alone ∙ ap (lines_of (cut_of plan id)) (goes.1 drained ∙ sym marks_alone));
      ends = drained-where-ended v (items_of lists id) (fits.cores id).alone taken.calm;
      alone = (λ j. solo (view_alone j) (items_alone j)) ∙ takes_alone ∙ sym (λ j. Some (history_from (view_alone j) [] (items_alone j)));
    }

-- Where the items of all cores fit, each separate core prints what it prints alone (`IsAlone`).
pub fits-alone : (plan : Plan) (stimuli : List CoreStimuli) (lists : List (CoreId × List Item)) → Fits plan stimuli lists → IsTrue (is_within_limits plan) → AreKnown plan stimuli → ArePrintedAlone plan stimuli lists
fits-alone plan stimuli lists fits limits known id separate = by (core_of plan id) refl separate
  where
    by : (o : Option Core) → core_of plan id ≡ o → option_map_or (is_separate_core plan) o false ≡ true → IsAlone plan stimuli id (items_of lists id)
    by None found passes = cc
    by (Some core) found passes = in_mode core.mode refl
      where
        in_mode : (mode : CoreMode) → core.mode ≡ mode → IsAlone plan stimuli id (items_of lists id)
        in_mode (Named m) mode = is_alone plan stimuli lists fits.0 fits.1 limits known id core found passes m mode
        in_mode DontCare mode = absurd (grind (arith, mode, (separate-parts plan core passes).names))
