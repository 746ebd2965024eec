-- If every started core has ended, each separate core has drained: each core that the configuration starts was started,
-- since the core that starts it ended only after its whole start list.
use Rattle.std.proofs.Common.{◌≡◌, inl, inr, ℕ, zero, suc, ◌<◌, not, ◌&&◌, ◌||◌, Bool, true, false, IsTrue, Option, Some, None, is_some, List, [], ◌∷◌, length, map, refl, sym, ap, ◌∙◌, arith}
use Rattle.std.specs.{List.AllByRecursion, List.list_all, List.list_any, Option.option_map_or}
use Rattle.std.proofs.lemmas.Bool.{and_from, and_parts, or_cases, or_left, or_right}
use Rattle.std.proofs.lemmas.List.Folds.{list_any_at}
use Rattle.osbase.specs.{declared.references.CoreId.CoreId, declared.items.Item.Item, declared.limits.TheConstants.CORES, declared.turns.CoreStimuli.CoreStimuli, declared.turns.Report.Report, History.same_core, Sets.core_ids}
use Rattle.osbase.proofs.{Same.same_core-refl, Same.same_core-true, Tables.table-at}
use Rattle.osplan.specs.{declared.plans.Plan.Plan, declared.plans.Core.Core, Limits.is_within_limits}
use Rattle.osseparate.specs.Separate.{configured_ids, is_among, is_named_by, is_separate, is_separate_core, is_started, started_within}
use Rattle.osplan.specs.View.{core_of, view_of}
use Rattle.osplan.proofs.{Found.IsFound, Found.each-found, Numbered.configured-low, Within.limit-parts}
use Rattle.osseparate.proofs.Starting.{among-configured, kept}
use Rattle.osstate.proofs.Begun.{is_some-core_of}
use Rattle.osboard.specs.Boards.{first_board}
use Rattle.osrun.specs.{Requests.Calls, Requests.calls_of, Ends.have_all_ended, Ends.starts, Ends.was_started, Fits.FitsBy, Fits.has_drained, Fits.items_of}
use Rattle.osrun.specs.Sound.{AreSound, IsOwn, end_by, lists_in}
use Rattle.osrun.proofs.Begun.{all-begun, all-called, all-calls, first-start, is_call_of, is_start_of, one-started, some-call}
use Rattle.osrun.proofs.{Configured.id_at, Members.only-one, OwnCore.found-id}

-- ---- a core's report

-- If an item in a core's list starts a core, so does an item of some report.
started-in : (reports : List Report) (id k : CoreId) → list_any (starts k) (items_of (lists_in reports) id) ≡ true → list_any (λ (r : Report). list_any (starts k) r.items) reports ≡ true
started-in [] id k any = any
started-in (r ∷ rs) id k any = grind (arith, started-in rs id k)

-- If each started core's report says that the core ended, the last item of such a core ends it.
ends-in : (plan : Plan) (was : CoreId → Bool) (id : CoreId) → was id ≡ true → (reports : List Report) → AllByRecursion (IsOwn plan) reports → list_all (λ (r : Report). r.ended || not (was r.core)) reports ≡ true → is_among (map (λ (r : Report). r.core) reports) id ≡ true → end_by (items_of (lists_in reports) id) ≡ true
ends-in plan was id asked [] own all among = cc
ends-in plan was id asked (r ∷ rs) own all among =
    let ended : r.ended ≡ end_by r.items = ap (λ (q : Report). q.ended) own.0 in
    grind (arith, ended, same_core-true r.core id, ends-in plan was id asked rs own.1)

-- A number below 16 is one of those that a core may have.
listed : (id : CoreId) → id.number < 16 → is_among core_ids id ≡ true
listed id low = list_any_at (λ (c : CoreId). same_core c id) core_ids id.number id low (rw (table-at id_at 0 CORES id.number id.number id (omega arith) low) (same_core-refl id))

-- ---- all cores

module _ (plan : Plan) (stimuli : List CoreStimuli) (reports : List Report) (limits : IsTrue (is_within_limits plan)) (sound : AreSound plan stimuli reports) (all : have_all_ended plan reports ≡ true) where
  abbrev lists : List (CoreId × List Item)
  lists = lists_in reports

  abbrev was : CoreId → Bool
  was = was_started plan reports

  abbrev calls : Calls
  calls = sound.fit.0

  abbrev fits : FitsBy plan stimuli lists calls
  fits = sound.fit.1

  -- A configured core that was started has a report, and the last item of that report ends it.
  ends : (id : CoreId) → is_some (core_of plan id) ≡ true → was id ≡ true → end_by (items_of lists id) ≡ true
  ends id there asked =
      ends-in plan was id asked reports sound.own all
      (rw sound.cores (kept (λ c. is_some (core_of plan c)) core_ids id ∙ and_from _ _ there (listed id (configured-low plan id limits there))))

  -- If a call of the board starts a core, that core was started.
  start-called : (k : CoreId) → list_any (is_call_of k) calls.board ≡ true → was k ≡ true
  start-called k called = elim (first-start k (first_board plan.master) calls.board fits.board called) as (λ _. was k ≡ true) [
    | inl first ↦ or_left (same_core k plan.master) _ (rw (only-one plan.master k first) (same_core-refl plan.master))
    | inr now ↦
        let one = some-call (is_start_of k) calls.board now in
        or_right (same_core k plan.master) _ (started-in reports one.0 k (one-started (view_of plan one.0) k [] (items_of lists one.0) (calls_of one.0 calls) (fits.answers one.0) one.1))
  ]

  -- So was each core in the start list of a started core.
  next-started : (id k : CoreId) (core : Core) → core_of plan id ≡ Some core → was id ≡ true → is_among core.start k ≡ true → is_some (core_of plan k) ≡ true → was k ≡ true
  next-started id k core found asked named there =
      let begun = all-begun (view_of plan id) (items_of lists id) (fits.cores id).alone (ends id (ap is_some found) asked) k (rw found named) in
      start-called k (all-calls (is_call_of k) id calls.board (all-called (view_of plan id) k (sym (is_some-core_of k plan.cores) ∙ there) [] (items_of lists id) (calls_of id calls) (fits.cores id).alone (fits.answers id) begun))

  abbrev Within : ℕ → CoreId → Bool
  Within n k = is_among (started_within plan n) k

  -- If a started core of this list names a core in its start list, that core was started.
  named-started : (n : ℕ) (k : CoreId) → is_some (core_of plan k) ≡ true → ((id : CoreId) → Within n id ≡ true → was id ≡ true) → (cores : List Core) → AllByRecursion (IsFound plan.cores) cores → list_any (λ (c : Core). Within n c.id && is_among c.start k) cores ≡ true → was k ≡ true
  named-started n k there before [] found named = cc
  named-started n k there before (c ∷ cs) found named = elim (or_cases (Within n c.id && is_among c.start k) _ named) as (λ _. was k ≡ true) [
    | inl here ↦ let parts = and_parts (Within n c.id) (is_among c.start k) here in next-started c.id k c found.0 (before c.id parts.0) parts.1 there
    | inr later ↦ named-started n k there before cs found.1 later
  ]

  -- Each core that the configuration starts was started.
  within-started : (n : ℕ) (k : CoreId) → Within n k ≡ true → was k ≡ true
  within-started zero k e = or_left (same_core k plan.master) _ (and_parts (same_core k plan.master) _ (rw (kept (λ c. same_core c plan.master) (configured_ids plan) k) at e)).0
  within-started (suc n) k e =
      let round = and_parts _ (is_among (configured_ids plan) k) (rw (kept (λ c. Within n c || is_named_by plan (started_within plan n) c) (configured_ids plan) k) at e) in
      elim (or_cases (Within n k) _ round.0) as (λ _. was k ≡ true) [
        | inl before ↦ within-started n k before
        | inr named ↦ named-started n k (sym (among-configured plan k) ∙ round.1) (within-started n) plan.cores (each-found plan.cores (limit-parts plan limits).distinct) named
      ]

  -- A separate core is one of these, so it has drained.
  pub separate-drained : (id : CoreId) → IsTrue (is_separate plan id) → has_drained (items_of lists id) ≡ true
  separate-drained id separate = by (core_of plan id) refl separate
    where
      by : (o : Option Core) → core_of plan id ≡ o → option_map_or (is_separate_core plan) o false ≡ true → has_drained (items_of lists id) ≡ true
      by None found passes = cc
      by (Some core) found passes =
          let started : is_started plan core.id ≡ true = search arith in
          (sound.separate id separate).ends (ends id (ap is_some found) (within-started (length plan.cores) id (rw (found-id plan id core found) at started)))
