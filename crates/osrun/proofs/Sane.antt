-- The board that a core sees has started only cores that the configuration starts, has only the agreed mode, and has no
-- shutdown of all cores.
use Rattle.std.proofs.Common.{◌≡◌, ◌≢◌, ◌⊎◌, ℕ, zero, suc, ◌≤◌, Bool, true, false, not, ◌||◌, cond, Option, Some, None, is_some, List, [], ◌∷◌, ◌++◌, get_or, inl, inr, refl, ap, subst, ◌∙◌, arith, get_or-set_other}
use Rattle.std.specs.List.{count_by, list_all, slice_get}
use Rattle.std.proofs.{lemmas.Bool.and_from, lemmas.Bool.not_from_false, lemmas.List.Folds.list_any_at, lemmas.List.Sums.sum_by-cons, lemmas.Option.slice_get_cases}
use Rattle.osbase.specs.{declared.references.CoreId.CoreId, declared.references.ModeId.ModeId, declared.items.Agreement.Agreement, declared.items.Item.Item, declared.items.Stimulus.Stimulus, declared.histories.Phase.Phase, Sets.has_core, declared.items.CoreMode.CoreMode, declared.items.CoreMode.TheVariants.Named}
use Rattle.osbase.specs.History.{History, began_count, same_core}
use Rattle.osbase.proofs.{Same.same_core-true, Sets.no-flag}
use Rattle.osplan.specs.{declared.plans.Plan.Plan, declared.plans.Core.Core}
use Rattle.osseparate.specs.Separate.{agree, halts_somewhere, is_agreed_mode, is_among, is_started}
use Rattle.osplan.specs.View.{View, core_of, is_configured, view_of}
use Rattle.osseparate.proofs.Reached.{started-master, started-next}
use Rattle.osplan.proofs.Tests.{find-passes}
use Rattle.osstate.specs.{Readings.phase_at, State.state_of}
use Rattle.osstate.proofs.Begun.{is_some-core_of}
use Rattle.osadmit.specs.Admission.{admits, has_asked_halt, is_for}
use Rattle.oskernel.specs.{Step.after, Step.history_from, Step.outbox_size, Step.solo_from, Wants.watch_of, declared.wants.Watch.Watch}
use Rattle.oskernel.proofs.{Opened.Asks, Opened.asks-after, Scripts.but_halt, Scripts.halt-allow, Stages.only-on, Stages.solo-parts}
use Rattle.osshared.specs.Histories.{IsLegal}
use Rattle.osboard.specs.{declared.calls.BoardState.BoardState, declared.calls.BoardCall.BoardCall, declared.calls.BoardReply.BoardReply}
use Rattle.osboard.specs.declared.calls.BoardCall.TheVariants.{Start, Enter, AskHalt}
use Rattle.osboard.specs.Boards.{agreement_in, board_after, board_reply, first_board, one_board, with_mode}
use Rattle.osrun.specs.{declared.requests.Request.Request, declared.requests.Reply.Reply, Fits.AreAnswered, Fits.ResultsIn}
use Rattle.osrun.specs.declared.requests.Request.TheVariants.{OfBoard, OfSpins}
use Rattle.osrun.specs.declared.requests.Reply.TheVariants.{Replied, Spun}
use Rattle.osrun.specs.Requests.{Calls, calls_of, item_by, item_of_board, call_of_turn}
use Rattle.osrun.proofs.{Asked.IsOwnRequest, Asked.asks-none, Asked.is_halt_request, Asked.asks-own, Members.has_core-more, Members.only-one, OwnCore.found-id, OwnCore.own-by}
use Rattle.osrun.proofs.Relying.{AllSee, Relies, only-seen}

-- ---- modes and start lists

-- If no flag is set, the count is 0; if only the flag at one place may be set, the count is at most 1.
count-none : (xs : List Bool) → ((j : ℕ) → get_or xs j false ≡ false) → count_by (λ b. b) xs ≡ 0
count-none [] none = refl
count-none (x ∷ xs) none = grind (arith, sum_by-cons (λ (b : Bool). cond b 1 0) x xs, none 0, count-none xs (λ j. none (suc j)))

count-one : (xs : List Bool) (n : ℕ) → ((j : ℕ) → j ≢ n → get_or xs j false ≡ false) → count_by (λ b. b) xs ≤ 1
count-one [] n others = omega arith
count-one (x ∷ xs) zero others = grind (arith, sum_by-cons (λ (b : Bool). cond b 1 0) x xs, count-none xs (λ j. others (suc j) (λ e. absurd (omega (arith, e)))))
count-one (x ∷ xs) (suc n) others =
    let rest = count-one xs n (λ j ne. others (suc j) (λ e. ne (omega (arith, e)))) in
    grind (arith, sum_by-cons (λ (b : Bool). cond b 1 0) x xs, others 0 (λ e. absurd (omega (arith, e))), rest)

-- The core that is next in a start list is among those of the list.
for-among : (core : CoreId) (cores : List CoreId) (n : ℕ) → is_for core (slice_get cores n) ≡ true → is_among cores core ≡ true
for-among core cores n e = grind (arith, (slice_get_cases cores n).1, list_any_at (λ (c : CoreId). same_core c core) cores n)

-- The core met a conflict at its first gate, halts for a shutdown of all cores, or learns of one at its end.
abbrev pub is_disturbance : Item → Bool
is_disturbance (Item.Pass1 Agreement.Conflict) = true
is_disturbance (Item.Halt core status) = true
is_disturbance (Item.Last (Some asked)) = true
is_disturbance item = false

abbrev pub AreUndisturbed : List Item → Type 0
AreUndisturbed items = list_all (λ (i : Item). not (is_disturbance i)) items ≡ true

-- A core that may ask for anything but a shutdown of all cores has no open call for one.
pub never-asked : (v : View) (h : History) → Asks but_halt h → has_asked_halt (state_of v h) ≡ false
never-asked v h never = grind arith

-- ---- the board

module _ (plan : Plan) (m : ModeId) where
  -- Only cores that the configuration starts are started, no mode but this one is named, and no shutdown is requested.
  pub record Sane (b : BoardState) : Type 0 where
    pub begun : (k : CoreId) → has_core b.view.started k ≡ true → is_started plan k ≡ true
    pub modes : (j : ℕ) → j ≢ m.index → get_or b.view.modes.members j false ≡ false
    pub quiet : b.halt ≡ None

  no-conflict : (b : BoardState) → Sane b → is_disturbance (Item.Pass1 (agreement_in b.view.modes)) ≡ false
  no-conflict b sane = grind (arith, count-one b.view.modes.members m.index sane.modes)

  -- Such a board's reply results in no disturbance, unless the call asks for a shutdown; nor does any other reply.
  reply-calm : (core : CoreId) (w : Watch) (call : BoardCall) (reply : BoardReply) (i : Item) (s : BoardState) → Sane s → is_halt_request (OfBoard call) ≡ false → reply ≡ board_reply core call s → item_of_board core w call reply ≡ Some i → is_disturbance i ≡ false
  reply-calm core w call reply i s sane asked replies e = grind (arith, no-conflict s sane, sane.quiet)

  other-calm : (core : CoreId) (w : Watch) (request : Request) (answer : Reply) (i : Item) → (call_of_turn core request answer).board ≡ [] → item_by core w request answer ≡ Some i → is_disturbance i ≡ false
  other-calm core w request answer i none e = grind arith

  sane-first : is_some (core_of plan plan.master) ≡ true → Sane (first_board plan.master)
  sane-first there = record { begun = λ k h. ap (is_started plan) (only-one plan.master k h) ∙ started-master plan there; modes = λ j ne. no-flag 8 j; quiet = refl }

  module _ (agreed : is_agreed_mode plan (Named m) ≡ true) (core : CoreId) where
    abbrev v : View
    v = view_of plan core

    -- The core is off, or the configuration starts it.
    abbrev IfOn : History → Type 0
    IfOn h = (phase_at v h ≡ Phase.Off) ⊎ (is_started plan core ≡ true)

    -- If the configuration starts the core, it also starts each configured core of this core's start list.
    starts : (k : CoreId) → is_started plan core ≡ true → is_configured v k ≡ true → is_among v.own.start k ≡ true → is_started plan k ≡ true
    starts k started there among =
        own-by plan core (λ (c : Core). is_among c.start k ≡ true → is_started plan k ≡ true) (λ none. cc)
        (λ c found named. started-next plan core k c started found named (is_some-core_of k plan.cores ∙ there)) among

    -- If the configuration starts the core, the core adds no mode but this one to the modes on the board.
    told : (b : BoardState) → Sane b → (j : ℕ) → j ≢ m.index → is_started plan core ≡ true → get_or (with_mode v.own.mode b.view.modes).members j false ≡ false
    told b sane j ne started =
        own-by plan core (λ (c : Core). get_or (with_mode c.mode b.view.modes).members j false ≡ false) (sane.modes j ne) (λ c found. named c.mode (agrees c found))
      where
        agrees : (c : Core) → core_of plan core ≡ Some c → agree (Named m) c.mode ≡ true
        agrees c found =
            let passes = find-passes (λ (d : Core). same_core d.id core) (λ (d : Core). not (is_started plan d.id) || agree (Named m) d.mode) plan.cores c agreed found in
            grind (arith, started, found-id plan core c found, passes)

        named : (mode : CoreMode) → agree (Named m) mode ≡ true → get_or (with_mode mode b.view.modes).members j false ≡ false
        named mode e = grind (arith, sane.modes j ne, get_or-set_other)

    -- If the core may take the item that a turn results in, the call of that turn keeps the board sane.
    keeps : (h : History) → IfOn h → has_asked_halt (state_of v h) ≡ false → (call : BoardCall) (reply : BoardReply) (i : Item) (next : Option Stimulus) → IsOwnRequest v (state_of v h) next (Some (OfBoard call)) → item_of_board core (watch_of v h) call reply ≡ Some i → admits outbox_size (state_of v h) i ≡ true → (b : BoardState) → Sane b → Sane (board_after core call b)
    keeps h if_on never (Start k) reply i next own e may b sane = record {
      begun = λ j there. elim (has_core-more k j b.view.started there) as (λ _. is_started plan j ≡ true) [
        | inl same ↦ ap (is_started plan) same ∙ starts k (grind (arith, if_on, e, may)) own (for-among k v.own.start (began_count h) (grind (arith, e, may)))
        | inr other ↦ sane.begun j other
      ];
      modes = sane.modes;
      quiet = sane.quiet;
    }
    keeps h if_on never (Enter mode) reply i next own e may b sane = record { begun = sane.begun; modes = λ j ne. rw own (told b sane j ne (grind (arith, if_on, e, may))); quiet = sane.quiet }
    keeps h if_on never (AskHalt status) reply i next own e may b sane = cc
    keeps h if_on never call reply i next own e may b sane = record { begun = sane.begun; modes = sane.modes; quiet = sane.quiet }

    asks-on : halts_somewhere plan ≡ false → (h : History) (i : Item) → Asks but_halt h → Asks but_halt (after v h i)
    asks-on unhalted h i never = asks-after but_halt v (halt-allow plan core unhalted) h i never

    -- If the core saw only sane boards before, each of its calls keeps the board sane.
    relies : halts_somewhere plan ≡ false → (items : List Item) (h : History) (es : Calls) → IfOn h → Asks but_halt h → solo_from v h items ≡ Some (history_from v h items) → AreAnswered v h items es → Relies one_board Sane core es.board
    relies unhalted [] h es if_on never each none = rw none tt
    relies unhalted (i ∷ is) h es if_on never each all =
        rw all.4 (by all.0 all.1 all.2 (λ started. relies unhalted is (after v h i) all.3 (inr started) (asks-on unhalted h i never) turn.1 all.5))
      where
        turn : (admits outbox_size (state_of v h) i ≡ true) × (solo_from v (after v h i) is ≡ Some (history_from v (after v h i) is))
        turn = solo-parts v h i is each

        -- A core that is off learns by a look at the board that it is on.
        by : (request : Request) (answer : Reply) → ResultsIn v h request answer i → (is_started plan core ≡ true → Relies one_board Sane core all.3.board) → Relies one_board Sane core ((call_of_turn core request answer).board ++ all.3.board)
        by (OfBoard call) (Replied reply) leads later =
            let own = subst (IsOwnRequest v (state_of v h) leads.next) leads.asks (asks-own v (state_of v h) leads.next leads.choice) in (
              keeps h if_on (never-asked v h never) call reply i leads.next own leads.names turn.0,
              λ sees. later (grind (arith, if_on, only-on v h i turn.0, leads.names, sees.answers, sees.has.begun core)),
            )
        by (OfSpins wish) (Spun reply) leads later = later (grind (arith, if_on, only-on v h i turn.0, leads.names))
        by request answer leads later = later (grind (arith, if_on, only-on v h i turn.0, leads.names))

    if-on-first : is_some (core_of plan plan.master) ≡ true → IfOn []
    if-on-first there = grind (arith, same_core-true core plan.master, started-master plan there)

    -- A core that saw only sane boards met no conflict and no shutdown.
    all-calm : halts_somewhere plan ≡ false → (items : List Item) (h : History) (es : Calls) → Asks but_halt h → AreAnswered v h items es → AllSee one_board Sane es.board → AreUndisturbed items
    all-calm unhalted [] h es never none see = refl
    all-calm unhalted (i ∷ is) h es never all see = by all.0 all.1 all.2 (rw all.4 at see) (all-calm unhalted is (after v h i) all.3 (asks-on unhalted h i never) all.5)
      where
        by : (request : Request) (answer : Reply) → ResultsIn v h request answer i → AllSee one_board Sane ((call_of_turn core request answer).board ++ all.3.board) → (AllSee one_board Sane all.3.board → AreUndisturbed is) → AreUndisturbed (i ∷ is)
        by (OfBoard call) (Replied reply) leads see rest =
            let asked = asks-none v (state_of v h) leads.next leads.choice (OfBoard call) (never-asked v h never) leads.asks in
            and_from _ _ (not_from_false _ (reply-calm core (watch_of v h) call reply i see.0.state see.0.has asked see.0.answers leads.names)) (rest see.1)
        by (OfSpins wish) (Spun reply) leads see rest = and_from _ _ (not_from_false _ (other-calm core (watch_of v h) (OfSpins wish) (Spun reply) i refl leads.names)) (rest see)
        by request answer leads see rest = and_from _ _ (not_from_false _ (other-calm core (watch_of v h) request answer i refl leads.names)) (rest see)

  -- If no script shuts all cores down and started cores agree on the mode, no core meets a conflict or a shutdown. This
  -- is for a legal history of the board from whose calls each core's items result.
  module _ (agreed : is_agreed_mode plan (Named m) ≡ true) (unhalted : halts_somewhere plan ≡ false) (there : is_some (core_of plan plan.master) ≡ true) (calls : Calls) (legal : IsLegal one_board plan.master calls.board) (items : CoreId → List Item)
      (each : (id : CoreId) → solo_from (view_of plan id) [] (items id) ≡ Some (history_from (view_of plan id) [] (items id)))
      (answers : (id : CoreId) → AreAnswered (view_of plan id) [] (items id) (calls_of id calls)) where
    pub undisturbed : (id : CoreId) → AreUndisturbed (items id)
    undisturbed id =
        all-calm agreed id unhalted (items id) [] (calls_of id calls) refl (answers id)
        (only-seen one_board Sane (first_board plan.master) calls.board (sane-first there) legal (λ d. relies agreed d unhalted (items d) [] (calls_of d calls) (if-on-first agreed d there) refl (each d) (answers d)) id)
