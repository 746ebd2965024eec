-- If a core has ended, it has begun each core of its start list, and the board has started each of these.
use Rattle.std.proofs.Common.{◌≡◌, sym, ap, ◌∙◌, Option, ◌⊎◌, ℕ, ◌≤◌, nat_lt, ◌&&◌, ◌||◌, Bool, true, false, Some, is_none, List, [], ◌∷◌, inl, inr, refl, arith}
use Rattle.std.specs.List.{list_any, slice_get}
use Rattle.std.proofs.lemmas.Bool.{and_parts, cases_lt, false≢true, or_left, or_right}
use Rattle.std.proofs.{lemmas.List.Folds.Any-from_list_any, lemmas.List.Folds.list_any-append, lemmas.Option.same_Some, lemmas.Option.slice_get-get_or, lemmas.Option.slice_get_cases}
use Rattle.osbase.specs.{declared.statuses.Status.TheVariants.EOk, declared.references.CoreId.CoreId, declared.items.Item.Item, declared.histories.Phase.Phase, Phases.is_scheduling, Phases.place_of, Sets.has_core}
use Rattle.osbase.specs.History.{History, began_count, same_core}
use Rattle.osbase.proofs.Same.{same_core-comm, same_core-refl, same_core-true}
use Rattle.osseparate.specs.Separate.{is_among}
use Rattle.osplan.specs.View.{View, is_configured}
use Rattle.osstate.specs.{Readings.next_start, Readings.phase_at, State.state_of}
use Rattle.oskernel.specs.{declared.wants.Watch.Watch, Wants.watch_of}
use Rattle.osadmit.specs.Admission.{admits, is_for, is_start_answer}
use Rattle.oskernel.specs.Step.{after, history_from, outbox_size, solo, solo_from}
use Rattle.oskernel.proofs.Stages.{mail-schedules, solo-parts, stage}
use Rattle.osshared.specs.Histories.{IsLegalFrom, calls_by}
use Rattle.osboard.specs.{declared.calls.BoardCall.BoardCall, declared.calls.BoardReply.BoardReply, declared.calls.BoardState.BoardState}
use Rattle.osboard.specs.{declared.calls.BoardCall.TheVariants.Start, declared.calls.BoardReply.TheVariants.Started}
use Rattle.osboard.specs.Boards.{BoardEntry, board_after, board_reply, one_board}
use Rattle.osrun.specs.{declared.requests.Request.Request, declared.requests.Reply.Reply, Requests.Calls, Requests.item_by, Requests.call_of_turn, Ends.starts, Fits.AreAnswered, Sound.end_by}
use Rattle.osrun.specs.declared.requests.Request.TheVariants.{StartUnknown}
use Rattle.osrun.proofs.{Ending.ended-by, Members.has_core-more, Readings.began-after, Readings.phase-after}

-- The item is the reply to a start of this core.
abbrev pub begins : CoreId → Item → Bool
begins k (Item.Began core status) = same_core core k
begins k item = false

-- ---- the start list

-- A core in this phase has not reached its first gate.
abbrev is_before_gate : Phase → Bool
is_before_gate p = nat_lt (place_of p) (place_of Phase.FirstGate)

unscheduled : (p : Phase) → is_before_gate p ≡ true → is_scheduling p ≡ true → ⊥
unscheduled p before schedules = grind arith

-- Past the end of a list there is nothing.
none-later : {X : Type 0} (xs : List X) (m n : ℕ) → is_none (slice_get xs m) ≡ true → m ≤ n → is_none (slice_get xs n) ≡ true
none-later xs m n e le = grind (arith, (slice_get_cases xs m).1, (slice_get_cases xs n).1)

-- Each core of a list has a place in it.
place-of : (xs : List CoreId) (k : CoreId) → is_among xs k ≡ true → (n : ℕ) × (is_for k (slice_get xs n) ≡ true)
place-of xs k e =
    let (n, c, inside, is, alike) = Any-from_list_any (λ (c : CoreId). same_core c k) xs e in
    (n, rw (slice_get-get_or xs n c inside, is) (same_core-comm k c ∙ alike))

-- Two cores that are next at the same place are the same.
next-same : (c k : CoreId) (next : ℕ → Option CoreId) (m n : ℕ) → m ≡ n → is_for c (next m) ≡ true → is_for k (next n) ≡ true → same_core c k ≡ true
next-same c k next m n same e f = grind arith

module _ (v : View) where
  -- Before its first gate a core takes only `On` and, for each core of its start list, the reply to the start.
  begun-by : (h : History) (i : Item) (rest : Bool) (n : ℕ) (k : CoreId) → admits outbox_size (state_of v h) i ≡ true → is_before_gate (phase_at v h) ≡ true → began_count h ≤ n → is_for k (slice_get v.own.start n) ≡ true
      → (is_before_gate (phase_at v (after v h i)) ≡ true → began_count (after v h i) ≤ n → rest ≡ true) → (begins k i || rest) ≡ true
  begun-by h Item.On rest n k may before le next later = grind (arith, le, later, phase-after v h Item.On, began-after v h Item.On)
  begun-by h (Item.Began c status) rest n k may before le next later =
      let asked = (and_parts _ (is_for c (next_start v (began_count h))) (and_parts _ (is_start_answer v c status) may).0).1 in
      elim (cases_lt (began_count h) n) as (λ _. (same_core c k || rest) ≡ true) [
        | inl behind ↦ or_right _ _ (later (ap is_before_gate (phase-after v h (Item.Began c status)) ∙ before) (omega (arith, began-after v h (Item.Began c status))))
        | inr here ↦ or_left _ _ (next-same c k (slice_get v.own.start) (began_count h) n (omega arith) asked next)
      ]
  begun-by h Item.Entered rest n k may before le next later = absurd (grind (arith, may, le, next, none-later v.own.start (began_count h) n))
  begun-by h (Item.Posted to) rest n k may before le next later = absurd (unscheduled _ before (mail-schedules v h (Item.Posted to) refl may))
  begun-by h (Item.Received from number message) rest n k may before le next later = absurd (unscheduled _ before (mail-schedules v h (Item.Received from number message) refl may))
  begun-by h i rest n k may before le next later = absurd (false≢true (sym (ap is_before_gate (same_Some _ _ (stage v h i refl may))) ∙ before))

  -- If a core takes these items from before its first gate to past it, it begins the rest of its start list by them.
  begun-later : (h : History) (items : List Item) → solo_from v h items ≡ Some (history_from v h items) → is_before_gate (phase_at v h) ≡ true → is_before_gate (phase_at v (history_from v h items)) ≡ false → (n : ℕ) (k : CoreId) → began_count h ≤ n → is_for k (slice_get v.own.start n) ≡ true → list_any (begins k) items ≡ true
  begun-later h [] each before past n k le next = cc
  begun-later h (i ∷ is) each before past n k le next =
      let turn = solo-parts v h i is each in
      begun-by h i (list_any (begins k) is) n k turn.0 before le next (λ early more. begun-later (after v h i) is turn.1 early past n k more next)

  -- So if a core's last item ends it, it has begun each core of its start list.
  pub all-begun : (items : List Item) → solo v items ≡ Some (history_from v [] items) → end_by items ≡ true → (k : CoreId) → is_among v.own.start k ≡ true → list_any (begins k) items ≡ true
  all-begun items each ended k named =
      let place = place-of v.own.start k named in
      begun-later [] items each (grind arith) (grind (arith, ended, ended-by v items each)) place.0 k (omega arith) place.1

-- ---- the calls of one core

-- If one of two tests holds, and each of the two implies another test, one of those other tests holds.
or_both : (a b c d : Bool) → (a ≡ true → c ≡ true) → (b ≡ true → d ≡ true) → (a || b) ≡ true → (c || d) ≡ true
or_both a b c d first second either = grind arith

-- The call starts this core. For `is_start_of`, the reply also says that the core is now started.
abbrev pub calls_start : CoreId → BoardCall → Bool
calls_start k (Start j) = same_core j k
calls_start k call = false

abbrev pub is_call_of : CoreId → BoardEntry → Bool
is_call_of k e = calls_start k e.call

abbrev pub is_ok_reply : BoardReply → Bool
is_ok_reply (Started EOk) = true
is_ok_reply reply = false

abbrev pub is_start_of : CoreId → BoardEntry → Bool
is_start_of k e = is_ok_reply e.reply && calls_start k e.call

module _ (v : View) (k : CoreId) where
  -- If an item begins a configured core, a call of the board starts that core.
  item-called : is_configured v k ≡ true → (h : History) (watch : Watch) (request : Request) (answer : Reply) (i : Item) → item_by v.core watch request answer ≡ Some i → begins k i ≡ true → admits outbox_size (state_of v h) i ≡ true → list_any (is_call_of k) (call_of_turn v.core request answer).board ≡ true
  item-called there h watch (StartUnknown j) answer i e begun may = grind (arith, there, e, begun, may, same_core-true j k)
  item-called there h watch request answer i e begun may = grind (arith, e, begun)

  pub all-called : is_configured v k ≡ true → (h : History) (items : List Item) (es : Calls) → solo_from v h items ≡ Some (history_from v h items) → AreAnswered v h items es → list_any (begins k) items ≡ true → list_any (is_call_of k) es.board ≡ true
  all-called there h [] es each none begun = cc
  all-called there h (i ∷ is) es each all begun =
      let turn = solo-parts v h i is each in
      rw all.4 (list_any-append (is_call_of k) (call_of_turn v.core all.0 all.1).board all.3.board
      ∙ or_both _ _ _ _ (λ here. item-called there h (watch_of v h) all.0 all.1 i all.2.names here turn.0) (all-called there (after v h i) is all.3 turn.1 all.5) begun)

  -- And if the reply to a call was that the core is started now, an item says so.
  item-started : (watch : Watch) (request : Request) (answer : Reply) (i : Item) → item_by v.core watch request answer ≡ Some i → list_any (is_start_of k) (call_of_turn v.core request answer).board ≡ true → starts k i ≡ true
  item-started watch request answer i e called = grind arith

  pub one-started : (h : History) (items : List Item) (es : Calls) → AreAnswered v h items es → list_any (is_start_of k) es.board ≡ true → list_any (starts k) items ≡ true
  one-started h [] es none called = grind (arith, none, called)
  one-started h (i ∷ is) es all called =
      or_both _ _ _ _ (item-started (watch_of v h) all.0 all.1 i all.2.names) (one-started (after v h i) is all.3 all.5)
      (sym (list_any-append (is_start_of k) (call_of_turn v.core all.0 all.1).board all.3.board) ∙ (rw all.4 at called))

-- ---- the board's history

-- A core that a call starts was started before, or the reply to some call was that it is started now.
module _ (k : CoreId) where
  abbrev Begun : BoardState → List BoardEntry → Type 0
  Begun s es = (has_core s.view.started k ≡ true) ⊎ (list_any (is_start_of k) es ≡ true)

  -- If the core is started only after a call, that call starts it, and its reply says so.
  started-now : (core : CoreId) (call : BoardCall) (s : BoardState) → has_core s.view.started k ≡ false → has_core (board_after core call s).view.started k ≡ true → calls_start k call ≡ true
  started-now core (Start j) s free there = elim (has_core-more j k s.view.started there) as (λ _. same_core j k ≡ true) [
    | inl same ↦ rw same (same_core-refl j)
    | inr other ↦ absurd (grind (arith, free, other))
  ]
  started-now core call s free there = absurd (grind (arith, free, there))

  answered-now : (core : CoreId) (call : BoardCall) (s : BoardState) → calls_start k call ≡ true → has_core s.view.started k ≡ false → is_ok_reply (board_reply core call s) ≡ true
  answered-now core call s mine free = grind (arith, mine, free, same_core-true)

  pub first-start : (s : BoardState) (es : List BoardEntry) → IsLegalFrom one_board s es → list_any (is_call_of k) es ≡ true → Begun s es
  first-start s [] legal called = cc
  first-start s (e ∷ es) legal called =
      grind (arith, called, legal.0, answered-now e.core e.call s, started-now e.core e.call s, first-start (board_after e.core e.call s) es legal.1)

-- If some call passes a test, some core's calls have one that passes it; and if a core's calls have one, so have all
-- calls.
module _ (p : BoardEntry → Bool) where
  pub some-call : (es : List BoardEntry) → list_any p es ≡ true → (c : CoreId) × (list_any p (calls_by c es) ≡ true)
  some-call [] any = cc
  some-call (e ∷ es) any = by (p e) refl (some-call es)
    where
      by : (b : Bool) → p e ≡ b → (list_any p es ≡ true → (c : CoreId) × (list_any p (calls_by c es) ≡ true)) → (c : CoreId) × (list_any p (calls_by c (e ∷ es)) ≡ true)
      by true here rest = (e.core, grind (arith, here))
      by false other rest = let one = rest (grind (arith, any, other)) in (one.0, grind (arith, one.1))

  pub all-calls : (c : CoreId) (es : List BoardEntry) → list_any p (calls_by c es) ≡ true → list_any p es ≡ true
  all-calls c [] any = any
  all-calls c (e ∷ es) any = grind (arith, all-calls c es)
