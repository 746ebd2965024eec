-- What an item adds to what a worker has done: to its core, to its calls of the board and the spinlocks, and to its end
-- of the mail.
use Rattle.std.proofs.Common.{◌≡◌, ℕ, zero, suc, ◌+◌, ◌≤◌, Bool, true, false, Option, Some, None, List, [], ◌∷◌, ◌++◌, length, drop, inl, inr, ⊎_elim, refl, sym, ap, subst, ◌∙◌, arith, append_assoc, append-nil, length-append, cond}
use Rattle.std.specs.List.{AllByRecursion, slice_get}
use Rattle.std.proofs.lemmas.Option.{same_Some}
use Rattle.osbase.specs.{declared.statuses.Status.TheVariants.EOsId, declared.references.CoreId.CoreId, declared.messages.Envelope.Envelope, declared.messages.Letter.Letter, declared.histories.Course.Course, declared.histories.Sent.Sent, declared.items.Item.Item, declared.items.Stimulus.Stimulus, declared.turns.Choice.Choice, declared.turns.CoreStimuli.CoreStimuli, Runs.stimuli_of}
use Rattle.osbase.specs.History.{History, course_of, front_letter, outbox, received, same_core}
use Rattle.osplan.specs.{declared.plans.Plan.Plan, View.View, View.is_configured, View.view_of}
use Rattle.osstate.specs.State.{KernelState, state_of}
use Rattle.oskernel.specs.{declared.wants.Watch.Watch, declared.wants.SpinWish.SpinWish, declared.wants.Want.Want}
use Rattle.osadmit.specs.Admission.{takes_in}
use Rattle.oskernel.specs.Step.{after, history_from, outbox_size, takes}
use Rattle.oskernel.specs.Wants.{front_of, want_in, watch_in, watch_of}
use Rattle.oskernel.proofs.Stages.{is_mail}
use Rattle.osshared.specs.{declared.histories.Entry.Entry, Histories.Thinned, Histories.entry}
use Rattle.osmail.proofs.Through.{all-map}
use Rattle.osboard.specs.{Boards.BoardEntry, Boards.IsLook}
use Rattle.osboard.specs.declared.calls.BoardCall.TheVariants.{Start, Enter, MakeReady, Drain, Look, LookDrained, AskHalt, LookHalt}
use Rattle.osboard.specs.declared.calls.BoardReply.TheVariants.{Started, Acknowledged, Shown, Drained, Decided, Halting}
use Rattle.osspin.specs.{declared.calls.SpinReply.TheVariants.Answered, Spins.IsRefusedCall, Spins.SpinEntry}
use Rattle.osmail.specs.Ends.{AreUnchanged, HasOneMore, Streams}
use Rattle.osrun.specs.{declared.requests.Request.Request, declared.requests.Reply.Reply, declared.core_runs.CoreRun.CoreRun, CoreRuns.stimulus_count, CoreRuns.Took}
use Rattle.osrun.specs.declared.requests.Request.TheVariants.{OfBoard, OfSpins, Room, Oldest, StartUnknown, TakeStimulus}
use Rattle.osrun.specs.declared.requests.Reply.TheVariants.{Replied, Spun, HasRoom, Found, Unasked}
use Rattle.osrun.specs.Requests.{Calls, request_by, call_of_item, joined, item_by, own_request, spin_call_of, start_request, call_of_turn}
use Rattle.osrun.specs.Fits.{AreAnswered, ResultsIn, history_by, stimuli_in}
use Rattle.osrun.proofs.{Answered.answered-push, Called.called-for, Asked.IsOwnRequest, Asked.asks-own, CoreRunning.seated-on}
use Rattle.osrun.proofs.Resulting.{drained-item, halt-item, is-item, look-item, spinlock-item}
use Rattle.osrun.proofs.Longer.{IsInTurn, core-on, history_from-push, length-stimuli_in}
use Rattle.osrun.proofs.Streams.{received_letter, is_from, is_post_to, posted-after, received-is}
use Rattle.osworker.specs.{declared.turns.Turned.TheVariants.Nothing, declared.turns.Turned.TheVariants.Took as TookOne, declared.worker.Worker.Worker, Seats.made_from}
use Rattle.osworker.specs.Working.{AreCalls, AreSpinCalls, HasTaken, HasWorked, IsAsked, IsAtWork, IsFruitless, IsIdleLook, IsMailed, IsRefusedWish, IsStuck, IsTurn, MayWait}

-- ---- stimuli

-- The first stimulus that is left is the next one.
front-drop : {A : Type 0} (n : ℕ) (xs : List A) → slice_get (drop n xs) 0 ≡ slice_get xs n
front-drop zero [] = refl
front-drop zero (x ∷ xs) = refl
front-drop (suc n) [] = refl
front-drop (suc n) (x ∷ xs) = front-drop n xs

-- Only a reply of the mail can result in a mail item.
abbrev pub IsMailFor : Reply → Item → Type 0
IsMailFor (HasRoom room) i = Unit {0}
IsMailFor (Found letter) i = Unit {0}
IsMailFor answer i = is_mail i ≡ false

-- If a turn's request is the core's own (`IsOwnRequest`), the item that results from it is in turn.
module _ (v : View) (listed : List Stimulus) (s : KernelState) (past : List Item) where
  abbrev course : Course
  course = s.progress.course

  abbrev IsNext : Item → Type 0
  IsNext i = IsInTurn listed course past i × (is_mail i ≡ false)

  is : (j i : Item) → IsNext j → Some j ≡ Some i → IsNext i
  is j i next e = is-item IsNext j i next e

  follows : (watch : Watch) (request : Request) (answer : Reply) (i : Item) → IsOwnRequest v s (slice_get listed (length (stimuli_in past))) (Some request) → item_by v.core watch request answer ≡ Some i → IsInTurn listed course past i × IsMailFor answer i
  follows watch (OfBoard Look) (Replied (Shown view)) i own e = look-item IsNext (tt, refl) (λ agreement. (tt, refl)) (λ cores. (tt, refl)) v.core view watch i e
  follows watch (OfBoard (Start k)) (Replied (Started status)) i own e = is (Item.Began k status) i (tt, refl) e
  follows watch (OfBoard (Enter mode)) (Replied Acknowledged) i own e = is Item.Entered i (tt, refl) e
  follows watch (OfBoard MakeReady) (Replied Acknowledged) i own e = is Item.Readied i (tt, refl) e
  follows watch (OfBoard Drain) (Replied Acknowledged) i own e = is Item.Drained i (own, refl) e
  follows watch (OfBoard LookDrained) (Replied (Drained drained)) i own e = drained-item IsNext (tt, refl) watch drained i e
  follows watch (OfBoard LookHalt) (Replied (Halting halt)) i own e = halt-item IsNext (λ asked. (tt, refl)) (λ core status. (tt, refl)) watch halt i e
  follows watch (OfBoard (AskHalt status)) (Replied (Decided asked)) i own e = is (Item.Halt asked.0 asked.1) i (tt, refl) e
  follows watch (OfSpins wish) (Spun reply) i own e = spinlock-item IsNext (λ l. (tt, refl)) (λ l taken. (tt, refl)) (λ l. (tt, refl)) wish reply i e
  follows watch (Room to) (HasRoom true) i own e = is-item (λ (j : Item). IsInTurn listed course past j × Unit {0}) (Item.Posted to) i (tt, tt) e
  follows watch (Oldest from) (Found (Some x)) i own e = is-item (λ (j : Item). IsInTurn listed course past j × Unit {0}) (Item.Received from x.number x.message) i (tt, tt) e
  follows watch (StartUnknown k) Unasked i own e = is (Item.Began k EOsId) i (tt, refl) e
  follows watch (TakeStimulus stimulus) Unasked i own e = is (Item.Stim stimulus) i (own, refl) e
  follows watch request answer i own e = absurd (cc)

-- ---- the core

module _ (plan : Plan) (stimuli : List CoreStimuli) (old : CoreRun) (work : IsAtWork plan stimuli old) where
  abbrev v : View
  v = view_of plan old.id

  abbrev h : History
  h = history_by plan old.id old.items.items

  -- the core's next stimulus
  next-left : slice_get old.stimuli.now 0 ≡ slice_get (stimuli_of stimuli old.id) (length (stimuli_in old.items.items))
  next-left =
      ap (λ (ss : List Stimulus). slice_get ss 0) work.seated.left
      ∙ front-drop (stimulus_count old.items.items) (stimuli_of stimuli old.id)
      ∙ ap (slice_get (stimuli_of stimuli old.id)) (sym (length-stimuli_in old.items.items))

  -- The core's items determine whether it can do nothing alone.
  pub stuck-by-items : IsStuck v old.kernel (slice_get old.stimuli.now 0) → IsStuck v (state_of v h) (slice_get (stimuli_of stimuli old.id) (length (stimuli_in old.items.items)))
  stuck-by-items stuck = rw (next-left, work.seated.tracks.stands.is) at stuck

  module _ (new : CoreRun) (item : Item) (took : Took old new item) where
    history-on : history_by plan new.id new.items.items ≡ after v h item
    history-on = rw (took.id, took.items) (history_from-push v [] old.items.items item)

    work-on : takes outbox_size v h item ≡ true → IsInTurn (stimuli_of stimuli old.id) (course_of h) old.items.items item → IsAtWork plan stimuli new
    work-on may next = record {
      seated = seated-on plan stimuli old new item work.seated may took;
      fits = rw (took.id, took.items) (core-on plan stimuli old.id old.items.items work.fits item next may);
    }

-- ---- the worker's calls

all-append : {X : Type 0} (P : X → Type 0) (xs ys : List X) → AllByRecursion P xs → AllByRecursion P ys → AllByRecursion P (xs ++ ys)
all-append P [] ys all more = more
all-append P (x ∷ xs) ys all more = (all.0, all-append P xs ys all.1 more)

module _ {C R : Type 0} (idle : Entry C R → Type 0) where
  thin-append : (xs ys ls ms : List (Entry C R)) → Thinned idle xs ls → Thinned idle ys ms → Thinned idle (xs ++ ys) (ls ++ ms)
  thin-append [] ys ls ms none thin = rw none thin
  thin-append (x ∷ xs) ys ls ms t thin = ⊎_elim
      (λ u. inl (u.0 ++ ms, ap (λ l. l ++ ms) u.1, thin-append xs ys u.0 ms u.2 thin))
      (λ u. inr (u.0, thin-append xs ys ls ms u.1 thin))
      t

  -- all of them may be left out, or none is
  thin-all : (xs : List (Entry C R)) → AllByRecursion idle xs → Thinned idle xs []
  thin-all [] all = refl
  thin-all (x ∷ xs) all = inr (all.0, thin-all xs all.1)

  thin-none : (xs : List (Entry C R)) → Thinned idle xs xs
  thin-none [] = refl
  thin-none (x ∷ xs) = inl (xs, refl, thin-none xs)

-- If a turn asks for a spinlock, the core wants it.
own-wants : (v : View) (next : Option Stimulus) (want : Want) (wish : SpinWish) → own_request v next want ≡ Some (OfSpins wish) → want ≡ Want.Spin wish
own-wants v next (Want.Start k) wish e = by (is_configured v k) e
  where
    by : (b : Bool) → Some (start_request k b) ≡ Some (OfSpins wish) → Want.Start k ≡ Want.Spin wish
    by true e = cc
    by false e = cc
own-wants v None Want.GoOn wish e = cc
own-wants v next want wish e = cc

asked-wants : (v : View) (next : Option Stimulus) (want : Want) (watch : Watch) (choice : Choice) (wish : SpinWish) → request_by v want watch next choice ≡ Some (OfSpins wish) → want ≡ Want.Spin wish
asked-wants v next want watch Choice.Own wish e = own-wants v next want wish e
asked-wants v next want watch (Choice.Serve from) wish e = cc
asked-wants v next want Watch.Halt Choice.Look wish e = cc
asked-wants v next want watch Choice.Look wish e = cc

module _ (v : View) where
  -- more calls of the spinlocks, if they may come after the last item
  spins-more : (h : History) (items items' : List Item) (calls more : List SpinEntry) → AreSpinCalls v h items calls → ((es : List SpinEntry) → AllByRecursion (IsRefusedWish v (history_from v h items)) es → AreSpinCalls v (history_from v h items) items' (es ++ more))
      → AreSpinCalls v h (items ++ items') (calls ++ more)
  spins-more h [] items' calls more are on = on calls are
  spins-more h (i ∷ is) items' calls more are on = (are.0, are.1 ++ more, rw are.2 (simp append_assoc), are.3, spins-more (after v h i) is items' are.1 more are.4 on)

  -- without the refused ones, the calls are those of the items
  thin-wishes : (h : History) (xs : List SpinEntry) → AllByRecursion (IsRefusedWish v h) xs → Thinned IsRefusedCall xs []
  thin-wishes h xs wishes = thin-all IsRefusedCall xs (all-map (IsRefusedWish v h) IsRefusedCall xs (λ e wish. ap (λ (x : SpinEntry). x.reply) wish.call) wishes)

  thin-spins : (h : History) (items : List Item) (calls : List SpinEntry) (log : Calls) → AreSpinCalls v h items calls → AreAnswered v h items log → Thinned IsRefusedCall calls log.spins
  thin-spins h [] calls log are answers = rw answers (thin-wishes h calls are)
  thin-spins h (i ∷ is) calls log are answers =
      let own = call_of_item v.core i in
      rw (are.2, answers.4, called-for v.core (watch_of v h) answers.0 answers.1 i answers.2.names)
      (thin-append IsRefusedCall are.0 (own ++ are.1) [] (own ++ answers.3.spins) (thin-wishes h are.0 are.3)
      (thin-append IsRefusedCall own are.1 own answers.3.spins (thin-none IsRefusedCall own) (thin-spins (after v h i) is are.1 answers.3 are.4 answers.5)))

module _ (v : View) (items : List Item) (made : Calls) (loads : ℕ) (calls : AreCalls v items made loads) where
  -- all calls of the spinlocks without refused ones, and all calls of the board without looks
  pub spins-thin : Thinned IsRefusedCall made.spins calls.log.spins
  spins-thin = thin-spins v [] items made.spins calls.log calls.spins calls.answers

  pub thin : Thinned IsLook made.board calls.log.board
  thin = rw (calls.calls, ← append-nil calls.log.board) (thin-append IsLook calls.before calls.idle calls.log.board [] calls.logged (thin-all IsLook calls.idle (all-map (IsIdleLook v items) IsLook calls.idle (λ e idle. idle.0) calls.looks)))

  -- more looks and more refused calls of a spinlock, which resulted in no item
  idle-on : (made' : Calls) (looks : List BoardEntry) (refused : List SpinEntry) (less : ℕ) → AllByRecursion (IsIdleLook v items) looks → AllByRecursion (IsRefusedWish v (history_from v [] items)) refused
      → made'.board ≡ made.board ++ looks → made'.spins ≡ made.spins ++ refused → less ≤ loads + length looks → AreCalls v items made' less
  idle-on made' looks refused less idle wishes board spins le = record {
    log = calls.log;
    answers = calls.answers;
    before = calls.before;
    idle = calls.idle ++ looks;
    calls = board ∙ rw calls.calls (append_assoc calls.before calls.idle looks);
    logged = calls.logged;
    looks = all-append (IsIdleLook v items) calls.idle looks calls.looks idle;
    enough = omega (arith, calls.enough, le, length-append calls.idle looks);
    spins = rw (spins, ← append-nil items) (spins-more v [] items [] made.spins refused calls.spins (λ es are. all-append (IsRefusedWish v (history_from v [] items)) es refused are wishes));
  }

  -- one more item, in which the reply to this request resulted
  item-on : (made' : Calls) (request : Request) (answer : Reply) (i : Item) → ResultsIn v (history_from v [] items) request answer i
      → made'.board ≡ made.board ++ (call_of_turn v.core request answer).board → made'.spins ≡ made.spins ++ (call_of_turn v.core request answer).spins → AreCalls v (items ++ i ∷ []) made' 0
  item-on made' request answer i leads board spins =
      let told = call_of_turn v.core request answer in
      record {
        log = joined calls.log told;
        answers = answered-push v [] items calls.log request answer i calls.answers leads;
        before = made'.board;
        idle = [];
        calls = sym (append-nil made'.board);
        logged = rw board (thin-append IsLook made.board told.board calls.log.board told.board thin (thin-none IsLook told.board));
        looks = tt;
        enough = omega arith;
        spins = rw (spins, called-for v.core (watch_of v (history_from v [] items)) request answer i leads.names)
            (spins-more v [] items (i ∷ []) made.spins (call_of_item v.core i) calls.spins (λ es are. (es, [], ap (λ (more : List SpinEntry). es ++ more) (sym (append-nil (call_of_item v.core i))), are, tt)));
      }

-- ---- the worker's mail

mail-aside : (i : Item) → is_mail i ≡ false → (c : CoreId) → (is_post_to i c ≡ false) × (is_from i c ≡ false)
mail-aside (Item.Posted to) none c = cc
mail-aside (Item.Received from number message) none c = cc
mail-aside i none c = (refl, refl)

-- The end of the mail sent and took what the item posts and receives, by this history.
abbrev pub HasMailed : Item → History → Streams → Streams → Streams → Streams → Type 0
HasMailed i h sent taken sent' taken' =
    ((to : CoreId) → sent' to ≡ cond (is_post_to i to) (sent to ++ front_letter (outbox h)) (sent to)) × ((from : CoreId) → taken' from ≡ cond (is_from i from) (taken from ++ received_letter i) (taken from))

mail-on : (v : View) (h : History) (sent taken sent' taken' : Streams) (i : Item) → IsMailed v h sent taken None → HasMailed i h sent taken sent' taken' → IsMailed v (after v h i) sent' taken' None
mail-on v h sent taken sent' taken' i mail more = record {
  sent_is = λ to. more.0 to ∙ ap (λ (es : List Letter). cond (is_post_to i to) (es ++ front_letter (outbox h)) es) (mail.sent_is to) ∙ sym (posted-after v to i h);
  taken_is = λ from. more.1 from ∙ ap (λ (es : List Letter). cond (is_from i from) (es ++ received_letter i) es) (mail.taken_is from ∙ append-nil (received from h))
      ∙ sym (received-is v from i h) ∙ sym (append-nil (received from (after v h i)));
  refused = tt;
}

-- ---- a turn that took an item

-- The worker's view of the configuration, and its core's history.
abbrev pub view : {M : Type 0} → Worker M → View
view w = view_of w.run.now.config.now w.core.id

abbrev pub past : {M : Type 0} → Worker M → History
past w = history_by w.run.now.config.now w.core.id w.core.items.items

-- What a turn did before its core took the item: it made this request, and the reply resulted in the item.
module _ {M E : Type 0} (sent taken : M → Streams) (which : M → E) (more : ℕ) (old mid new : Worker M) (request : Request) (answer : Reply) (item : Item)
    (asked : IsAsked old.run.now.config.now old.core request) (names : item_by old.core.id (watch_in old.core.kernel) request answer ≡ Some item) (may : takes_in outbox_size old.core.kernel item ≡ true)
    (took : HasTaken mid new item) (run : mid.run ≡ old.run) (core : mid.core ≡ old.core) (end : which mid.mail ≡ which old.mail)
    (board : mid.seats.board.mine ≡ old.seats.board.mine ++ (call_of_turn old.core.id request answer).board) (spins : mid.seats.spins.mine ≡ old.seats.spins.mine ++ (call_of_turn old.core.id request answer).spins) where
  module _ (stimuli : List CoreStimuli) (loads : ℕ) (done : HasWorked sent taken stimuli None loads old) where
    leads : ResultsIn (view old) (past old) request answer item
    leads = record {
      choice = asked.0;
      next = slice_get old.core.stimuli.now 0;
      asks = rw done.work.seated.tracks.stands.is at asked.1;
      names = rw done.work.seated.tracks.stands.is at names;
    }

    in-turn : IsInTurn (stimuli_of stimuli old.core.id) (course_of (past old)) old.core.items.items item × IsMailFor answer item
    in-turn =
        let state = state_of (view old) (past old) in
        let own = subst (IsOwnRequest (view old) state (slice_get old.core.stimuli.now 0)) (rw done.work.seated.tracks.stands.is at asked.1) (asks-own (view old) state (slice_get old.core.stimuli.now 0) asked.0) in
        follows (view old) (stimuli_of stimuli old.core.id) state old.core.items.items (watch_in state) request answer item
        (subst (λ (next : Option Stimulus). IsOwnRequest (view old) state next (Some request)) (next-left old.run.now.config.now stimuli old.core done.work) own) (rw done.work.seated.tracks.stands.is at names)

    done-on : HasMailed item (past old) (sent old.mail) (taken old.mail) (sent mid.mail) (taken mid.mail) → HasWorked sent taken stimuli None 0 new
    done-on mail =
        let here : Took old.core new.core item = rw core at took.core in
        rw (took.run, run, took.seats, took.mail) (record {
          work = work-on old.run.now.config.now stimuli old.core done.work new.core item here (rw done.work.seated.tracks.stands.is at may) in-turn.0;
          calls = rw (here.id, here.items) (item-on (view old) old.core.items.items (made_from old.seats) loads done.calls (made_from mid.seats) request answer item leads board spins);
          mail = rw (history-on old.run.now.config.now stimuli old.core done.work new.core item here, here.id)
              (mail-on (view old) (past old) (sent old.mail) (taken old.mail) (sent mid.mail) (taken mid.mail) item done.mail mail);
        })

  -- If the end of the mail fits the item, the turn took the item.
  pub turn-took : ((stimuli : List CoreStimuli) (loads : ℕ) → HasWorked sent taken stimuli None loads old → HasMailed item (past old) (sent old.mail) (taken old.mail) (sent mid.mail) (taken mid.mail)) → IsTurn sent taken which more TookOne old new
  turn-took mail = record {
    turns = λ stimuli loads done. done-on stimuli loads done (mail stimuli loads done);
    core = tt;
    same = record { run = took.run ∙ run; id = took.core.id ∙ ap (λ (c : CoreRun). c.id) core; end = ap which took.mail ∙ end };
  }

  -- The turn took the item, and no envelope was sent or taken for it.
  pub plainly-took : (IsMailFor answer item → is_mail item ≡ false) → AreUnchanged (sent old.mail) (sent mid.mail) → AreUnchanged (taken old.mail) (taken mid.mail) → IsTurn sent taken which more TookOne old new
  plainly-took plain same_sent same_taken =
      turn-took (λ stimuli loads done. let aside = mail-aside item (plain (in-turn stimuli loads done).1) in
      (λ to. rw (aside to).0 (same_sent to), λ from. rw (aside from).1 (same_taken from)))

-- The front of the outbox was sent.
pub front-sent : {M : Type 0} (sent taken : M → Streams) (stimuli : List CoreStimuli) (loads : ℕ) (old : Worker M) (sent' : Streams) (to first : CoreId) (e : Envelope) → HasWorked sent taken stimuli None loads old → front_of old.core.kernel.border.outbox ≡ Some (first, e)
    → HasOneMore to e.letter (sent old.mail) sent' → (d : CoreId) → sent' d ≡ cond (same_core to d) (sent old.mail d ++ front_letter (outbox (past old))) (sent old.mail d)
front-sent sent taken stimuli loads old sent' to first e done front grown d =
    grown d ∙ ap (λ (es : List Letter). cond (same_core to d) (sent old.mail d ++ es) (sent old.mail d)) (sym (by (outbox (past old)) (rw done.work.seated.tracks.stands.is at front)))
  where
    by : (out : List Sent) → front_of out ≡ Some (first, e) → front_letter out ≡ e.letter ∷ []
    by [] none = cc
    by (s ∷ ss) there = ap (λ (x : CoreId × Envelope). x.1.letter ∷ []) (same_Some _ _ there)

-- ---- a turn that took none

module _ {M E : Type 0} (sent taken : M → Streams) (which : M → E) (old new : Worker M) (run : new.run ≡ old.run) (core : new.core ≡ old.core) (mail : new.mail ≡ old.mail) where
  idle-turn : (more : ℕ) → ((stimuli : List CoreStimuli) (loads : ℕ) → HasWorked sent taken stimuli None loads old → AreCalls (view old) old.core.items.items (made_from new.seats) (loads + more)) → IsTurn sent taken which more Nothing old new
  idle-turn more calls = record {
    turns = λ stimuli loads done. rw (run, core, mail) (record { work = done.work; calls = calls stimuli loads done; mail = done.mail });
    core = core;
    same = record { run = run; id = ap (λ (c : CoreRun). c.id) core; end = ap which mail };
  }

  -- a look that resulted in no item
  pub look-idle : (e : BoardEntry) → IsLook e → IsFruitless old.core.id old.core.kernel (OfBoard e.call) (Replied e.reply) → new.seats.board.mine ≡ old.seats.board.mine ++ e ∷ [] → new.seats.spins.mine ≡ old.seats.spins.mine → IsTurn sent taken which 1 Nothing old new
  look-idle e look none one same =
      idle-turn 1 (λ stimuli loads done. idle-on (view old) old.core.items.items (made_from old.seats) loads done.calls (made_from new.seats) (e ∷ []) [] (loads + 1) ((look, rw done.work.seated.tracks.stands.is at none), tt) tt
      one (same ∙ sym (append-nil old.seats.spins.mine)) (omega arith))

  -- a call of a spinlock that was refused, and that the core waits for
  pub spin-idle : (wish : SpinWish) (e : SpinEntry) → IsAsked old.run.now.config.now old.core (OfSpins wish) → MayWait (OfSpins wish) → e ≡ entry old.core.id (spin_call_of wish) (Answered false) → new.seats.board.mine ≡ old.seats.board.mine → new.seats.spins.mine ≡ old.seats.spins.mine ++ e ∷ []
      → IsTurn sent taken which 0 Nothing old new
  spin-idle wish e asked waits is same one =
      idle-turn 0 (λ stimuli loads done.
      let wanted = asked-wants (view old) (slice_get old.core.stimuli.now 0) (want_in old.core.kernel) (watch_in old.core.kernel) asked.0 wish asked.1 in
      idle-on (view old) old.core.items.items (made_from old.seats) loads done.calls (made_from new.seats) [] (e ∷ []) (loads + 0)
      tt (record { wish = wish; wanted = rw done.work.seated.tracks.stands.is at wanted; waits = waits; call = is }, tt) (same ∙ sym (append-nil old.seats.board.mine)) one (omega arith))
