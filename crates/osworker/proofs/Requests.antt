-- What a worker's turns request, and the items that result from the replies.
use Rattle.std.proofs.Common.{◌≡◌, ◌⊎◌, Bool, true, false, cond, Option, Some, None, IsTrue, List, [], ◌∷◌, ◌++◌, length, refl, sym, ap, subst, ◌∙◌, arith, unwrap_or}
use Rattle.std.proofs.{lemmas.Bool.ltb-true, lemmas.Option.same_Some}
use Rattle.osbase.specs.{declared.statuses.Status.Status, declared.statuses.Status.TheVariants.EOk, declared.statuses.Status.TheVariants.EOsState, declared.references.CoreId.CoreId, declared.items.CoreMode.CoreMode, declared.items.CoreMode.TheVariants.Named, declared.items.CoreMode.TheVariants.DontCare, declared.items.Item.Item, declared.items.Stimulus.Stimulus, declared.turns.Choice.Choice, History.same_core, Sets.has_core}
use Rattle.osplan.specs.{declared.plans.Plan.Plan, declared.plans.Core.Core}
use Rattle.osplan.specs.Limits.{is_core_known, is_core_mode, is_within_limits, sizes_of}
use Rattle.osplan.specs.View.{View, core_of, is_configured, no_core, view_of}
use Rattle.osplan.proofs.{Numbered.configured-low, Tests.find-passes, Within.few-modes, Within.limit-parts}
use Rattle.osstate.proofs.Begun.{is_some-core_of}
use Rattle.osstate.specs.State.{KernelState}
use Rattle.osadmit.specs.Admission.{takes_in}
use Rattle.oskernel.specs.{declared.wants.Want.Want, declared.wants.Watch.Watch, Step.outbox_size, Wants.want_in, Wants.watch_in, declared.wants.SpinWish.SpinWish}
use Rattle.osshared.specs.{declared.histories.Entry.Entry, Seats.Extends, Seats.Held}
use Rattle.osshared.specs.Histories.{IsLegal, IsLegalFrom, Object, entry}
use Rattle.osboard.specs.{declared.calls.BoardState.BoardState, declared.calls.BoardCall.BoardCall, declared.calls.BoardReply.BoardReply}
use Rattle.osboard.specs.declared.calls.BoardCall.TheVariants.{Start, Enter, MakeReady, Drain, AskHalt, LookHalt}
use Rattle.osboard.specs.declared.calls.BoardReply.TheVariants.{Halting}
use Rattle.osboard.specs.Boards.{HasPlace, IsMode, board_reply, first_asked, one_board, start_answer}
use Rattle.osspin.specs.{declared.calls.SpinCall.SpinCall, declared.calls.SpinReply.SpinReply, declared.calls.SpinReply.TheVariants.Answered}
use Rattle.osspin.specs.Spins.{holder_of, is_free, is_held_by, spin_reply, spinlocks}
use Rattle.osrun.specs.{declared.requests.Request.Request, declared.requests.Reply.Reply, declared.requests.Reply.TheVariants.Replied, declared.requests.Reply.TheVariants.Unasked}
use Rattle.osrun.specs.declared.requests.Request.TheVariants.{OfBoard, OfSpins, Oldest, StartUnknown, TakeStimulus}
use Rattle.oskernel.specs.declared.wants.SpinWish.TheVariants as Wish
use Rattle.osrun.specs.Requests.{request_by, item_by, no_calls, own_request, spin_call_of, item_of_spinlock, start_request, call_of_turn}
use Rattle.osrun.proofs.Resulting.{is-item}
use Rattle.osworker.specs.Calling.{ChangesBoard, item_of_call, item_of_wish}
use Rattle.osworker.specs.{declared.turns.Turned.Turned, declared.turns.Turned.TheVariants.Took, declared.turns.Turned.TheVariants.Nothing, declared.turns.Turned.TheVariants.Refused}
use Rattle.osworker.specs.Working.{IsFruitless, IsStuck, MayAnswer, UnlessTook, MayWait}

-- ---- replies

-- The reply to the last call of a legal history is the object's.
module _ {A S C R : Type 0} (o : Object A S C R) where
  legal-last : (s : S) (xs : List (Entry C R)) (e : Entry C R) → IsLegalFrom o s (xs ++ e ∷ []) → (t : S) × (e.reply ≡ o.reply e.core e.call t)
  legal-last s [] e legal = (s, legal.0)
  legal-last s (x ∷ xs) e legal = legal-last (o.after x.core x.call s) xs e legal.1

  pub replied-by : (old new : Held A C R) (call : C) (reply : R) → Extends o old (entry old.core call reply) new → (t : S) × (reply ≡ o.reply old.core call t)
  replied-by old new call reply made =
      legal-last (o.first old.place.plan.about) (old.seen ++ made.between) (entry old.core call reply)
      (subst (λ (es : List (Entry C R)). IsLegal o old.place.plan.about es) made.seen made.legal)

-- A call that changes the board results in an item. The core takes it exactly if it takes the expected one.
pub record CallResultsIn (id : CoreId) (watch : Watch) (call : BoardCall) (reply : BoardReply) : Type 0 where
  pub item : Item
  pub names : item_by id watch (OfBoard call) (Replied reply) ≡ Some item
  pub same : (s : KernelState) → takes_in outbox_size s item ≡ takes_in outbox_size s (item_of_call id call)

result-of : (id : CoreId) (watch : Watch) (call : BoardCall) (t : BoardState) → ChangesBoard call → CallResultsIn id watch call (board_reply id call t)
result-of id watch (Start k) t changes = record { item = Item.Began k (start_answer t.view k); names = refl; same = λ s. by s (has_core t.view.started k) }
  where
    by : (s : KernelState) (b : Bool) → takes_in outbox_size s (Item.Began k (cond b EOsState EOk)) ≡ takes_in outbox_size s (Item.Began k EOk)
    by s true = refl
    by s false = refl
result-of id watch (Enter mode) t changes = record { item = Item.Entered; names = refl; same = λ s. refl }
result-of id watch (AskHalt status) t changes = record { item = Item.Halt (first_asked t.halt (id, status)).0 (first_asked t.halt (id, status)).1; names = refl; same = λ s. refl }
result-of id watch MakeReady t changes = record { item = Item.Readied; names = refl; same = λ s. refl }
result-of id watch Drain t changes = record { item = Item.Drained; names = refl; same = λ s. refl }
result-of id watch call t changes = absurd changes

pub call-results : (id : CoreId) (watch : Watch) (old new : Held CoreId BoardCall BoardReply) (call : BoardCall) (reply : BoardReply) → old.core ≡ id → ChangesBoard call → Extends one_board old (entry old.core call reply) new → CallResultsIn id watch call reply
call-results id watch old new call reply own changes made =
    let t = replied-by one_board old new call reply made in
    subst (CallResultsIn id watch call) (sym (t.1 ∙ ap (λ (c : CoreId). board_reply c call t.0) own)) (result-of id watch call t.0 changes)

-- The core takes the item of the reply exactly if it takes the expected one.
pub board-takes : (id : CoreId) (k : KernelState) (call : BoardCall) (reply : BoardReply) (item : Item) → CallResultsIn id (watch_in k) call reply → item_by id (watch_in k) (OfBoard call) (Replied reply) ≡ Some item → takes_in outbox_size k item ≡ takes_in outbox_size k (item_of_call id call)
board-takes id k call reply item results names = rw (same_Some item results.item (sym names ∙ results.names)) (results.same k)

-- If the core does not take the item that results from the answer, the answer is fruitless.
pub refused-item : (id : CoreId) (k : KernelState) (request : Request) (answer : Reply) (i : Item) → item_by id (watch_in k) request answer ≡ Some i → takes_in outbox_size k i ≡ false → IsFruitless id k request answer
refused-item id k request answer i names not_this item is = rw (same_Some item i (sym is ∙ names)) not_this

-- A core that watches for a shutdown of all cores halts if one was requested, and takes no item if none was.
module _ (id : CoreId) (k : KernelState) (watch : watch_in k ≡ Watch.Halt) where
  pub halts : (halt : Option (CoreId × Status)) (asked : CoreId × Status) → halt ≡ Some asked → item_by id (watch_in k) (OfBoard LookHalt) (Replied (Halting halt)) ≡ Some (Item.Halt asked.0 asked.1)
  halts halt asked is = rw (watch, is) refl

  pub unasked : (halt : Option (CoreId × Status)) → ((asked : CoreId × Status) → halt ≡ Some asked → ⊥) → IsFruitless id k (OfBoard LookHalt) (Replied (Halting halt))
  unasked (Some asked) none item names = absurd (none asked refl)
  unasked None none item names = let nothing = rw watch at names in cc

-- If the core does not take the expected item of a call that changes the board, it takes no item, whatever the board
-- answers.
pub call-fruitless : (id : CoreId) (k : KernelState) (call : BoardCall) → ChangesBoard call → takes_in outbox_size k (item_of_call id call) ≡ false → (answer : Reply) → MayAnswer id (OfBoard call) answer → IsFruitless id k (OfBoard call) answer
call-fruitless id k call changes not_this answer may =
    let results = result-of id (watch_in k) call may.0 changes in
    rw may.1 (refused-item id k (OfBoard call) (Replied (board_reply id call may.0)) results.item results.names (results.same k ∙ not_this))

-- The core takes the item of a spinlock's answer exactly if it takes the expected one.
pub spinlock-same : (s : KernelState) (wish : SpinWish) (reply : SpinReply) (i : Item) → item_of_spinlock wish reply ≡ Some i → takes_in outbox_size s i ≡ takes_in outbox_size s (item_of_wish wish)
spinlock-same s (Wish.Get l) (Answered true) i e = is-item (λ (j : Item). takes_in outbox_size s j ≡ takes_in outbox_size s (Item.Granted l)) (Item.Granted l) i refl e
spinlock-same s (Wish.Try l) (Answered taken) i e = is-item (λ (j : Item). takes_in outbox_size s j ≡ takes_in outbox_size s (Item.Tried l true)) (Item.Tried l taken) i refl e
spinlock-same s (Wish.Free l) (Answered true) i e = is-item (λ (j : Item). takes_in outbox_size s j ≡ takes_in outbox_size s (Item.Freed l)) (Item.Freed l) i refl e
spinlock-same s wish reply i e = cc

-- If the core does not take the expected item, it takes no item, whatever the spinlock answers.
pub wish-fruitless : (id : CoreId) (k : KernelState) (wish : SpinWish) → takes_in outbox_size k (item_of_wish wish) ≡ false → (answer : Reply) → MayAnswer id (OfSpins wish) answer → IsFruitless id k (OfSpins wish) answer
wish-fruitless id k wish not_this answer may = rw may.1 (λ item names. spinlock-same k wish (spin_reply id (spin_call_of wish) may.0) item names ∙ not_this)

-- A call of a spinlock that results in no item was refused, and it was not a try.
pub record IsUnspun (wish : SpinWish) (reply : SpinReply) : Type 0 where
  pub refused : reply ≡ Answered false
  pub waits : MayWait (OfSpins wish)

pub unspun : (id : CoreId) (wish : SpinWish) (old new : Held Unit SpinCall SpinReply) (call : SpinCall) (reply : SpinReply) → old.core ≡ id → call ≡ spin_call_of wish → Extends spinlocks old (entry old.core call reply) new → ((i : Item) → item_of_spinlock wish reply ≡ Some i → ⊥) → IsUnspun wish reply
unspun id wish old new call reply own is made none =
    let t = replied-by spinlocks old new call reply made in
    let bit = answered wish t.0 in
    let is_reply : reply ≡ Answered bit.0 = t.1 ∙ (λ i. spin_reply (own i) (is i) t.0) ∙ bit.1 in
    rw is_reply (by wish bit.0 (λ i names. none i (rw is_reply names)))
  where
    answered : (wish : SpinWish) (holders : List (Option CoreId)) → (b : Bool) × (spin_reply id (spin_call_of wish) holders ≡ Answered b)
    answered (Wish.Get l) holders = (is_free (holder_of holders l), refl)
    answered (Wish.Try l) holders = (is_free (holder_of holders l), refl)
    answered (Wish.Free l) holders = (is_held_by id (holder_of holders l), refl)

    by : (wish : SpinWish) (b : Bool) → ((i : Item) → item_of_spinlock wish (Answered b) ≡ Some i → ⊥) → IsUnspun wish (Answered b)
    by (Wish.Get l) true none = absurd (none (Item.Granted l) refl)
    by (Wish.Try l) b none = absurd (none (Item.Tried l b) refl)
    by (Wish.Free l) true none = absurd (none (Item.Freed l) refl)
    by wish b none = record { refused = refl; waits = tt }

-- ---- turns that changed nothing

pub unless-weaker : {P Q : Type 0} (turned : Turned) → (P → Q) → UnlessTook turned P → UnlessTook turned Q
unless-weaker Took so was = tt
unless-weaker Nothing so was = so was
unless-weaker (Refused from e) so was = so was

-- The core's own turn makes only this request.
pub one-asked : (v : View) (k : KernelState) (next : Option Stimulus) (request : Request) (turned : Turned) → request_by v (want_in k) (watch_in k) next Choice.Own ≡ Some request
    → UnlessTook turned (MayWait request ⊎ ((answer : Reply) → MayAnswer v.core request answer → IsFruitless v.core k request answer)) → UnlessTook turned (IsStuck v k next)
one-asked v k next request turned asks = unless-weaker turned (λ none other e. rw (same_Some other request (sym e ∙ asks)) none)

-- Only the answer that there was no call can result in an item.
pub start-fruitless : (id : CoreId) (k : KernelState) (c : CoreId) → IsFruitless id k (StartUnknown c) Unasked → (answer : Reply) → MayAnswer id (StartUnknown c) answer → IsFruitless id k (StartUnknown c) answer
start-fruitless id k c none Unasked may = none
start-fruitless id k c none answer may = λ item names. cc

pub stimulus-fruitless : (id : CoreId) (k : KernelState) (s : Stimulus) → IsFruitless id k (TakeStimulus s) Unasked → (answer : Reply) → MayAnswer id (TakeStimulus s) answer → IsFruitless id k (TakeStimulus s) answer
stimulus-fruitless id k s none Unasked may = none
stimulus-fruitless id k s none answer may = λ item names. cc

-- If the answer is that there was no call, the turn made no call.
pub unasked-silent : (id : CoreId) (request : Request) → call_of_turn id request Unasked ≡ no_calls
unasked-silent id (OfBoard call) = refl
unasked-silent id (OfSpins wish) = refl
unasked-silent id request = refl

-- ---- what the board has a place for

module _ (plan : Plan) (limits : IsTrue (is_within_limits plan)) where
  mode-low : (mode : CoreMode) → is_core_mode plan mode ≡ true → IsMode mode
  mode-low (Named m) known = omega (arith, ltb-true m.index (length plan.modes) known, few-modes (sizes_of plan) (limit-parts plan limits).sizes)
  mode-low DontCare known = tt

  mode-of : (id : CoreId) (o : Option Core) → core_of plan id ≡ o → IsMode (unwrap_or o (no_core id)).mode
  mode-of id None found = tt
  mode-of id (Some core) found =
      let known = find-passes (λ (c : Core). same_core c.id id) (is_core_known plan) plan.cores core (limit-parts plan limits).known found in
      mode-low core.mode (grind arith)

  -- What a core's own turn may request: of the board only a call that changes it and has a place there, and not to
  -- serve another core.
  abbrev IsOwn : Option Request → Type 0
  IsOwn (Some (OfBoard call)) = ChangesBoard call × HasPlace call
  IsOwn (Some (Oldest from)) = ⊥
  IsOwn o = Unit {0}

  own-asks : (id : CoreId) (next : Option Stimulus) (want : Want) → IsOwn (own_request (view_of plan id) next want)
  own-asks id next (Want.Start k) = by (is_configured (view_of plan id) k) refl
    where
      by : (b : Bool) → is_configured (view_of plan id) k ≡ b → IsOwn (Some (start_request k b))
      by true e = (tt, configured-low plan k limits (is_some-core_of k plan.cores ∙ e))
      by false e = tt
  own-asks id next Want.Enter = (tt, mode-of id (core_of plan id) refl)
  own-asks id next Want.Ready = (tt, tt)
  own-asks id next (Want.AskHalt status) = (tt, tt)
  own-asks id None Want.GoOn = (tt, tt)
  own-asks id next Want.Drain = (tt, tt)
  own-asks id next want = tt

  pub own-board : (id : CoreId) (next : Option Stimulus) (want : Want) (call : BoardCall) → own_request (view_of plan id) next want ≡ Some (OfBoard call) → ChangesBoard call × HasPlace call
  own-board id next want call asks = subst IsOwn asks (own-asks id next want)
