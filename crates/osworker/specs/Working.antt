-- What a worker of one core has done, said of its core, of its calls of the board and the spinlocks, and of its end of
-- the mail. [own]
use Rattle.std.specs.Prelude.{◌≡◌, ◌⊎◌, ◌+◌, ◌/◌, ◌<◌, ◌≤◌, ℕ, Bool, true, false, Option, Some, None, if◌then◌else◌, List, [], ◌∷◌, ◌++◌, length, slice_get, vec_len, vec_capacity}
use Rattle.std.specs.List.{AllByRecursion}
use Rattle.osbase.specs.{declared.references.CoreId.CoreId, declared.messages.Letter.Letter, declared.items.Item.Item, declared.items.Stimulus.Stimulus, declared.turns.Choice.Choice, declared.turns.CoreStimuli.CoreStimuli, declared.turns.Report.Report, Runs.stimuli_of}
use Rattle.osbase.specs.History.{History, posted, received, same_core}
use Rattle.osplan.specs.{declared.plans.Plan.Plan, View.View, View.view_of}
use Rattle.osstate.specs.State.{KernelState, state_of}
use Rattle.osadmit.specs.Admission.{takes_in}
use Rattle.oskernel.specs.Step.{after, history_from, outbox_size, serves, takes}
use Rattle.oskernel.specs.{Wants.want_in, Wants.want_of, Wants.watch_in, declared.wants.SpinWish.SpinWish, declared.wants.Want.Want}
use Rattle.osshared.specs.Histories.{Thinned, entry}
use Rattle.osboard.specs.{declared.calls.BoardCall.BoardCall, declared.calls.BoardState.BoardState}
use Rattle.osboard.specs.Boards.{BoardEntry, HasPlace, IsLook, board_reply}
use Rattle.osspin.specs.{declared.calls.SpinReply.TheVariants.Answered, Spins.SpinEntry, Spins.spin_reply}
use Rattle.osmail.specs.Ends.{Streams}
use Rattle.osrun.specs.{declared.requests.Reply.Reply, declared.requests.Reply.TheVariants.Replied, declared.requests.Reply.TheVariants.Spun, declared.requests.Request.Request, declared.requests.Request.TheVariants.OfBoard, declared.requests.Request.TheVariants.OfSpins, declared.requests.Request.TheVariants.Room, declared.core_runs.CoreRun.CoreRun, Sound.IsOwn}
use Rattle.oskernel.specs.declared.wants.SpinWish.TheVariants as Wish
use Rattle.osrun.specs.Requests.{Calls, request_by, call_of_item, item_by, spin_call_of}
use Rattle.osrun.specs.Fits.{AreAnswered, FitsCore, history_by, ids_of, stimuli_in}
use Rattle.osrun.specs.CoreRuns.{HasRoomForItem, IsCoreRun, Keeps, Took as TookItem}
use Rattle.osworker.specs.{declared.run.Run.Run, Seats.made_from, declared.turns.Stop.Stop, declared.turns.Turned.Turned, declared.turns.Turned.TheVariants.Took, declared.turns.Turned.TheVariants.Nothing, declared.turns.Turned.TheVariants.Refused, declared.worker.Worker.Worker, declared.worker.Worked.Worked}

-- ---- what a turn requests

-- Some turn of the core makes this request.
abbrev pub IsAsked : Plan → CoreRun → Request → Type 0
IsAsked plan core request = (choice : Choice) × (request_by (view_of plan core.id) (want_in core.kernel) (watch_in core.kernel) (slice_get core.stimuli.now 0) choice ≡ Some request)

-- Some turn of the worker's core makes this call of the board, and the board has a place for the core or the mode that
-- the call names.
pub record AsksBoard {M : Type 0} (w : Worker M) (call : BoardCall) : Type 0 where
  pub asked : IsAsked w.run.now.config.now w.core (OfBoard call)
  pub place : HasPlace call

-- In this state of its core, the reply to a request results in no item that the core takes.
abbrev pub IsFruitless : CoreId → KernelState → Request → Reply → Type 0
IsFruitless id k request answer = (item : Item) → item_by id (watch_in k) request answer ≡ Some item → takes_in outbox_size k item ≡ false

-- This may be the reply to a core's request: to a call of the board, the board's reply in some state; to a call of a
-- spinlock, the reply for some holders of the spinlocks; to any other request, any reply.
abbrev pub MayAnswer : CoreId → Request → Reply → Type 0
MayAnswer id (OfBoard call) answer = (board : BoardState) × (answer ≡ Replied (board_reply id call board))
MayAnswer id (OfSpins wish) answer = (holders : List (Option CoreId)) × (answer ≡ Spun (spin_reply id (spin_call_of wish) holders))
MayAnswer id request answer = Unit {0}

-- The request may have to wait: for room in a mailbox, GetSpinlock for its spinlock, and a release until it is done. A
-- release is refused only to a core that does not hold the spinlock. The checks of ReleaseSpinlock and what the kernel
-- owes rule that out. But no law of the kernel carries that from the check to the turn that asks, so a release is
-- listed here too.
abbrev pub MayWait : Request → Type 0
MayWait (Room to) = Unit {0}
MayWait (OfSpins (Wish.Get l)) = Unit {0}
MayWait (OfSpins (Wish.Free l)) = Unit {0}
MayWait request = ⊥

-- The core can do nothing alone: its own turn requests nothing, or its request may have to wait, or no reply to the
-- request results in an item that the core takes. Here `next` is the core's next stimulus, if one is left.
abbrev pub IsStuck : View → KernelState → Option Stimulus → Type 0
IsStuck v k next = (request : Request) → request_by v (want_in k) (watch_in k) next Choice.Own ≡ Some request → MayWait request ⊎ ((answer : Reply) → MayAnswer v.core request answer → IsFruitless v.core k request answer)

-- ---- what a worker has done

-- The core's state is that after its items, and the items fit the stimuli listed for the core.
pub record IsAtWork (plan : Plan) (stimuli : List CoreStimuli) (core : CoreRun) : Type 0 where
  pub seated : IsCoreRun plan stimuli core
  pub fits : FitsCore plan stimuli core.id core.items.items

-- A look whose answer, after these items, results in no item that the core takes.
abbrev pub IsIdleLook : View → List Item → BoardEntry → Type 0
IsIdleLook v items e = IsLook e × IsFruitless v.core (state_of v (history_from v [] items)) (OfBoard e.call) (Replied e.reply)

-- A call of a spinlock that resulted in no item: it was refused, and is what the core waited for after this history.
pub record IsRefusedWish (v : View) (h : History) (e : SpinEntry) : Type 0 where
  pub wish : SpinWish
  pub wanted : want_of v h ≡ Want.Spin wish
  pub waits : MayWait (OfSpins wish)
  pub call : e ≡ entry v.core (spin_call_of wish) (Answered false)

-- After this history, the calls of the spinlocks are those that resulted in these items, in order, and refused ones.
-- Any number of refused calls may stand before each item and after the last one. Each is for what the core waited for
-- there.
abbrev pub AreSpinCalls : View → History → List Item → List SpinEntry → Type 0
AreSpinCalls v h [] calls = AllByRecursion (IsRefusedWish v h) calls
AreSpinCalls v h (i ∷ is) calls =
    (refused : List SpinEntry) × (rest : List SpinEntry)
    × (calls ≡ refused ++ (call_of_item v.core i ++ rest)) × AllByRecursion (IsRefusedWish v h) refused × AreSpinCalls v (after v h i) is rest

-- The calls are those that resulted in the core's items, in order, and calls that resulted in none. The latter are
-- looks at the board, and refused calls of a spinlock that the core waited for. The calls of the board end with at
-- least `loads` looks after the last item.
pub record AreCalls (v : View) (items : List Item) (made : Calls) (loads : ℕ) : Type 0 where
  pub log : Calls
  pub answers : AreAnswered v [] items log
  pub before : List BoardEntry
  pub idle : List BoardEntry
  pub calls : made.board ≡ before ++ idle
  pub logged : Thinned IsLook before log.board
  pub looks : AllByRecursion (IsIdleLook v items) idle
  pub enough : loads ≤ length idle
  pub spins : AreSpinCalls v [] items made.spins

-- The letter of an envelope that was taken and became no item, with its sender; none if there is no such envelope.
abbrev pub Refusal : Type 0
Refusal = Option (CoreId × Letter)

-- The refused letters from each core: the refused letter from its sender, and none from any other core.
abbrev pub refused_from : Refusal → Streams
refused_from None s = []
refused_from (Some refusal) s = if same_core refusal.0 s then refusal.1 ∷ [] else []

-- If a letter was refused, the core could have taken a letter after this history, but not this one.
abbrev pub IsRefused : View → History → Refusal → Type 0
IsRefused v h None = Unit {0}
IsRefused v h (Some refusal) = (serves outbox_size v h ≡ true) × (takes outbox_size v h (Item.Received refusal.0 refusal.1.number refusal.1.message) ≡ false)

-- The core's end of the mail sent what the core posted. It took what the core received, and then the refused letter, if
-- there is one. That letter the core could not take (`IsRefused`).
pub record IsMailed (v : View) (h : History) (sent taken : Streams) (refusal : Refusal) : Type 0 where
  pub sent_is : (to : CoreId) → sent to ≡ posted to h
  pub taken_is : (from : CoreId) → taken from ≡ received from h ++ refused_from refusal from
  pub refused : IsRefused v h refusal

-- All that holds of a worker's core (`IsAtWork`), of its calls (`AreCalls`) and of its mail (`IsMailed`).
pub record HasDone (plan : Plan) (stimuli : List CoreStimuli) (core : CoreRun) (made : Calls) (sent taken : Streams) (refusal : Refusal) (loads : ℕ) : Type 0 where
  pub work : IsAtWork plan stimuli core
  pub calls : AreCalls (view_of plan core.id) core.items.items made loads
  pub mail : IsMailed (view_of plan core.id) (history_by plan core.id core.items.items) sent taken refusal

-- `HasDone` holds of the worker, with the calls from its seats and with what its end of the mail sent and took.
abbrev pub HasWorked : {M : Type 0} → (M → Streams) → (M → Streams) → List CoreStimuli → Refusal → ℕ → Worker M → Type 0
HasWorked sent taken stimuli refusal loads w = HasDone w.run.now.config.now stimuli w.core (made_from w.seats) (sent w.mail) (taken w.mail) refusal loads

-- ---- a turn

-- There is room for one more item, its lines and its clock.
pub record MayTake {M : Type 0} (w : Worker M) : Type 0 where
  pub core : HasRoomForItem w.core
  pub clocks : vec_len w.stamps.clocks < vec_capacity w.stamps.clocks

-- There is room for a turn: for an item with its lines and its clock, and for the record of an envelope.
pub record MayTurn {M : Type 0} (has_room : M → Type 0) (w : Worker M) : Type 0 where
  pub room : MayTake w
  pub mail : has_room w.mail

-- The worker is of the same run and the same core, and has the same end of the mail.
pub record IsSameWorker {M E : Type 0} (which : M → E) (old new : Worker M) : Type 0 where
  pub run : new.run ≡ old.run
  pub id : new.core.id ≡ old.core.id
  pub end : which new.mail ≡ which old.mail

-- The letter that the turn took and the core could not take, with its sender; none if there is no such letter.
abbrev pub refusal_of : Turned → Refusal
refusal_of Took = None
refusal_of Nothing = None
refusal_of (Refused from e) = Some (from, e)

-- The number of looks without an item at the end of the calls, after a turn. A turn that changes nothing adds `more`
-- looks. After any other turn, the number is 0.
abbrev pub loads_after : ℕ → Turned → ℕ → ℕ
loads_after more Nothing loads = loads + more
loads_after more Took loads = 0
loads_after more (Refused from e) loads = 0

-- If `HasWorked` holds of the old worker, without a refused letter, it holds of the new one. The turn may add a refused
-- letter (`refusal_of`), and changes the number of looks (`loads_after`).
abbrev pub Turns : {M : Type 0} → (M → Streams) → (M → Streams) → ℕ → Turned → Worker M → Worker M → Type 0
Turns sent taken more turned old new =
    (stimuli : List CoreStimuli) (loads : ℕ) → HasWorked sent taken stimuli None loads old → HasWorked sent taken stimuli (refusal_of turned) (loads_after more turned loads) new

-- `P` holds unless the turn took an item.
abbrev pub UnlessTook : Turned → Type 0 → Type 0
UnlessTook Took P = Unit {0}
UnlessTook turned P = P

-- What the worker has done changes as `Turns` says. The worker keeps its run, its core's number and its end of the
-- mail. Unless the turn took an item, its core is as it was.
pub record IsTurn {M E : Type 0} (sent taken : M → Streams) (which : M → E) (more : ℕ) (turned : Turned) (old new : Worker M) : Type 0 where
  pub turns : Turns sent taken more turned old new
  pub core : UnlessTook turned (new.core ≡ old.core)
  pub same : IsSameWorker which old new

-- What the worker has done is unchanged. So is its core, except for the capacity of its vectors. The worker keeps its
-- run and its end of the mail.
pub record IsUnchanged {M E : Type 0} (sent taken : M → Streams) (which : M → E) (old new : Worker M) : Type 0 where
  pub turns : Turns sent taken 0 Nothing old new
  pub core : Keeps old.core new.core
  pub same : IsSameWorker which old new

-- The worker's core took this item, and nothing else changed but the clocks.
pub record HasTaken {M : Type 0} (old new : Worker M) (item : Item) : Type 0 where
  pub core : TookItem old.core new.core item
  pub run : new.run ≡ old.run
  pub seats : new.seats ≡ old.seats
  pub mail : new.mail ≡ old.mail

-- The worker's core can do nothing alone.
abbrev pub HasNoWork : {M : Type 0} → Worker M → Type 0
HasNoWork w = IsStuck (view_of w.run.now.config.now w.core.id) w.core.kernel (slice_get w.core.stimuli.now 0)

-- ---- the end

-- The letter for which the worker stopped, with its sender; none if it stopped for something else.
abbrev pub refusal_at : Stop → Refusal
refusal_at Stop.Ended = None
refusal_at Stop.Stalled = None
refusal_at Stop.NoMemory = None
refusal_at Stop.Told = None
refusal_at (Stop.Refused from e) = Some (from, e)

-- The worker stopped since an allocation failed, or on request.
abbrev pub was_stopped_by : Stop → Bool
was_stopped_by Stop.NoMemory = true
was_stopped_by Stop.Told = true
was_stopped_by stop = false

-- Each envelope that the worker took became an item.
abbrev pub is_kept_by : Stop → Bool
is_kept_by (Stop.Refused from e) = false
is_kept_by stop = true

-- The worker stopped since its core had ended.
abbrev pub is_ended_by : Stop → Bool
is_ended_by Stop.Ended = true
is_ended_by stop = false

-- The worker stopped since its core had ended, or since its turns changed nothing any more.
abbrev pub is_finished_by : Stop → Bool
is_finished_by Stop.Ended = true
is_finished_by Stop.Stalled = true
is_finished_by stop = false

-- `turns` turns in a row changed nothing. A round has at most a turn per configured core (its own included) and a look,
-- so the core's board calls end with at least a look per full round. If `turns` exceeds the number of configured cores,
-- the core can do nothing alone: its own turn's request may have to wait (see `MayWait`), or results in no item.
pub record HasStalled (plan : Plan) (stimuli : List CoreStimuli) (turns : ℕ) (report : Report) (loads : ℕ) : Type 0 where
  pub rounds : turns / (length (ids_of plan) + 1) ≤ loads
  pub stuck : length (ids_of plan) < turns
      → IsStuck (view_of plan report.core) (state_of (view_of plan report.core) (history_by plan report.core report.items)) (slice_get (stimuli_of stimuli report.core) (length (stimuli_in report.items)))

-- The worker that gave this report made these calls. Its core has ended, or the worker stalled (`HasStalled`).
pub record IsFinished (plan : Plan) (stimuli : List CoreStimuli) (turns : ℕ) (report : Report) (made : Calls) : Type 0 where
  pub loads : ℕ
  pub calls : AreCalls (view_of plan report.core) report.items made loads
  pub stalled : report.ended ≡ false → HasStalled plan stimuli turns report loads

-- What a worker hands back. Its report is that of its own items (`IsOwn`), which fit what was listed. Its calls are
-- those that resulted in items, looks at the board, and refused calls of a spinlock that the core waited for. Its end
-- of the mail sent what was posted and took what was received, but for a letter that the core could not take. Its core
-- has ended exactly if the worker stopped for that. If it stopped since its turns changed nothing, it has stalled
-- (`HasStalled`).
pub record IsWorked {M : Type 0} (sent taken : M → Streams) (run : Run) (worked : Worked M) : Type 0 where
  pub own : IsOwn run.config.now worked.report
  pub fits : FitsCore run.config.now run.stimuli.now worked.report.core worked.report.items
  pub loads : ℕ
  pub calls : AreCalls (view_of run.config.now worked.report.core) worked.report.items (made_from worked.seats) loads
  pub mail : IsMailed (view_of run.config.now worked.report.core) (history_by run.config.now worked.report.core worked.report.items) (sent worked.mail) (taken worked.mail) (refusal_at worked.stop)
  pub ended : worked.report.ended ≡ is_ended_by worked.stop
  pub stalled : worked.stop ≡ Stop.Stalled → HasStalled run.config.now run.stimuli.now run.turns worked.report loads
