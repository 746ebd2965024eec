-- What a turn of a core requests of the board, the spinlocks and the mailboxes, and the item that results. The same
-- table serves the turns of a listed run, the fit of all cores' items, and any other way to run a core. [own]
use Rattle.std.specs.Prelude.{nat_lt, if◌then◌else◌, Bool, true, Option, Some, None, option_map, List, [], ◌∷◌, ◌++◌}
use Rattle.osbase.specs.{declared.statuses.Status.Status, declared.statuses.Status.TheVariants.EOsId, declared.references.CoreId.CoreId, declared.items.CoreSet.CoreSet, declared.items.Item.Item, declared.items.Stimulus.Stimulus, declared.limits.TheConstants.SPINLOCKS, declared.turns.Choice.Choice, History.History, Sets.has_core}
use Rattle.osplan.specs.View.{View, is_configured}
use Rattle.osshared.specs.Histories.{calls_by, entry}
use Rattle.osspin.specs.{declared.calls.SpinAction.TheVariants.Take, declared.calls.SpinAction.TheVariants.Free, declared.calls.SpinCall.SpinCall, declared.calls.SpinReply.SpinReply, declared.calls.SpinReply.TheVariants.Answered}
use Rattle.osspin.specs.Spins.{SpinEntry, free_call, spin_call, try_take_call}
use Rattle.osboard.specs.{declared.calls.BoardCall.BoardCall, declared.calls.BoardReply.BoardReply, declared.calls.BoardView.BoardView, Boards.BoardEntry, Boards.agreement_in, Boards.have_all}
use Rattle.osboard.specs.declared.calls.BoardCall.TheVariants.{Start, Enter, MakeReady, Drain, Look, LookDrained, AskHalt, LookHalt}
use Rattle.osboard.specs.declared.calls.BoardReply.TheVariants.{Started, Acknowledged, Shown, Drained, Decided, Halting}
use Rattle.oskernel.specs.{declared.wants.SpinWish.SpinWish, declared.wants.Want.Want, declared.wants.Watch.Watch, Wants.want_of, Wants.watch_of}
use Rattle.oskernel.specs.declared.wants.SpinWish.TheVariants as Wish
use Rattle.osrun.specs.{declared.requests.Request.Request, declared.requests.Reply.Reply}
use Rattle.osrun.specs.declared.requests.Request.TheVariants.{OfBoard, OfSpins, Room, Oldest, StartUnknown, TakeStimulus}
use Rattle.osrun.specs.declared.requests.Reply.TheVariants.{Replied, Spun, HasRoom, Found, Unasked}

-- The request of a StartCore of core `k`: a call of the board if `there` says that the core is configured. Otherwise
-- StartCore is answered without the board. [AUTOSAR SWS OS 4.x, StartCore: E_OS_ID]
abbrev pub start_request : CoreId → Bool → Request
start_request k there = if there then OfBoard (Start k) else StartUnknown k

-- The request to take the next stimulus, or to drain the core if there is none.
abbrev pub next_request : Option Stimulus → Request
next_request (Some stimulus) = TakeStimulus stimulus
next_request None = OfBoard Drain

-- The request of a core's own turn, by the core's next stimulus and what the core wants; none if the core wants
-- nothing.
abbrev pub own_request : View → Option Stimulus → Want → Option Request
own_request v next (Want.Start k) = Some (start_request k (is_configured v k))
own_request v next Want.Enter = Some (OfBoard (Enter v.own.mode))
own_request v next Want.Ready = Some (OfBoard MakeReady)
own_request v next (Want.Post to) = Some (Room to)
own_request v next (Want.Spin wish) = Some (OfSpins wish)
own_request v next (Want.AskHalt status) = Some (OfBoard (AskHalt status))
own_request v next Want.GoOn = Some (next_request next)
own_request v next Want.Drain = Some (OfBoard Drain)
own_request v next Want.Nothing = None

-- The request of a look, which loads one word of the board. A core that looks for a shutdown, or is at its end, loads
-- the word of the shutdown. A core that waits for all to drain loads the word of the drained cores. Any other core
-- loads the word of the started, entered and ready cores.
abbrev pub look_request : Watch → Request
look_request Watch.Halt = OfBoard LookHalt
look_request Watch.Last = OfBoard LookHalt
look_request (Watch.PassEnd started) = OfBoard LookDrained
look_request watch = OfBoard Look

-- The request of a core's turn of this choice, by what the core wants, what it watches for and its next stimulus. None
-- if it is the core's own turn and the core wants nothing.
abbrev pub request_by : View → Want → Watch → Option Stimulus → Choice → Option Request
request_by v want watch next Choice.Own = own_request v next want
request_by v want watch next (Choice.Serve from) = Some (Oldest from)
request_by v want watch next Choice.Look = Some (look_request watch)

-- The request of a core's turn after this history, given the core's next stimulus.
abbrev pub request_of_turn : View → History → Option Stimulus → Choice → Option Request
request_of_turn v h next choice = request_by v (want_of v h) (watch_of v h) next choice

-- The item that results from what a look shows of the board, if one does. A core is on once it is started. A gate opens
-- once all started cores have reached it.
-- [AUTOSAR SWS OS 4.x, SWS_Os_00579 and SWS_Os_00580]
abbrev pub item_of_look : CoreId → BoardView → Watch → Option Item
item_of_look id view Watch.On = if has_core view.started id then Some Item.On else None
item_of_look id view Watch.FirstGate = if have_all view.started view.entered then Some (Item.Pass1 (agreement_in view.modes)) else None
item_of_look id view Watch.SecondGate = if have_all view.started view.ready then Some (Item.Pass2 view.started) else None
item_of_look id view watch = None

-- The item that results when a look shows these drained cores, if one does. A core that has drained goes on to its end
-- once all cores that were started when its second gate opened have drained. [own]
abbrev pub item_of_drained : Watch → CoreSet → Option Item
item_of_drained (Watch.PassEnd started) drained = if have_all started drained then Some Item.PassEnd else None
item_of_drained watch drained = None

-- The item that results when a look shows who requested a shutdown of all cores, if one does. A core that watches for a
-- shutdown halts once one was requested. A core at its end learns whether one was requested.
-- [AUTOSAR SWS OS 4.x, ShutdownAllCores; that a core looks for it is this project's own]
abbrev pub item_of_halt : Watch → Option (CoreId × Status) → Option Item
item_of_halt Watch.Last halt = Some (Item.Last halt)
item_of_halt Watch.Halt (Some asked) = Some (Item.Halt asked.0 asked.1)
item_of_halt watch halt = None

-- The item that results from the board's reply to this call; none if no item results.
abbrev pub item_of_board : CoreId → Watch → BoardCall → BoardReply → Option Item
item_of_board id watch (Start k) (Started status) = Some (Item.Began k status)
item_of_board id watch (Enter mode) Acknowledged = Some Item.Entered
item_of_board id watch MakeReady Acknowledged = Some Item.Readied
item_of_board id watch Drain Acknowledged = Some Item.Drained
item_of_board id watch Look (Shown view) = item_of_look id view watch
item_of_board id watch LookDrained (Drained drained) = item_of_drained watch drained
item_of_board id watch (AskHalt status) (Decided asked) = Some (Item.Halt asked.0 asked.1)
item_of_board id watch LookHalt (Halting halt) = item_of_halt watch halt
item_of_board id watch call reply = None

-- The spinlock call for a wish: GetSpinlock and TryToGetSpinlock both try to take the spinlock, and ReleaseSpinlock
-- frees it. [AUTOSAR SWS OS 4.x, GetSpinlock, TryToGetSpinlock and ReleaseSpinlock]
abbrev pub spin_call_of : SpinWish → SpinCall
spin_call_of (Wish.Get l) = spin_call l Take
spin_call_of (Wish.Try l) = spin_call l Take
spin_call_of (Wish.Free l) = spin_call l Free

-- If the request is of a spinlock, the number of the spinlock is in range.
abbrev pub is_request_known : Request → Bool
is_request_known (OfSpins wish) = nat_lt (spin_call_of wish).lock.index SPINLOCKS
is_request_known request = true

-- The item that results from the reply to a spinlock call, if one does. GetSpinlock returns once it has taken the
-- spinlock, and ReleaseSpinlock once it has freed it. TryToGetSpinlock returns with either answer.
abbrev pub item_of_spinlock : SpinWish → SpinReply → Option Item
item_of_spinlock (Wish.Get l) (Answered true) = Some (Item.Granted l)
item_of_spinlock (Wish.Try l) (Answered taken) = Some (Item.Tried l taken)
item_of_spinlock (Wish.Free l) (Answered true) = Some (Item.Freed l)
item_of_spinlock wish reply = None

-- The item that results when core `id`, whose look waits for `watch`, makes the request and gets the answer. None if no
-- item results.
abbrev pub item_by : CoreId → Watch → Request → Reply → Option Item
item_by id watch (OfBoard call) (Replied reply) = item_of_board id watch call reply
item_by id watch (OfSpins wish) (Spun reply) = item_of_spinlock wish reply
item_by id watch (Room to) (HasRoom true) = Some (Item.Posted to)
item_by id watch (Oldest from) (Found (Some e)) = Some (Item.Received from e.number e.message)
item_by id watch (StartUnknown k) Unasked = Some (Item.Began k EOsId)
item_by id watch (TakeStimulus s) Unasked = Some (Item.Stim s)
item_by id watch request answer = None

-- The item that results when the core, after this history, makes the request and gets the answer. None if no item
-- results.
abbrev pub item_for_reply : View → History → Request → Reply → Option Item
item_for_reply v h request answer = item_by v.core (watch_of v h) request answer

-- A turn's request, with the item that results from the reply; none if no item results.
abbrev pub request_and_item : CoreId → Watch → Request → Reply → Option (Request × Item)
request_and_item id watch request answer = option_map (λ item. (request, item)) (item_by id watch request answer)

-- A turn's request, if there is one, with the item that results from the reply that `answers` has for it. None if the
-- turn requests nothing, or no item results.
abbrev pub next_item : CoreId → Watch → (Request → Reply) → Option Request → Option (Request × Item)
next_item id watch answers None = None
next_item id watch answers (Some request) = request_and_item id watch request (answers request)

-- ---- calls of what all cores share

-- The calls of the board, and those of the spinlocks. [own]
pub record Calls : Type 0 where
  pub board : List BoardEntry
  pub spins : List SpinEntry

abbrev pub no_calls : Calls
no_calls = record { board = []; spins = [] }

-- The first calls, followed by the second.
abbrev pub joined : Calls → Calls → Calls
joined a b = record { board = a.board ++ b.board; spins = a.spins ++ b.spins }

-- The calls of one core, in order.
abbrev pub calls_of : CoreId → Calls → Calls
calls_of id calls = record { board = calls_by id calls.board; spins = calls_by id calls.spins }

-- The call in a turn's request, with its reply; no calls if the request is for neither the board nor a spinlock.
abbrev pub call_of_turn : CoreId → Request → Reply → Calls
call_of_turn core (OfBoard call) (Replied reply) = record { board = entry core call reply ∷ []; spins = [] }
call_of_turn core (OfSpins wish) (Spun reply) = record { board = []; spins = entry core (spin_call_of wish) reply ∷ [] }
call_of_turn core request answer = no_calls

-- The spinlock call that resulted in this item, with its reply, as a list; the empty list if no spinlock call did.
abbrev pub call_of_item : CoreId → Item → List SpinEntry
call_of_item core (Item.Granted l) = try_take_call core l true ∷ []
call_of_item core (Item.Tried l taken) = try_take_call core l taken ∷ []
call_of_item core (Item.Freed l) = free_call core l true ∷ []
call_of_item core item = []
