-- What a turn requests and changes, by what a listed run holds in memory: the cores' kernels, and what the cores share,
-- the mailboxes, the board and the spinlocks. If memory holds what the world's definition reads off the items, both
-- agree. A reader of what a run promises needs none of this. [own]
use Rattle.std.specs.Prelude.{◌<◌, ◌&&◌, nat_lt, if◌then◌else◌, Bool, true, false, IsTrue, is_none, Option, None, IsSome, List, slice_get}
use Rattle.std.specs.Option.{option_map_or}
use Rattle.osbase.specs.{declared.references.CoreId.CoreId, declared.messages.Envelope.Envelope, declared.items.Item.Item, declared.items.Stimulus.Stimulus, declared.turns.Choice.Choice, declared.limits.TheConstants.CORES}
use Rattle.osmail.specs.Mail.{Mail, has_room, oldest_of, after_send, after_take}
use Rattle.osplan.specs.{declared.plans.Plan.Plan, View.view_of}
use Rattle.osstate.specs.State.{KernelState}
use Rattle.oskernel.specs.{declared.wants.Watch.Watch, Wants.want_in, Wants.watch_in}
use Rattle.osboard.specs.{declared.calls.BoardState.BoardState, Boards.board_after, Boards.board_reply}
use Rattle.osspin.specs.Spins.{holders_after, spin_reply}
use Rattle.osrun.specs.{declared.requests.Request.Request, declared.requests.Reply.Reply, Requests.request_by, Requests.next_item, Requests.spin_call_of}
use Rattle.osrun.specs.declared.requests.Request.TheVariants.{OfBoard, OfSpins, Room, Oldest}
use Rattle.osrun.specs.declared.requests.Reply.TheVariants.{Replied, Spun, HasRoom, Found, Unasked}
use Rattle.osworld.specs.declared.answering.Shared.{Shared}

-- The reply to a request, from the mailboxes, the board and the spinlocks that a run holds in memory. A core numbered
-- 16 or above has no mailbox.
abbrev pub reply_by : Shared → CoreId → Request → Reply
reply_by shared id (OfBoard call) = Replied (board_reply id call shared.board)
reply_by shared id (OfSpins wish) = Spun (spin_reply id (spin_call_of wish) shared.spins)
reply_by shared id (Room to) = HasRoom (nat_lt to.number CORES && has_room shared.mail id to)
reply_by shared id (Oldest from) = Found (if nat_lt from.number CORES then oldest_of shared.mail from id else None)
reply_by shared id request = Unasked

-- The core watches for nothing, or for a shutdown of all cores that no core has requested. So it learns nothing from
-- the board.
abbrev pub is_undisturbed : Watch → BoardState → Bool
is_undisturbed Watch.Nothing board = true
is_undisturbed Watch.Halt board = is_none board.halt
is_undisturbed watch board = false

-- The turn is a look from which the core learns nothing (`is_undisturbed`), so no item results.
abbrev pub is_idle_look : Choice → Watch → BoardState → Bool
is_idle_look Choice.Look watch board = is_undisturbed watch board
is_idle_look choice watch board = false

-- What the turn requests, by the state of the core's kernel, and the item that results from the reply. None if the turn
-- requests nothing, or no item results.
abbrev pub next_by : Plan → Shared → CoreId → List Stimulus → KernelState → Choice → Option (Request × Item)
next_by plan shared id stimuli s choice =
    next_item id (watch_in s) (reply_by shared id) (request_by (view_of plan id) (want_in s) (watch_in s) (slice_get stimuli 0) choice)

-- If the item uses a mailbox, that mailbox exists, with room for what is posted or with a letter to receive.
abbrev pub IsPlaced : Mail → CoreId → Item → Type 0
IsPlaced mail id (Item.Posted to) = (to.number < CORES) × IsTrue (has_room mail id to)
IsPlaced mail id (Item.Received from number message) = (from.number < CORES) × IsSome (oldest_of mail from id)
IsPlaced mail id item = Unit {0}

-- The board after the turn's request: its call of the board, if it made one, is done.
abbrev pub board_by : CoreId → Request → BoardState → BoardState
board_by core (OfBoard call) board = board_after core call board
board_by core request board = board

-- Who holds each spinlock after the turn's request: its call of a spinlock, if it made one, is done.
abbrev pub holders_by : CoreId → Request → List (Option CoreId) → List (Option CoreId)
holders_by core (OfSpins wish) holders = holders_after core (spin_call_of wish) holders
holders_by core request holders = holders

-- The mailboxes after the turn: a post puts the outbox's front into a mailbox, and what is received leaves one.
abbrev pub mail_after : CoreId → Option (CoreId × Envelope) → Item → Mail → Mail
mail_after core front (Item.Posted to) mail = option_map_or (λ (f : CoreId × Envelope). after_send mail core to f.1.letter) front mail
mail_after core front (Item.Received from number message) mail = after_take mail from core
mail_after core front item mail = mail

-- What the cores share after the turn's call of the board or of a spinlock, if it made one. The mailboxes stay.
abbrev pub after_call : CoreId → Request → Shared → Shared
after_call core request shared = record { mail = shared.mail; board = board_by core request shared.board; spins = holders_by core request shared.spins }

-- What the cores share after the whole turn: the turn's item changes the mailboxes, too.
abbrev pub after_turn : CoreId → Request → Option (CoreId × Envelope) → Item → Shared → Shared
after_turn core request front item shared = record (after_call core request shared) { mail = mail_after core front item shared.mail }
