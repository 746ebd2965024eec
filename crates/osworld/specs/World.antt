-- The world: all cores of a configuration, turn by turn. It is the cores' item lists and the calls of the board and the
-- spinlocks, and nothing else: the state of a core follows from its own items.
use Rattle.std.specs.Prelude.{ℕ, ◌+◌, ◌==◌, ◌&&◌, nat_lt, Bool, if◌then◌else◌, Option, Some, None, is_some, List, [], ◌∷◌, ◌++◌, length, map, find, slice_get, sum_by}
use Rattle.osbase.specs.{declared.references.CoreId.CoreId, declared.items.Item.Item, declared.items.Stimulus.Stimulus, declared.turns.CoreStimuli.CoreStimuli, declared.turns.Choice.Choice, Runs.stimuli_of, declared.limits.TheConstants.CORES}
use Rattle.osbase.specs.History.{History, same_core, posted, received_count}
use Rattle.osplan.specs.{declared.plans.Plan.Plan, View.view_of}
use Rattle.oskernel.specs.{Step.takes, Step.outbox_size, Wants.watch_of}
use Rattle.osshared.specs.Histories.{state_after}
use Rattle.osboard.specs.{declared.calls.BoardState.BoardState, Boards.board_reply, Boards.first_board, Boards.one_board}
use Rattle.osspin.specs.Spins.{no_holders, spin_reply, spinlocks}
use Rattle.osrun.specs.{declared.requests.Request.Request, declared.requests.Reply.Reply, Fits.history_by, Fits.ids_of, Fits.items_of, CoreRuns.stimulus_count}
use Rattle.osrun.specs.declared.requests.Request.TheVariants.{OfBoard, OfSpins, Room, Oldest}
use Rattle.osrun.specs.declared.requests.Reply.TheVariants.{Replied, Spun, HasRoom, Found, Unasked}
use Rattle.osrun.specs.Requests.{Calls, request_of_turn, next_item, joined, no_calls, spin_call_of, call_of_turn}

-- All cores after some turns: the items of each configured core, the oldest first, and the calls of the board and the
-- spinlocks that became items. Nothing else is kept: the state of a core follows from its own items. [own]
pub record World : Type 0 where
  pub items : List (CoreId × List Item)
  pub calls : Calls

-- The world before the first turn: no configured core has taken an item, and no call was made. [own]
abbrev pub first_world : Plan → World
first_world plan = record { items = map (λ (id : CoreId). (id, [])) (ids_of plan); calls = no_calls }

-- The items of a core in this world.
abbrev pub items_in : World → CoreId → List Item
items_in w id = items_of w.items id

-- The history of a core in this world.
abbrev pub history_in : Plan → World → CoreId → History
history_in plan w id = history_by plan id (items_in w id)

-- The state of the board in this world.
abbrev pub board_in : Plan → World → BoardState
board_in plan w = state_after one_board (first_board plan.master) w.calls.board

-- Who holds each spinlock in this world.
abbrev pub holders_in : World → List (Option CoreId)
holders_in w = state_after spinlocks no_holders w.calls.spins

-- The mailbox from one core to another has room if it has fewer than `cap` envelopes: those posted to it and not yet
-- received from it. No core is numbered 16 or above, so there is no mailbox for such a number. [own]
abbrev pub has_room : Plan → World → CoreId → CoreId → Bool
has_room plan w from to =
    nat_lt to.number CORES
    && nat_lt (length (posted to (history_in plan w from))) (received_count from (history_in plan w to) + plan.cap)

-- The reply to the request of a core's turn: the board's or a spinlock's reply; whether there is room; the oldest
-- letter from the other core that is not received yet. [own]
abbrev pub reply_in : Plan → World → CoreId → Request → Reply
reply_in plan w id (OfBoard call) = Replied (board_reply id call (board_in plan w))
reply_in plan w id (OfSpins wish) = Spun (spin_reply id (spin_call_of wish) (holders_in w))
reply_in plan w id (Room to) = HasRoom (has_room plan w id to)
reply_in plan w id (Oldest from) = Found (slice_get (posted id (history_in plan w from)) (received_count from (history_in plan w id)))
reply_in plan w id request = Unasked

-- The first of the core's listed stimuli that it has not taken yet, if one is left.
abbrev pub next_stimulus : List CoreStimuli → World → CoreId → Option Stimulus
next_stimulus stimuli w id = slice_get (stimuli_of stimuli id) (stimulus_count (items_in w id))

-- A turn's request, and the item that results from the reply; none if the core wants nothing, or no item results.
abbrev pub next_in : Plan → List CoreStimuli → World → CoreId → Choice → Option (Request × Item)
next_in plan stimuli w id choice =
    let h = history_in plan w id in
    next_item id (watch_of (view_of plan id) h) (reply_in plan w id) (request_of_turn (view_of plan id) h (next_stimulus stimuli w id) choice)

-- The lists, with the item appended to the list of core `id`.
abbrev pub with_item : CoreId → Item → List (CoreId × List Item) → List (CoreId × List Item)
with_item id item [] = []
with_item id item (p ∷ ps) = if same_core p.0 id then (p.0, p.1 ++ item ∷ []) ∷ ps else p ∷ with_item id item ps

-- The world, with the item appended to its core's list, and the call in the request, if there is one, to the calls.
abbrev pub with_turn : Plan → World → CoreId → Request → Item → World
with_turn plan w id request item = record {
  items = with_item id item w.items;
  calls = joined w.calls (call_of_turn id request (reply_in plan w id request));
}

-- If the core takes the item that results from a turn, the turn appends it. Otherwise, the turn changes nothing. [own]
abbrev pub turn_by : Plan → World → CoreId → Option (Request × Item) → World
turn_by plan w id None = w
turn_by plan w id (Some t) =
    if takes outbox_size (view_of plan id) (history_in plan w id) t.1 then with_turn plan w id t.0 t.1 else w

-- One of these lists is the core's.
abbrev pub is_listed : CoreId → List (CoreId × List Item) → Bool
is_listed id lists = is_some (find (λ (p : CoreId × List Item). same_core p.0 id) lists)

-- The world after this turn. A turn of a core without a list changes nothing.
abbrev pub turn : Plan → List CoreStimuli → World → CoreId × Choice → World
turn plan stimuli w t = if is_listed t.0 w.items then turn_by plan w t.0 (next_in plan stimuli w t.0 t.1) else w

-- The world after these turns, in order, from the given world on. [own]
abbrev pub world_from : Plan → List CoreStimuli → World → List (CoreId × Choice) → World
world_from plan stimuli w [] = w
world_from plan stimuli w (t ∷ ts) = world_from plan stimuli (turn plan stimuli w t) ts

-- The world after these turns from the first world on.
abbrev pub world : Plan → List CoreStimuli → List (CoreId × Choice) → World
world plan stimuli turns = world_from plan stimuli (first_world plan) turns

-- The number of all cores' items.
abbrev pub item_total : World → ℕ
item_total w = sum_by (λ (p : CoreId × List Item). length p.1) w.items

-- Turns append items or change nothing. So a world is unchanged if it has as many items as before.
abbrev pub is_unchanged : World → World → Bool
is_unchanged old new = item_total old == item_total new
