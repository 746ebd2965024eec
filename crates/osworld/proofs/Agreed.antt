-- What a run holds in memory gives a turn the same request and item as the world's definition.
use Rattle.std.proofs.Common.{◌≡◌, ◌<◌, false, ◌&&◌, cond, Option, Some, None, option_map, List, [], ◌∷◌, drop, refl, sym, ap, ◌∙◌, arith, nat_lt, length-drop}
use Rattle.std.specs.{List.slice_get}
use Rattle.std.proofs.{lemmas.Bool.Decides.nat_tests}
use Rattle.osbase.specs.{declared.references.CoreId.CoreId, declared.items.Item.Item, declared.items.Stimulus.Stimulus, declared.turns.Choice.Choice, declared.turns.CoreStimuli.CoreStimuli, declared.limits.TheConstants.CORES, History.History, History.posted, History.received_count, Runs.stimuli_of}
use Rattle.osmail.specs.Mail.{has_room as room_in, oldest_of}
use Rattle.osplan.specs.{declared.plans.Plan.Plan, View.View, View.view_of}
use Rattle.osstate.specs.State.{KernelState, state_of}
use Rattle.oskernel.specs.{declared.wants.Watch.Watch, Wants.want_in, Wants.watch_in, Wants.watch_of}
use Rattle.osboard.specs.{declared.calls.BoardState.BoardState, Boards.board_reply}
use Rattle.osrun.specs.{declared.core_runs.CoreRun.CoreRun, declared.requests.Request.Request, declared.requests.Reply.Reply, CoreRuns.stimulus_count}
use Rattle.osspin.specs.Spins.{spin_reply}
use Rattle.osworld.specs.{declared.answering.Shared.Shared, Answering.reply_by, Answering.next_by, Playing.IsMail, Playing.lists_of}
use Rattle.osrun.specs.declared.requests.Request.TheVariants.{OfBoard, OfSpins, Room, Oldest}
use Rattle.osrun.specs.declared.requests.Reply.TheVariants.{Replied, Spun, HasRoom, Found}
use Rattle.osrun.specs.Requests.{request_of_turn, request_by, next_item, item_by, spin_call_of}
use Rattle.osworld.specs.World.{World, reply_in, board_in, has_room, history_in, holders_in, items_in, next_in, next_stimulus}
use Rattle.osworld.proofs.{Listed.list_of, Waiting.front-drop}

-- a core numbered 16 or above has no list
pub list_of-beyond : (id : CoreId) (core_runs : List CoreRun) → nat_lt id.number CORES ≡ false → list_of id (lists_of core_runs) ≡ None
list_of-beyond id [] e = refl
list_of-beyond id (s ∷ ss) e = let below : s.id.number < CORES = s.known in grind (arith, nat_tests, below, list_of-beyond id ss e)

module _ (plan : Plan) (w : World) (core : CoreId) (known : core.number < CORES) (shared : Shared) (m : IsMail plan w shared.mail) (shown : shared.board ≡ board_in plan w) (held : shared.spins ≡ holders_in w) (core_runs : List CoreRun) (lists : w.items ≡ lists_of core_runs) where
  room-same : (to : CoreId) → has_room plan w core to ≡ (nat_lt to.number CORES && room_in shared.mail core to)
  room-same to =
      grind (arith, nat_tests, m.order core to, m.cap, m.boxes core to known, length-drop (received_count core (history_in plan w to)) (posted to (history_in plan w core)))

  oldest-same : (from : CoreId) → slice_get (posted core (history_in plan w from)) (received_count from (history_in plan w core)) ≡ cond (nat_lt from.number CORES) (oldest_of shared.mail from core) None
  oldest-same from =
      let front = front-drop (received_count from (history_in plan w core)) (posted core (history_in plan w from)) in
      grind (arith, nat_tests, front, lists, m.boxes from core, list_of-beyond from core_runs)

  answer-agrees : (request : Request) → reply_in plan w core request ≡ reply_by shared core request
  answer-agrees (OfBoard call) = ap (λ (b : BoardState). Replied (board_reply core call b)) (sym shown)
  answer-agrees (OfSpins wish) = ap (λ (holders : List (Option CoreId)). Spun (spin_reply core (spin_call_of wish) holders)) (sym held)
  answer-agrees (Room to) = ap HasRoom (room-same to)
  answer-agrees (Oldest from) = ap Found (oldest-same from)
  answer-agrees request = refl

  comes-agrees : (watch : Watch) (o : Option Request) → next_item core watch (reply_in plan w core) o ≡ next_item core watch (reply_by shared core) o
  comes-agrees watch None = refl
  comes-agrees watch (Some request) = ap (λ (answer : Reply). option_map (λ (item : Item). (request, item)) (item_by core watch request answer)) (answer-agrees request)

  pub next-agrees : (stimuli : List CoreStimuli) (left : List Stimulus) → left ≡ drop (stimulus_count (items_in w core)) (stimuli_of stimuli core) → (kernel : KernelState) → kernel ≡ state_of (view_of plan core) (history_in plan w core) → (choice : Choice) → next_in plan stimuli w core choice ≡ next_by plan shared core left kernel choice
  next-agrees stimuli left kept kernel stands choice =
      comes-agrees (watch_of v h) (request_of_turn v h (next_stimulus stimuli w core) choice)
      ∙ ap (λ (next : Option Stimulus). next_item core (watch_of v h) (reply_by shared core) (request_of_turn v h next choice)) (sym (front-drop (stimulus_count (items_in w core)) (stimuli_of stimuli core)) ∙ ap (λ (xs : List Stimulus). slice_get xs 0) (sym kept))
      ∙ ap (λ (s : KernelState). next_item core (watch_in s) (reply_by shared core) (request_by v (want_in s) (watch_in s) (slice_get left 0) choice)) (sym stands)
    where
      v : View
      v = view_of plan core

      h : History
      h = history_in plan w core
