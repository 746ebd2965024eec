-- A turn of a run is a turn of the world.
use Rattle.std.proofs.Common.{◌≡◌, ℕ, suc, ◌<◌, ◌≤◌, Bool, true, false, cond, Option, Some, None, is_some, List, [], ◌∷◌, ◌++◌, length, drop, get_or, set, sym, ap, subst, ◌∙◌, append-nil}
use Rattle.std.specs.List.{position_or_len}
use Rattle.std.proofs.lemmas.List.Elements.{All-set}
use Rattle.osbase.specs.{declared.references.CoreId.CoreId, declared.items.Item.Item, declared.turns.Choice.Choice, declared.turns.CoreStimuli.CoreStimuli, History.History, Runs.stimuli_of}
use Rattle.osplan.specs.{declared.plans.Plan.Plan, View.view_of}
use Rattle.osstate.specs.State.{KernelState, state_of}
use Rattle.oskernel.specs.{Step.takes, Step.outbox_size, Wants.front_of}
use Rattle.osrun.specs.{declared.core_runs.CoreRun.CoreRun, declared.requests.Request.Request, declared.requests.Request.TheVariants.OfBoard, declared.requests.Request.TheVariants.OfSpins, Requests.spin_call_of, Requests.call_of_turn, Fits.history_by, CoreRuns.stimulus_count, CoreRuns.IsCoreRun, CoreRuns.Took}
use Rattle.osshared.specs.Histories.{entry, state_after}
use Rattle.osshared.proofs.Steps.{after_snoc}
use Rattle.osboard.specs.Boards.{board_reply, first_board, one_board}
use Rattle.osspin.specs.Spins.{no_holders, spin_reply, spinlocks}
use Rattle.osworld.specs.{declared.answering.Shared.Shared, Playing.IsMail, Playing.lists_of, Playing.Plays}
use Rattle.osworld.specs.World.{World, reply_in, with_turn, board_in, history_in, holders_in, items_in, next_in, turn, turn_by, with_item, item_total}
use Rattle.osworld.specs.Answering.{board_by, mail_after, IsPlaced, next_by, after_turn, holders_by}
use Rattle.osworld.proofs.Listed.{is_seat_of, items_by, list_of, list_of-nobody, list_of-core_run, lists_of-set, total-push}
use Rattle.osworld.proofs.{Carrying.carries_on, Agreed.next-agrees}
use Rattle.osrun.proofs.CoreRunning.{seated-on}

-- the board and the spinlocks after one more call
board-told : (core : CoreId) (plan : Plan) (w : World) (request : Request) → board_by core request (board_in plan w) ≡ state_after one_board (first_board plan.master) (w.calls.board ++ (call_of_turn core request (reply_in plan w core request)).board)
board-told core plan w (OfBoard call) = sym (after_snoc one_board (first_board plan.master) w.calls.board (entry core call (board_reply core call (board_in plan w))))
board-told core plan w request = ap (state_after one_board (first_board plan.master)) (sym (append-nil w.calls.board))

spins-told : (core : CoreId) (plan : Plan) (w : World) (request : Request) → holders_by core request (holders_in w) ≡ state_after spinlocks no_holders (w.calls.spins ++ (call_of_turn core request (reply_in plan w core request)).spins)
spins-told core plan w (OfSpins wish) = sym (after_snoc spinlocks no_holders w.calls.spins (entry core (spin_call_of wish) (spin_reply core (spin_call_of wish) (holders_in w))))
spins-told core plan w request = ap (state_after spinlocks no_holders) (sym (append-nil w.calls.spins))

-- a core without a seat has no turn
pub turn-nobody : (plan : Plan) (stimuli : List CoreStimuli) (w : World) (core_runs : List CoreRun) (core : CoreId) (choice : Choice) → w.items ≡ lists_of core_runs → length core_runs ≤ position_or_len (is_seat_of core) core_runs → turn plan stimuli w (core, choice) ≡ w
turn-nobody plan stimuli w core_runs core choice lists past =
    ap (λ (o : Option (CoreId × List Item)). cond (is_some o) (turn_by plan w core (next_in plan stimuli w core choice)) w) (ap (list_of core) lists ∙ list_of-nobody core core_runs past)

-- the turn of a seat
module _ (plan : Plan) (stimuli : List CoreStimuli) (w : World) (core_runs : List CoreRun) (shared : Shared) (plays : Plays plan stimuli w core_runs shared) (choice : Choice) (at : ℕ) (core_run : CoreRun) (here : at ≡ position_or_len (is_seat_of core_run.id) core_runs) (within : at < length core_runs) (is : get_or core_runs at core_run ≡ core_run) where
  abbrev named_here : Option (Request × Item)
  named_here = next_by plan shared core_run.id core_run.stimuli.now core_run.kernel choice

  abbrev past : History
  past = history_by plan core_run.id core_run.items.items

  seated : IsCoreRun plan stimuli core_run
  seated = subst (λ (s : CoreRun). IsCoreRun plan stimuli s) is (plays.seated at core_run within)

  listed : list_of core_run.id w.items ≡ Some (core_run.id, core_run.items.items)
  listed = ap (list_of core_run.id) plays.lists ∙ list_of-core_run core_run.id core_runs at core_run here within ∙ ap (λ (s : CoreRun). Some (s.id, s.items.items)) is

  items : items_in w core_run.id ≡ core_run.items.items
  items = ap items_by listed

  history : history_in plan w core_run.id ≡ past
  history = ap (λ (items : List Item). history_by plan core_run.id items) items

  kernel : core_run.kernel ≡ state_of (view_of plan core_run.id) (history_in plan w core_run.id)
  kernel = seated.tracks.stands.is ∙ ap (state_of (view_of plan core_run.id)) (sym history)

  left : core_run.stimuli.now ≡ drop (stimulus_count (items_in w core_run.id)) (stimuli_of stimuli core_run.id)
  left = seated.left ∙ ap (λ (items : List Item). drop (stimulus_count items) (stimuli_of stimuli core_run.id)) (sym items)

  turns : turn plan stimuli w (core_run.id, choice) ≡ turn_by plan w core_run.id named_here
  turns =
      ap (λ (o : Option (CoreId × List Item)). cond (is_some o) (turn_by plan w core_run.id (next_in plan stimuli w core_run.id choice)) w) listed
      ∙ ap (turn_by plan w core_run.id) (next-agrees plan w core_run.id core_run.known shared plays.carries plays.shown plays.held core_runs plays.lists stimuli core_run.stimuli.now left core_run.kernel kernel choice)

  pub turn-nothing : named_here ≡ None → turn plan stimuli w (core_run.id, choice) ≡ w
  turn-nothing nothing = turns ∙ ap (turn_by plan w core_run.id) nothing

  module _ (request : Request) (item : Item) (names : named_here ≡ Some (request, item)) where
    by_taking : turn plan stimuli w (core_run.id, choice) ≡ cond (takes outbox_size (view_of plan core_run.id) past item) (with_turn plan w core_run.id request item) w
    by_taking =
        turns ∙ ap (turn_by plan w core_run.id) names
        ∙ ap (λ (h : History). cond (takes outbox_size (view_of plan core_run.id) h item) (with_turn plan w core_run.id request item) w) history

    pub turn-refused : takes outbox_size (view_of plan core_run.id) past item ≡ false → turn plan stimuli w (core_run.id, choice) ≡ w
    turn-refused refused = by_taking ∙ ap (λ (b : Bool). cond b (with_turn plan w core_run.id request item) w) refused

    -- the turn appends one item
    pub turn-with_turn : takes outbox_size (view_of plan core_run.id) past item ≡ true → item_total (turn plan stimuli w (core_run.id, choice)) ≡ suc (item_total w)
    turn-with_turn taken =
        ap item_total (by_taking ∙ ap (λ (b : Bool). cond b (with_turn plan w core_run.id request item) w) taken)
        ∙ total-push core_run.id item w.items (core_run.id, core_run.items.items) listed

    module _ (new : CoreRun) (took : Took core_run new item) (placed : IsPlaced shared.mail core_run.id item) where
      pub turn-taken : takes outbox_size (view_of plan core_run.id) past item ≡ true → Plays plan stimuli (turn plan stimuli w (core_run.id, choice)) (set core_runs at new) (after_turn core_run.id request (front_of core_run.kernel.border.outbox) item shared)
      turn-taken taken =
          subst (λ (next : World). Plays plan stimuli next (set core_runs at new) (after_turn core_run.id request (front_of core_run.kernel.border.outbox) item shared))
          (sym (by_taking ∙ ap (λ (b : Bool). cond b (with_turn plan w core_run.id request item) w) taken))
          (record {
            seated = All-set (IsCoreRun plan stimuli) core_runs at new (seated-on plan stimuli core_run new item seated taken took) plays.seated;
            lists = ap (with_item core_run.id item) plays.lists
                ∙ lists_of-set core_run.id item core_runs at new core_run here within (took.id ∙ ap (λ (s : CoreRun). s.id) (sym is)) (took.items ∙ ap (λ (s : CoreRun). s.items.items ++ item ∷ []) (sym is));
            carries = subst (λ (s : KernelState). IsMail plan (with_turn plan w core_run.id request item) (mail_after core_run.id (front_of s.border.outbox) item shared.mail)) (sym kernel)
                (carries_on plan w core_run.id request item (core_run.id, core_run.items.items) listed shared.mail plays.carries core_run.known placed);
            shown = ap (board_by core_run.id request) plays.shown ∙ board-told core_run.id plan w request;
            held = ap (holders_by core_run.id request) plays.held ∙ spins-told core_run.id plan w request;
          })
