-- Every world fits: a turn's item fits the items of the cores and the calls of the board.
use native.Mathlib.Omega.{arith}
use Rattle.std.proofs.Common.{◌≡◌, true, Option, Some, None, List, refl}
use Rattle.std.specs.List.{slice_get}
use Rattle.osbase.specs.{declared.references.CoreId.CoreId, declared.messages.Letter.Letter, declared.items.Item.Item, declared.turns.CoreStimuli.CoreStimuli, Phases.is_going, Runs.stimuli_of}
use Rattle.osbase.specs.History.{course_of, posted, received_count, letter_with}
use Rattle.osplan.specs.{declared.plans.Plan.Plan, View.view_of}
use Rattle.osstate.specs.State.{state_of}
use Rattle.oskernel.specs.declared.wants.Watch.{Watch}
use Rattle.osboard.specs.declared.calls.BoardCall.TheVariants.{Drain, Look, LookDrained, LookHalt}
use Rattle.osspin.specs.Spins.{spin_reply}
use Rattle.osrun.specs.{declared.requests.Request.Request, declared.requests.Reply.TheVariants.Found, Requests.item_by, Requests.spin_call_of, CoreRuns.stimulus_count}
use Rattle.osrun.specs.declared.requests.Request.TheVariants.{OfBoard, OfSpins, Room, Oldest, StartUnknown, TakeStimulus}
use Rattle.osworld.specs.World.{World, reply_in, board_in, history_in, holders_in, items_in, next_stimulus}
use Rattle.osrun.proofs.Asked.{IsOwnRequest}
use Rattle.osrun.proofs.Resulting.{drained-item, halt-item, is-item, look-item, spinlock-item}

-- What is known of an item that a turn of this core names.
abbrev pub IsNext : Plan → List CoreStimuli → World → CoreId → Item → Type 0
IsNext plan stimuli w id (Item.Stim s) = slice_get (stimuli_of stimuli id) (stimulus_count (items_in w id)) ≡ Some s
IsNext plan stimuli w id Item.Drained = is_going (course_of (history_in plan w id)) ≡ true → slice_get (stimuli_of stimuli id) (stimulus_count (items_in w id)) ≡ None
IsNext plan stimuli w id (Item.Received from number m) = slice_get (posted id (history_in plan w from)) (received_count from (history_in plan w id)) ≡ Some (letter_with number m)
IsNext plan stimuli w id item = Unit {0}

module _ (plan : Plan) (stimuli : List CoreStimuli) (w : World) (id : CoreId) where
  is : (j i : Item) → Some j ≡ Some i → IsNext plan stimuli w id j → IsNext plan stimuli w id i
  is j i e next = is-item (IsNext plan stimuli w id) j i next e

  pub follows : (watch : Watch) (request : Request) (i : Item) → IsOwnRequest (view_of plan id) (state_of (view_of plan id) (history_in plan w id)) (next_stimulus stimuli w id) (Some request) → item_by id watch request (reply_in plan w id request) ≡ Some i → IsNext plan stimuli w id i
  follows watch (OfBoard Look) i own e = look-item (IsNext plan stimuli w id) tt (λ agreement. tt) (λ cores. tt) id (board_in plan w).view watch i e
  follows watch (OfBoard LookDrained) i own e = drained-item (IsNext plan stimuli w id) tt watch (board_in plan w).drained i e
  follows watch (OfBoard Drain) i own e = is Item.Drained i e own
  follows watch (OfBoard LookHalt) i own e = halt-item (IsNext plan stimuli w id) (λ asked. tt) (λ core status. tt) watch (board_in plan w).halt i e
  follows watch (OfBoard call) i own e = is _ i e tt
  follows watch (OfSpins wish) i own e = spinlock-item (IsNext plan stimuli w id) (λ l. tt) (λ l taken. tt) (λ l. tt) wish (spin_reply id (spin_call_of wish) (holders_in w)) i e
  follows watch (Room to) i own e = grind (arith, e)
  follows watch (Oldest from) i own e = by (slice_get (posted id (history_in plan w from)) (received_count from (history_in plan w id))) refl e
    where
      by : (o : Option Letter) → slice_get (posted id (history_in plan w from)) (received_count from (history_in plan w id)) ≡ o → item_by id watch (Oldest from) (Found o) ≡ Some i → IsNext plan stimuli w id i
      by (Some x) at e = is (Item.Received from x.number x.message) i e at
      by None at e = cc
  follows watch (StartUnknown k) i own e = is _ i e tt
  follows watch (TakeStimulus s) i own e = is (Item.Stim s) i e own
