-- The items of all cores fit one another and what the run was given. This is a statement about the cores' item lists
-- alone: it says nothing of turns, nor of how the cores were run. [own]
use mathlib.Core.List.{IsPrefix}
use Rattle.std.specs.Prelude.{◌≡◌, Bool, true, false, ◌||◌, Option, Some, is_some, List, [], ◌∷◌, filter, find}
use Rattle.std.specs.Option.{option_map_or}
use Rattle.osbase.specs.{declared.references.CoreId.CoreId, declared.items.Item.Item, declared.items.Stimulus.Stimulus, declared.turns.Choice.Choice, declared.turns.CoreStimuli.CoreStimuli, Phases.is_going, Runs.stimuli_of, Sets.core_ids}
use Rattle.osbase.specs.History.{History, course_of, posted, received, same_core}
use Rattle.osplan.specs.{declared.plans.Plan.Plan, View.View, View.core_of, View.view_of}
use Rattle.oskernel.specs.Step.{after, history_from, solo}
use Rattle.osshared.specs.Histories.{IsLegal}
use Rattle.osboard.specs.Boards.{one_board}
use Rattle.osspin.specs.Spins.{spinlocks}
use Rattle.osrun.specs.{declared.requests.Request.Request, declared.requests.Reply.Reply}
use Rattle.osrun.specs.Requests.{Calls, request_of_turn, calls_of, joined, item_for_reply, no_calls, call_of_turn}

-- The configured cores, ascending. [own]
abbrev pub ids_of : Plan → List CoreId
ids_of plan = filter (λ id. is_some (core_of plan id)) core_ids

-- The items of a core in the lists of all, the oldest first; none if the core has no list.
abbrev pub items_of : List (CoreId × List Item) → CoreId → List Item
items_of lists id = option_map_or (λ (p : CoreId × List Item). p.1) (find (λ p. same_core p.0 id) lists) []

-- A core's history after these items, by the core's own view of the configuration.
abbrev pub history_by : Plan → CoreId → List Item → History
history_by plan id items = history_from (view_of plan id) [] items

-- The stimuli among a core's items.
abbrev pub stimuli_in : List Item → List Stimulus
stimuli_in [] = []
stimuli_in (Item.Stim s ∷ items) = s ∷ stimuli_in items
stimuli_in (item ∷ items) = stimuli_in items

-- The core drains by this item.
abbrev pub is_drain : Item → Bool
is_drain Item.Drained = true
is_drain item = false

-- The core has drained: one of its items is `Drained`.
abbrev pub has_drained : List Item → Bool
has_drained [] = false
has_drained (item ∷ items) = is_drain item || has_drained items

-- A core can take each of these items in order. The stimuli among them are a prefix of the listed ones. If the core has
-- drained and is neither down nor halted, they are all of the listed ones.
pub record FitsCore (plan : Plan) (stimuli : List CoreStimuli) (id : CoreId) (items : List Item) : Type 0 where
  pub alone : solo (view_of plan id) items ≡ Some (history_by plan id items)
  pub begins : IsPrefix (stimuli_in items) (stimuli_of stimuli id)
  pub drains : has_drained items ≡ true → is_going (course_of (history_by plan id items)) ≡ true → stimuli_in items ≡ stimuli_of stimuli id

-- After this history, some turn of the core makes this request, with some next stimulus or none. The reply `answer`
-- results in this item.
pub record ResultsIn (v : View) (h : History) (request : Request) (answer : Reply) (item : Item) : Type 0 where
  pub choice : Choice
  pub next : Option Stimulus
  pub asks : request_of_turn v h next choice ≡ Some request
  pub names : item_for_reply v h request answer ≡ Some item

-- After this history, each of these items, in order, results from a request and its reply. `calls` are the calls of the
-- board and the spinlocks among these requests, with their replies.
abbrev pub AreAnswered : View → History → List Item → Calls → Type 0
AreAnswered v h [] calls = calls ≡ no_calls
AreAnswered v h (i ∷ is) calls =
    (request : Request) × (answer : Reply) × ResultsIn v h request answer i
    × (rest : Calls) × (calls ≡ joined (call_of_turn v.core request answer) rest) × AreAnswered v (after v h i) is rest

-- The item lists fit by `calls`, one history of the board and one of the spinlocks. Each core's items fit (`FitsCore`).
-- What a core received from another is a prefix of what that one posted to it. Both histories are legal. Each core's
-- calls in them are exactly those from which its items result, in the core's order.
pub record FitsBy (plan : Plan) (stimuli : List CoreStimuli) (lists : List (CoreId × List Item)) (calls : Calls) : Type 0 where
  pub cores : (id : CoreId) → FitsCore plan stimuli id (items_of lists id)
  pub streams : (from to : CoreId) → IsPrefix (received from (history_by plan to (items_of lists to))) (posted to (history_by plan from (items_of lists from)))
  pub board : IsLegal one_board plan.master calls.board
  pub spins : IsLegal spinlocks tt calls.spins
  pub answers : (id : CoreId) → AreAnswered (view_of plan id) [] (items_of lists id) (calls_of id calls)

-- The lists fit: there are histories of the board and the spinlocks by which they fit.
abbrev pub Fits : Plan → List CoreStimuli → List (CoreId × List Item) → Type 0
Fits plan stimuli lists = (calls : Calls) × FitsBy plan stimuli lists calls
