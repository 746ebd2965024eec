-- Every world fits: the world before a turn fits, and so does the item that the turn appends.
use mathlib.Core.List.{IsPrefix}
use native.Mathlib.Omega.{arith}
use Rattle.std.proofs.Common.{◌≡◌, Bool, true, false, ◌&&◌, cond, Option, Some, List, [], ◌∷◌, ◌++◌, refl, sym, ap, subst, ◌∙◌, append-nil}
use Rattle.std.specs.List.{slice_get}
use Rattle.std.proofs.lemmas.Bool.{false≢true}
use Rattle.osbase.specs.{declared.references.CoreId.CoreId, declared.messages.Letter.Letter, declared.items.Item.Item, declared.turns.Choice.Choice, declared.turns.CoreStimuli.CoreStimuli, Runs.stimuli_of}
use Rattle.osbase.specs.History.{History, course_of, front_letter, outbox, posted, received, received_count, same_core, letter_with}
use Rattle.osplan.specs.{declared.plans.Plan.Plan, View.view_of}
use Rattle.osstate.specs.State.{state_of}
use Rattle.osbase.proofs.Same.{same_core-true}
use Rattle.osshared.specs.Histories.{IsLegal, entry}
use Rattle.osshared.proofs.Steps.{legal_snoc}
use Rattle.osboard.specs.Boards.{board_reply, first_board, one_board}
use Rattle.osspin.specs.Spins.{no_holders, spin_reply, spinlocks}
use Rattle.osrun.specs.{declared.requests.Request.Request, declared.requests.Request.TheVariants.OfBoard, declared.requests.Request.TheVariants.OfSpins}
use Rattle.osrun.specs.Requests.{Calls, calls_of, joined, no_calls, spin_call_of, call_of_turn}
use Rattle.osrun.specs.Fits.{FitsBy, ids_of, AreAnswered, Fits, FitsCore}
use Rattle.osworld.specs.World.{World, reply_in, with_turn, board_in, first_world, history_in, holders_in, items_in, next_stimulus, world}
use Rattle.osrun.proofs.{Beginnings.begins-longer, Beginnings.begins-next, Beginnings.begins-through, Longer.length-stimuli_in, Longer.IsInTurn, Longer.core-on, Asked.IsOwnRequest, Asked.asks-own}
use Rattle.osworld.proofs.{Listed.items_by, Listed.list_of-same, Listed.list_of-other, Started.no_history, Started.nothing_of, Turns.Appends, Turns.turns-keep, Fitting.IsNext, Fitting.follows}
use Rattle.osrun.proofs.Streams.{is_from, is_post_to, received_letter, length-received, received-is}
use Rattle.osworld.proofs.Carrying.{added-in, history-same, history-other, posted-in}
use Rattle.osrun.proofs.Answered.{answered-push, calls_of-joined, joined-none, told-other, told-own}

-- the world's lists fit by its own calls of the board
abbrev WorldFits : Plan → List CoreStimuli → World → Type 0
WorldFits plan stimuli w = FitsBy plan stimuli w.items w.calls

-- an item received from a core is what that core posted next
next-letter : (plan : Plan) (stimuli : List CoreStimuli) (w : World) (core from : CoreId) (i : Item) → is_from i from ≡ true → IsNext plan stimuli w core i
    → (e : Letter) × (received_letter i ≡ e ∷ []) × (slice_get (posted core (history_in plan w from)) (received_count from (history_in plan w core)) ≡ Some e) × ((d : CoreId) → is_post_to i d ≡ false)
next-letter plan stimuli w core from (Item.Received f number m) is next =
    (letter_with number m, refl, subst (λ (c : CoreId). slice_get (posted core (history_in plan w c)) (received_count c (history_in plan w core)) ≡ Some (letter_with number m)) (same_core-true f from is) next, λ d. refl)
next-letter plan stimuli w core from i is next = absurd (false≢true is)

-- an item that a turn names is in turn
in-turn : (plan : Plan) (stimuli : List CoreStimuli) (w : World) (core : CoreId) (item : Item) → IsNext plan stimuli w core item → IsInTurn (stimuli_of stimuli core) (course_of (history_in plan w core)) (items_in w core) item
in-turn plan stimuli w core (Item.Stim s) next = ap (slice_get (stimuli_of stimuli core)) (length-stimuli_in (items_in w core)) ∙ next
in-turn plan stimuli w core Item.Drained next = λ going. ap (slice_get (stimuli_of stimuli core)) (length-stimuli_in (items_in w core)) ∙ next going
in-turn plan stimuli w core item next = tt

-- what holds of this core and of each other core holds of every core
here-or-there : (P : CoreId → Type 0) (core id : CoreId) → P core → (same_core core id ≡ false → P id) → P id
here-or-there P core id here there = by (same_core core id) refl
  where
    by : (b : Bool) → same_core core id ≡ b → P id
    by true e = subst P (same_core-true core id e) here
    by false e = there e

-- a world in which a turn appended an item
module _ (plan : Plan) (stimuli : List CoreStimuli) (w : World) (fits : WorldFits plan stimuli w) (core : CoreId) (request : Request) (item : Item) (p : CoreId × List Item) (turn : Appends plan stimuli w core request item p) where
  abbrev next : World
  next = with_turn plan w core request item

  follows-on : IsNext plan stimuli w core item
  follows-on = follows plan stimuli w core _ request item
      (subst (IsOwnRequest (view_of plan core) (state_of (view_of plan core) (history_in plan w core)) (next_stimulus stimuli w core)) turn.asks (asks-own (view_of plan core) (state_of (view_of plan core) (history_in plan w core)) _ turn.choice)) turn.names

  items-same : items_in next core ≡ items_in w core ++ item ∷ []
  items-same = ap items_by (list_of-same core item w.items p turn.listed) ∙ ap (λ (o : Option (CoreId × List Item)). items_by o ++ item ∷ []) (sym turn.listed)

  items-other : (c : CoreId) → same_core core c ≡ false → items_in next c ≡ items_in w c
  items-other c other = ap items_by (list_of-other core c item w.items other)

  cores-on : (id : CoreId) → FitsCore plan stimuli id (items_in next id)
  cores-on id = here-or-there (λ c. FitsCore plan stimuli c (items_in next c)) core id
      (subst (FitsCore plan stimuli core) (sym items-same) (core-on plan stimuli core (items_in w core) (fits.cores core) item (in-turn plan stimuli w core item follows-on) turn.taken))
      (λ e. subst (FitsCore plan stimuli id) (sym (items-other id e)) (fits.cores id))

  received-in : (from to : CoreId) → received from (history_in plan next to) ≡ cond (is_from item from && same_core core to) (received from (history_in plan w to) ++ received_letter item) (received from (history_in plan w to))
  received-in from to =
      added-in (λ c. received from (history_in plan next c)) (λ c. received from (history_in plan w c) ++ received_letter item) (λ c. received from (history_in plan w c)) (is_from item from) core to
      (ap (received from) (history-same plan w core request item p turn.listed) ∙ received-is (view_of plan core) from item (history_in plan w core))
      (λ e. ap (received from) (history-other plan w core request item p turn.listed to e))

  streams-on : (from to : CoreId) → IsPrefix (received from (history_in plan next to)) (posted to (history_in plan next from))
  streams-on from to = rw (received-in from to, posted-in plan w core request item p turn.listed from to) (by (is_from item from) (same_core core to) refl refl)
    where
      front : List Letter
      front = front_letter (outbox (history_in plan w core))

      longer : (b : Bool) → IsPrefix (received from (history_in plan w to)) (cond b (posted to (history_in plan w from) ++ front) (posted to (history_in plan w from)))
      longer true = begins-through _ _ _ (fits.streams from to) (begins-longer (posted to (history_in plan w from)) front)
      longer false = fits.streams from to

      -- what is received was posted before
      got : is_from item from ≡ true → IsPrefix (received from (history_in plan w core) ++ received_letter item) (cond (same_core core from && is_post_to item core) (posted core (history_in plan w from) ++ front) (posted core (history_in plan w from)))
      got is =
          let e = next-letter plan stimuli w core from item is follows-on in
          let unposted : cond (same_core core from && is_post_to item core) (posted core (history_in plan w from) ++ front) (posted core (history_in plan w from)) ≡ posted core (history_in plan w from) = grind (arith, e.3 core) in
          rw (unposted, e.1)
          (begins-next (received from (history_in plan w core)) (posted core (history_in plan w from)) e.0 (fits.streams from core)
          (ap (slice_get (posted core (history_in plan w from))) (length-received from (history_in plan w core)) ∙ e.2))

      by : (a b : Bool) → is_from item from ≡ a → same_core core to ≡ b → IsPrefix (cond (a && b) (received from (history_in plan w to) ++ received_letter item) (received from (history_in plan w to))) (cond (same_core core from && is_post_to item to) (posted to (history_in plan w from) ++ front) (posted to (history_in plan w from)))
      by true true is here = rw (← same_core-true core to here) (got is)
      by true false is here = longer (same_core core from && is_post_to item to)
      by false b is here = longer (same_core core from && is_post_to item to)

  abbrev calls : Calls
  calls = call_of_turn core request (reply_in plan w core request)

  board-on : (request : Request) → IsLegal one_board plan.master (w.calls.board ++ (call_of_turn core request (reply_in plan w core request)).board)
  board-on (OfBoard call) = legal_snoc one_board (first_board plan.master) w.calls.board (entry core call (board_reply core call (board_in plan w))) fits.board refl
  board-on request = subst (IsLegal one_board plan.master) (sym (append-nil w.calls.board)) fits.board

  spins-on : (request : Request) → IsLegal spinlocks tt (w.calls.spins ++ (call_of_turn core request (reply_in plan w core request)).spins)
  spins-on (OfSpins wish) = legal_snoc spinlocks no_holders w.calls.spins (entry core (spin_call_of wish) (spin_reply core (spin_call_of wish) (holders_in w))) fits.spins refl
  spins-on request = subst (IsLegal spinlocks tt) (sym (append-nil w.calls.spins)) fits.spins

  answers-on : (id : CoreId) → AreAnswered (view_of plan id) [] (items_in next id) (calls_of id next.calls)
  answers-on id = rw (calls_of-joined id w.calls calls) (here-or-there (λ c. AreAnswered (view_of plan c) [] (items_in next c) (joined (calls_of c w.calls) (calls_of c calls))) core id
      (subst (λ (es : Calls). AreAnswered (view_of plan core) [] (items_in next core) (joined (calls_of core w.calls) es)) (sym (told-own core request (reply_in plan w core request)))
      (rw items-same (answered-push (view_of plan core) [] (items_in w core) (calls_of core w.calls) request (reply_in plan w core request) item (fits.answers core) (record { choice = turn.choice; next = next_stimulus stimuli w core; asks = turn.asks; names = turn.names }))))
      (λ e. subst (λ (es : Calls). AreAnswered (view_of plan id) [] (items_in next id) es) (sym (ap (joined (calls_of id w.calls)) (told-other id core request (reply_in plan w core request) e) ∙ joined-none (calls_of id w.calls)))
      (rw (items-other id e) (fits.answers id))))

  fits_on : WorldFits plan stimuli next
  fits_on = record { cores = cores-on; streams = streams-on; board = board-on request; spins = spins-on request; answers = answers-on }

first-fits : (plan : Plan) (stimuli : List CoreStimuli) → WorldFits plan stimuli (first_world plan)
first-fits plan stimuli = record {
  cores = λ id. subst (FitsCore plan stimuli id) (sym (nothing_of plan id (ids_of plan))) (record { alone = refl; begins = (stimuli_of stimuli id, refl); drains = λ drained going. absurd (false≢true drained) });
  streams = λ from to. subst (λ (h : History). IsPrefix (received from h) (posted to (history_in plan (first_world plan) from))) (sym (no_history plan to)) (posted to (history_in plan (first_world plan) from), refl);
  board = tt;
  spins = tt;
  answers = λ id. subst (λ (xs : List Item). AreAnswered (view_of plan id) [] xs no_calls) (sym (nothing_of plan id (ids_of plan))) refl;
}

-- every world fits
pub world_fits : (plan : Plan) (stimuli : List CoreStimuli) (turns : List (CoreId × Choice)) → Fits plan stimuli (world plan stimuli turns).items
world_fits plan stimuli turns = ((world plan stimuli turns).calls, turns-keep plan stimuli (WorldFits plan stimuli) (λ w core request item p turn fits. fits_on plan stimuli w fits core request item p turn) (first_world plan) turns (first-fits plan stimuli))
