-- If each item that a turn appends keeps a property of the first world, every world has the property.
use Rattle.std.proofs.Common.{◌≡◌, Bool, true, false, cond, Option, Some, None, option_map, is_some, List, [], ◌∷◌, refl}
use Rattle.osbase.specs.{declared.references.CoreId.CoreId, declared.items.Item.Item, declared.turns.Choice.Choice, declared.turns.CoreStimuli.CoreStimuli, History.History}
use Rattle.osplan.specs.{declared.plans.Plan.Plan, View.View, View.view_of}
use Rattle.oskernel.specs.{Step.takes, Step.outbox_size, Wants.watch_of}
use Rattle.osrun.specs.{declared.requests.Request.Request, Requests.request_of_turn, Requests.next_item, Requests.item_for_reply}
use Rattle.osworld.specs.World.{World, reply_in, with_turn, history_in, next_in, next_stimulus, turn, turn_by, world_from}
use Rattle.osworld.proofs.Listed.{list_of}

-- A turn appends this item to this list.
pub record Appends (plan : Plan) (stimuli : List CoreStimuli) (w : World) (core : CoreId) (request : Request) (item : Item) (p : CoreId × List Item) : Type 0 where
  pub listed : list_of core w.items ≡ Some p
  pub choice : Choice
  pub asks : request_of_turn (view_of plan core) (history_in plan w core) (next_stimulus stimuli w core) choice ≡ Some request
  pub names : item_for_reply (view_of plan core) (history_in plan w core) request (reply_in plan w core request) ≡ Some item
  pub taken : takes outbox_size (view_of plan core) (history_in plan w core) item ≡ true

module _ (plan : Plan) (stimuli : List CoreStimuli) (P : World → Type 0) (keeps : (w : World) (core : CoreId) (request : Request) (item : Item) (p : CoreId × List Item) → Appends plan stimuli w core request item p → P w → P (with_turn plan w core request item)) where
  turn-keeps : (w : World) (t : CoreId × Choice) → P w → P (turn plan stimuli w t)
  turn-keeps w t has = by (list_of t.0 w.items) refl
    where
      view : View
      view = view_of plan t.0

      past : History
      past = history_in plan w t.0

      item_keeps : (p : CoreId × List Item) → list_of t.0 w.items ≡ Some p → (request : Request) → request_of_turn view past (next_stimulus stimuli w t.0) t.1 ≡ Some request → (item : Item) → item_for_reply view past request (reply_in plan w t.0 request) ≡ Some item → (b : Bool) → takes outbox_size view past item ≡ b → P (cond b (with_turn plan w t.0 request item) w)
      item_keeps p listed request asks item names true taken = keeps w t.0 request item p (record { listed = listed; choice = t.1; asks = asks; names = names; taken = taken }) has
      item_keeps p listed request asks item names false taken = has

      named_keeps : (p : CoreId × List Item) → list_of t.0 w.items ≡ Some p → (request : Request) → request_of_turn view past (next_stimulus stimuli w t.0) t.1 ≡ Some request → (o : Option Item) → item_for_reply view past request (reply_in plan w t.0 request) ≡ o → P (turn_by plan w t.0 (option_map (λ (i : Item). let t : Request × Item = (request, i) in t) o))
      named_keeps p listed request asks None names = has
      named_keeps p listed request asks (Some item) names = item_keeps p listed request asks item names (takes outbox_size view past item) refl

      asked_keeps : (p : CoreId × List Item) → list_of t.0 w.items ≡ Some p → (o : Option Request) → request_of_turn view past (next_stimulus stimuli w t.0) t.1 ≡ o → P (turn_by plan w t.0 (next_item t.0 (watch_of view past) (reply_in plan w t.0) o))
      asked_keeps p listed None asks = has
      asked_keeps p listed (Some request) asks = named_keeps p listed request asks (item_for_reply view past request (reply_in plan w t.0 request)) refl

      by : (o : Option (CoreId × List Item)) → list_of t.0 w.items ≡ o → P (cond (is_some o) (turn_by plan w t.0 (next_in plan stimuli w t.0 t.1)) w)
      by None nobody = has
      by (Some p) listed = asked_keeps p listed (request_of_turn view past (next_stimulus stimuli w t.0) t.1) refl

  pub turns-keep : (w : World) (ts : List (CoreId × Choice)) → P w → P (world_from plan stimuli w ts)
  turns-keep w [] has = has
  turns-keep w (t ∷ ts) has = turns-keep (turn plan stimuli w t) ts (turn-keeps w t has)
