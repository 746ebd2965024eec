-- The histories and the mailboxes after a turn that appends an item.
use Rattle.std.proofs.Common.{◌≡◌, ℕ, suc, ◌<◌, ◌≤◌, Bool, false, ◌&&◌, cond, Option, Some, List, [], ◌∷◌, ◌++◌, length, refl, sym, ap, subst, ◌∙◌, arith, append-nil, length-append, length-drop, length-set}
use Rattle.std.proofs.{lemmas.List.drop-append-le, lemmas.Option.slice_get_past}
use Rattle.osbase.specs.{declared.references.CoreId.CoreId, declared.messages.Letter.Letter, declared.messages.Message.Message, declared.items.Item.Item, declared.limits.TheConstants.CORES, declared.histories.Sent.Sent}
use Rattle.osbase.specs.History.{front_letter, outbox, posted, received_count, same_core}
use Rattle.osmail.specs.Mail.{Mail, after_take, box_of, with_box}
use Rattle.osplan.specs.{declared.plans.Plan.Plan, View.view_of}
use Rattle.osbase.proofs.Same.{same_core-true}
use Rattle.oskernel.specs.{Step.after, Step.history_from, Wants.front_of}
use Rattle.osrun.specs.declared.requests.Request.{Request}
use Rattle.osworld.specs.{World.World, World.with_turn, World.history_in, Answering.mail_after, Answering.IsPlaced, Playing.IsMail, Playing.waiting}
use Rattle.osworld.proofs.Listed.{items_by, list_of, list_of-same, list_of-other}
use Rattle.osrun.proofs.Longer.{history_from-push}
use Rattle.osrun.proofs.Streams.{is_post_to, is_from, posted-after, received-after}
use Rattle.osworld.proofs.Waiting.{box-changed, box-taken}

-- What an item of a core may add for that core, it adds for no other core.
pub added-in : {A : Type 0} (now more less : CoreId → A) (b : Bool) (core c : CoreId) → now core ≡ cond b (more core) (less core) → (same_core core c ≡ false → now c ≡ less c) → now c ≡ cond (b && same_core core c) (more c) (less c)
added-in now more less b core c here there = grind (arith, same_core-true core c)

module _ (plan : Plan) (w : World) (core : CoreId) (request : Request) (item : Item) (p : CoreId × List Item) (listed : list_of core w.items ≡ Some p) where
  abbrev pub next : World
  next = with_turn plan w core request item

  pub history-same : history_in plan next core ≡ after (view_of plan core) (history_in plan w core) item
  history-same =
      ap (λ (o : Option (CoreId × List Item)). history_from (view_of plan core) [] (items_by o)) (list_of-same core item w.items p listed)
      ∙ history_from-push (view_of plan core) [] p.1 item
      ∙ ap (λ (o : Option (CoreId × List Item)). after (view_of plan core) (history_from (view_of plan core) [] (items_by o)) item) (sym listed)

  pub history-other : (c : CoreId) → same_core core c ≡ false → history_in plan next c ≡ history_in plan w c
  history-other c e = ap (λ (o : Option (CoreId × List Item)). history_from (view_of plan c) [] (items_by o)) (list_of-other core c item w.items e)

  abbrev sends : CoreId → CoreId → List Letter
  sends from to = posted to (history_in plan w from)

  abbrev takes_in : CoreId → CoreId → ℕ
  takes_in from to = received_count from (history_in plan w to)

  abbrev front : List Letter
  front = front_letter (outbox (history_in plan w core))

  pub posted-in : (from to : CoreId) → posted to (history_in plan next from) ≡ cond (same_core core from && is_post_to item to) (sends from to ++ front) (sends from to)
  posted-in from to = grind (arith, same_core-true core from, history-same, history-other from, posted-after (view_of plan core) to item (history_in plan w core))

  pub received-in : (from to : CoreId) → received_count from (history_in plan next to) ≡ cond (is_from item from && same_core core to) (suc (takes_in from to)) (takes_in from to)
  received-in from to = grind (arith, same_core-true core to, history-same, history-other to, received-after (view_of plan core) from item (history_in plan w core))

  -- nothing was posted, and nothing was received
  pub unmoved : (mail : Mail) → IsMail plan w mail → ((from to : CoreId) → posted to (history_in plan next from) ≡ sends from to) → ((from to : CoreId) → received_count from (history_in plan next to) ≡ takes_in from to) → IsMail plan next mail
  unmoved mail m same_posted same_received = record {
    cap = m.cap;
    places = m.places;
    boxes = λ from to a b. cc (m.boxes from to a b, same_received from to, same_posted from to);
    order = λ from to. rw (same_received from to, same_posted from to) (m.order from to);
  }

  pub aside : (mail : Mail) → IsMail plan w mail → ((d : CoreId) → is_post_to item d ≡ false) → ((s : CoreId) → is_from item s ≡ false) → IsMail plan next mail
  aside mail m no_post no_receipt =
      unmoved mail m (λ from to. grind (arith, posted-in from to, no_post to)) (λ from to. grind (arith, received-in from to, no_receipt from))

-- a post: the outbox's front joins its stream, and its mailbox
module _ (plan : Plan) (w : World) (core to : CoreId) (request : Request) (p : CoreId × List Item) (listed : list_of core w.items ≡ Some p) (mail : Mail) (m : IsMail plan w mail) (known : core.number < CORES) (placed : IsPlaced mail core (Item.Posted to)) where
  abbrev posts : World
  posts = with_turn plan w core request (Item.Posted to)

  abbrev with_front : Letter → Mail
  with_front e = with_box mail core to (box_of mail core to ++ e ∷ [])

  module _ (e : Letter) (ahead : front_letter (outbox (history_in plan w core)) ≡ e ∷ []) where
    sent : (c d : CoreId) → posted d (history_in plan posts c) ≡ cond (same_core core c && same_core to d) (posted d (history_in plan w c) ++ e ∷ []) (posted d (history_in plan w c))
    sent c d = cc (posted-in plan w core request (Item.Posted to) p listed c d)

    got : (c d : CoreId) → received_count c (history_in plan posts d) ≡ received_count c (history_in plan w d)
    got c d = received-in plan w core request (Item.Posted to) p listed c d

    box : (c d : CoreId) → c.number < CORES → d.number < CORES → box_of (with_front e) c d ≡ waiting plan posts c d
    box c d c-known d-known =
        let changed = box-changed mail core to (box_of mail core to ++ e ∷ []) c d known placed.0 d-known m.places in
        let longer = drop-append-le (received_count core (history_in plan w to)) (posted to (history_in plan w core)) (e ∷ []) (m.order core to) in
        grind (arith, changed, longer, sent c d, got c d, m.boxes c d c-known d-known, m.boxes core to known placed.0, same_core-true core c, same_core-true to d)

    order : (c d : CoreId) → received_count c (history_in plan posts d) ≤ length (posted d (history_in plan posts c))
    order c d = grind (arith, sent c d, got c d, m.order c d, length-append (posted d (history_in plan w c)) (e ∷ []))

    sends_on : IsMail plan posts (with_front e)
    sends_on = record { cap = m.cap; places = length-set mail.boxes _ _ ∙ m.places; boxes = box; order = order }

  pub posting_on : IsMail plan posts (mail_after core (front_of (outbox (history_in plan w core))) (Item.Posted to) mail)
  posting_on = by (outbox (history_in plan w core)) refl
    where
      by : (out : List Sent) → outbox (history_in plan w core) ≡ out → IsMail plan posts (mail_after core (front_of out) (Item.Posted to) mail)
      by [] e =
          unmoved plan w core request (Item.Posted to) p listed mail m
          (λ c d. grind (arith, e, posted-in plan w core request (Item.Posted to) p listed c d, append-nil (posted d (history_in plan w c))))
          (λ c d. received-in plan w core request (Item.Posted to) p listed c d)
      by (s ∷ ss) e = subst (λ (b : Bool). IsMail plan posts (cond b (with_front s.letter) mail)) (sym placed.1) (sends_on s.letter (ap front_letter e))

-- a receipt: the oldest envelope leaves its mailbox
module _ (plan : Plan) (w : World) (core from : CoreId) (request : Request) (number : ℕ) (message : Message) (p : CoreId × List Item) (listed : list_of core w.items ≡ Some p) (mail : Mail) (m : IsMail plan w mail) (known : core.number < CORES) (placed : IsPlaced mail core (Item.Received from number message)) where
  abbrev receives : World
  receives = with_turn plan w core request (Item.Received from number message)

  -- the letter in front is the next to be received
  some : suc (received_count from (history_in plan w core)) ≤ length (posted core (history_in plan w from))
  some = grind (arith, placed.1, m.boxes from core placed.0 known, slice_get_past (box_of mail from core) 0, length-drop (received_count from (history_in plan w core)) (posted core (history_in plan w from)))

  sent_as_before : (c d : CoreId) → posted d (history_in plan receives c) ≡ posted d (history_in plan w c)
  sent_as_before c d = grind (arith, posted-in plan w core request (Item.Received from number message) p listed c d)

  one_more_got : (c d : CoreId) → received_count c (history_in plan receives d) ≡ cond (same_core from c && same_core core d) (suc (received_count c (history_in plan w d))) (received_count c (history_in plan w d))
  one_more_got c d = received-in plan w core request (Item.Received from number message) p listed c d

  box_after : (c d : CoreId) → c.number < CORES → d.number < CORES → box_of (after_take mail from core) c d ≡ waiting plan receives c d
  box_after c d c-known d-known =
      rw (one_more_got c d, sent_as_before c d)
      (box-taken mail (λ x y. posted y (history_in plan w x)) (λ x y. received_count x (history_in plan w y)) from core c d placed.0 known d-known m.places (m.boxes from core placed.0 known) (m.boxes c d c-known d-known))

  order_after : (c d : CoreId) → received_count c (history_in plan receives d) ≤ length (posted d (history_in plan receives c))
  order_after c d = grind (arith, some, sent_as_before c d, one_more_got c d, m.order c d, same_core-true from c, same_core-true core d)

  pub receiving_on : IsMail plan receives (after_take mail from core)
  receiving_on = record { cap = m.cap; places = length-set mail.boxes _ _ ∙ m.places; boxes = box_after; order = order_after }

-- for each item, the mailboxes hold what is on its way
pub carries_on : (plan : Plan) (w : World) (core : CoreId) (request : Request) (item : Item) (p : CoreId × List Item) → list_of core w.items ≡ Some p → (mail : Mail) → IsMail plan w mail → core.number < CORES → IsPlaced mail core item → IsMail plan (with_turn plan w core request item) (mail_after core (front_of (outbox (history_in plan w core))) item mail)
carries_on plan w core request (Item.Posted to) p listed mail m known placed = posting_on plan w core to request p listed mail m known placed
carries_on plan w core request (Item.Received from number message) p listed mail m known placed = receiving_on plan w core from request number message p listed mail m known placed
carries_on plan w core request item p listed mail m known placed = aside plan w core request item p listed mail m (λ d. refl) (λ s. refl)
