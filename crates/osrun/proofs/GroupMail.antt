-- By each core's items alone: a core answers no core from which only replies came, and takes nothing from a number that
-- no core has.
use Rattle.std.proofs.Common.{◌≡◌, nat_lt, true, false, not, Some, List, [], ◌∷◌, refl, arith}
use Rattle.std.specs.List.{list_all}
use Rattle.std.proofs.lemmas.List.Folds.{list_all-append}
use Rattle.osbase.specs.{declared.references.CoreId.CoreId, declared.items.Item.Item, declared.limits.TheConstants.CORES, History.History, History.received, History.same_core}
use Rattle.osplan.specs.View.{View}
use Rattle.osservice.proofs.Kept.{anybody}
use Rattle.osstate.specs.State.{state_of}
use Rattle.osadmit.specs.Admission.{admits}
use Rattle.oskernel.specs.Step.{after, history_from, outbox_size, solo_from}
use Rattle.oskernel.proofs.{Carried.is_replied, Stages.solo-parts}
use Rattle.osrun.proofs.{Mailed.is_reply, Mailed.received-pass, Streams.is_from, Streams.received-is, Streams.received_letter}

module _ (c : CoreId) (v : View) where
  -- If only replies come from a core, no item is a request from it.
  pub none-asked : (items : List Item) (h : History) → list_all is_reply (received c (history_from v h items)) ≡ true → list_all (is_replied (λ (core : CoreId). not (same_core core c)) anybody) items ≡ true
  none-asked [] h all = refl
  none-asked (i ∷ is) h all =
      let so_far = received-pass is_reply v c is (after v h i) all in
      grind (arith, so_far, received-is v c i h, list_all-append is_reply (received c h) (received_letter i), none-asked is (after v h i) all)

  -- Nothing is taken from a number that no core may have.
  high-not : (h : History) (i : Item) → admits outbox_size (state_of v h) i ≡ true → nat_lt c.number CORES ≡ false → is_from i c ≡ false
  high-not h i taken high = grind arith

  pub high-silent : nat_lt c.number CORES ≡ false → (items : List Item) (h : History) → solo_from v h items ≡ Some (history_from v h items) → received c (history_from v h items) ≡ received c h
  high-silent high [] h each = refl
  high-silent high (i ∷ is) h each =
      let turn = solo-parts v h i is each in
      grind (arith, high-silent high is (after v h i) turn.1, received-is v c i h, high-not h i turn.0 high)
