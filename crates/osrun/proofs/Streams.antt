-- What a core's item does to the streams between the cores.
use Rattle.std.proofs.Common.{◌≡◌, suc, Bool, false, cond, List, [], ◌∷◌, ◌++◌, length, refl, ◌∙◌, arith, length-append}
use Rattle.osbase.specs.{declared.references.CoreId.CoreId, declared.messages.Letter.Letter, declared.items.Item.Item}
use Rattle.osbase.specs.History.{History, front_letter, outbox, posted, received_count, same_core, received, letter_with}
use Rattle.osplan.specs.View.{View}
use Rattle.oskernel.specs.Step.{after}
use Rattle.oskernel.proofs.Holding.{quiet_after}

-- The item posts to this core, or is received from it.
abbrev pub is_post_to : Item → CoreId → Bool
is_post_to (Item.Posted to) d = same_core to d
is_post_to item d = false

abbrev pub is_from : Item → CoreId → Bool
is_from (Item.Received from number m) s = same_core from s
is_from item s = false

pub posted-after : (v : View) (d : CoreId) (item : Item) (h : History) → posted d (after v h item) ≡ cond (is_post_to item d) (posted d h ++ front_letter (outbox h)) (posted d h)
posted-after v d item h = quiet_after (posted d) (λ m k. refl) (λ n k. refl) v h item ∙ grind arith

pub received-after : (v : View) (s : CoreId) (item : Item) (h : History) → received_count s (after v h item) ≡ cond (is_from item s) (suc (received_count s h)) (received_count s h)
received-after v s item h = quiet_after (received_count s) (λ m k. refl) (λ n k. refl) v h item ∙ grind arith

-- The letter that was received.
abbrev pub received_letter : Item → List Letter
received_letter (Item.Received from number m) = letter_with number m ∷ []
received_letter item = []

pub received-is : (v : View) (s : CoreId) (item : Item) (h : History) → received s (after v h item) ≡ cond (is_from item s) (received s h ++ received_letter item) (received s h)
received-is v s item h = quiet_after (received s) (λ m k. refl) (λ n k. refl) v h item ∙ grind arith

pub length-received : (s : CoreId) (h : History) → length (received s h) ≡ received_count s h
length-received s [] = refl
length-received s (e ∷ h) = grind (arith, length-received s h, length-append)
