-- By each core's items alone, with its own view: a core receives only replies from a core that may not ask it, and
-- nothing if it sent that one no request. If only replies come to a core that asks nobody, it receives nothing and
-- posts nothing.
use Rattle.std.proofs.Common.{◌≡◌, ℕ, ℤ, Bool, true, false, not, ◌||◌, Option, Some, List, [], ◌∷◌, refl, arith}
use Rattle.std.specs.List.{list_all}
use Rattle.std.proofs.lemmas.List.Folds.{list_all-append}
use Rattle.osbase.specs.{declared.references.CoreId.CoreId, declared.messages.Letter.Letter, declared.messages.Message.Message, declared.statuses.Status.Status, declared.items.Item.Item, declared.histories.Sent.Sent, Answers.reply}
use Rattle.osbase.specs.History.{Entry, History, Took, front_letter, outbox, posted, queued_count, received, same_core, letter_with}
use Rattle.osbase.proofs.Same.{same_core-true, same_core-refl}
use Rattle.osplan.specs.View.{View}
use Rattle.osstate.specs.State.{state_of}
use Rattle.osservice.proofs.{Kept.anybody, Kept.is_local, Kept.nobody, Partners.Partner}
use Rattle.osadmit.specs.Admission.{admits}
use Rattle.oskernel.specs.Step.{after, history_from, outbox_size, solo_from}
use Rattle.oskernel.proofs.{Calm.Calm, Calm.calm-after, Carried.NamesAllow, Carried.is_replied, Carried.replied-anybody, Holding.Holds, Holding.holds-after, Stages.is_mail, Stages.solo-parts}
use Rattle.osrun.proofs.Streams.{posted-after, received-is, received_letter}

-- The letter is a reply.
abbrev pub is_reply : Letter → Bool
is_reply e = by e.message
  where
    by : Message → Bool
    by (Message.Reply s) = true
    by (Message.Value s n) = true
    by message = false

-- ---- what a core posts to one that it may not ask

module _ (c : CoreId) (v : View) (may : Partner → Bool) (spares : may (Partner.Core c) ≡ false) (allowed : NamesAllow v may) where
  elsewhere : (core : CoreId) → may (Partner.Core core) ≡ true → same_core core c ≡ false
  elsewhere core m = grind (arith, spares, m, same_core-true core c)

  -- Each letter for that core in the outbox passes a test.
  module _ (test : Letter → Bool) where
    abbrev is_meek : Sent → Bool
    is_meek s = not (same_core s.to c) || test s.letter

    abbrev Meek : History → Type 0
    Meek h = list_all is_meek (outbox h) ≡ true

    meek-took : (i : Item) (h : History) → Meek h → Meek (Took i ∷ h)
    meek-took i h meek = grind (arith, meek)

    meek-local : (e : Entry) (h : History) → is_local anybody e ≡ true → Meek h → Meek (e ∷ h)
    meek-local e h is meek = grind (arith, is, meek)

    posted-on : (h : History) (i : Item) → admits outbox_size (state_of v h) i ≡ true → Meek h → list_all test (posted c h) ≡ true → list_all test (posted c (after v h i)) ≡ true
    posted-on h i taken meek all = rw posted-after (grind (arith, taken, meek, all, list_all-append test (posted c h) (front_letter (outbox h))))

    -- If its replies pass the test too, so does all that it posts to that core, for items whose requests it may answer.
    module _ (replies : CoreId → Bool) (answers : (core : CoreId) (s : Status) (value : Option ℤ) (number : ℕ) → replies core ≡ true → (not (same_core core c) || test (letter_with number (reply s value))) ≡ true) where
      holds : Holds may replies anybody Meek
      holds = record {
        local = meek-local;
        asked = λ core message h m p. grind (arith, list_all-append is_meek (outbox h), elsewhere core m, p);
        replied = λ core s value h m p. grind (arith, list_all-append is_meek (outbox h), answers core s value (queued_count core h) m, p);
        opened = λ call h m n p. p;
      }

      posts : (items : List Item) (h : History) → solo_from v h items ≡ Some (history_from v h items) → list_all (is_replied replies anybody) items ≡ true → Meek h → list_all test (posted c h) ≡ true → list_all test (posted c (history_from v h items)) ≡ true
      posts [] h each fine meek all = all
      posts (i ∷ is) h each fine meek all =
          let turn = solo-parts v h i is each in
          posts is (after v h i) turn.1 (grind arith) (holds-after v may replies Meek holds allowed h i (grind arith) (meek-took i h meek)) (posted-on h i turn.0 meek all)

  any-replied : (items : List Item) → list_all (is_replied anybody anybody) items ≡ true
  any-replied [] = refl
  any-replied (i ∷ is) = grind (arith, replied-anybody i, any-replied is)

  -- Whatever the core takes, it posts only replies to that core.
  pub posts-replies : (items : List Item) → solo_from v [] items ≡ Some (history_from v [] items) → list_all is_reply (posted c (history_from v [] items)) ≡ true
  posts-replies items each = posts is_reply anybody (λ core s value number m. grind arith) items [] each (any-replied items) refl refl

  -- If no request came from that core, this core posts nothing to it.
  pub posts-nothing : (items : List Item) → solo_from v [] items ≡ Some (history_from v [] items) → list_all (is_replied (λ (core : CoreId). not (same_core core c)) anybody) items ≡ true → posted c (history_from v [] items) ≡ []
  posts-nothing items each fine =
      none (posted c (history_from v [] items)) (posts nobody (λ (core : CoreId). not (same_core core c)) (λ core s value number m. grind (arith, m)) items [] each fine refl refl)
    where
      none : (es : List Letter) → list_all nobody es ≡ true → es ≡ []
      none [] all = refl
      none (e ∷ es) all = cc

-- ---- what a core takes

-- If all letters received from a core pass a test at the end, all letters received before pass it.
pub received-pass : (test : Letter → Bool) (v : View) (from : CoreId) (items : List Item) (h : History) → list_all test (received from (history_from v h items)) ≡ true → list_all test (received from h) ≡ true
received-pass test v from [] h all = all
received-pass test v from (i ∷ is) h all =
    grind (arith, received-pass test v from is (after v h i) all, received-is v from i h, list_all-append test (received from h) (received_letter i))

module _ (v : View) (allowed : NamesAllow v nobody) where
  -- From every other core, only replies come.
  abbrev OnlyReplies : History → Type 0
  OnlyReplies h = (from : CoreId) → same_core from v.core ≡ false → list_all is_reply (received from h) ≡ true

  no-mail : (h : History) (i : Item) (is : List Item) → Calm h → admits outbox_size (state_of v h) i ≡ true → OnlyReplies (history_from v (after v h i) is) → is_mail i ≡ false
  no-mail h (Item.Posted to) is calm taken replies = absurd (grind (arith, taken, calm.empty))
  no-mail h (Item.Received from number message) is calm taken replies =
      let late = received-pass is_reply v from is (after v h (Item.Received from number message)) (replies from (grind (arith, taken))) in
      let got = received-is v from (Item.Received from number message) h in
      absurd (grind (arith, taken, calm.closed, late, got, same_core-refl from, list_all-append is_reply (received from h) (letter_with number message ∷ [])))
  no-mail h i is calm taken replies = refl

  -- The core posts nothing and receives nothing.
  pub takes-no-mail : (items : List Item) (h : History) → solo_from v h items ≡ Some (history_from v h items) → Calm h → OnlyReplies (history_from v h items) → list_all (λ (i : Item). not (is_mail i)) items ≡ true
  takes-no-mail [] h each calm replies = refl
  takes-no-mail (i ∷ is) h each calm replies =
      let turn = solo-parts v h i is each in
      let none = no-mail h i is calm turn.0 replies in
      let rest = takes-no-mail is (after v h i) turn.1 (calm-after v allowed h i none calm) replies in
      grind (arith, none, rest)
