-- The mailbox of one ordered pair of cores, as contracts see it.
use Rattle.std.specs.Prelude.{◌≡◌, ℕ, ◌+◌, ◌≤◌, ◌<◌, ◌^◌, List, [], ◌∷◌, ◌++◌, length}
use Rattle.osbase.specs.{declared.references.CoreId.CoreId, declared.messages.Letter.Letter}

-- Who sends and who receives, how many letters the mailbox may have, the number of the next letter that leaves, and the
-- letters, the oldest first. [own]
pub record MailboxState : Type 0 where
  pub from : CoreId
  pub to : CoreId
  pub cap : ℕ
  pub next : ℕ
  pub letters : List Letter

abbrev pub empty_mailbox : CoreId → CoreId → ℕ → MailboxState
empty_mailbox from to cap = record { from = from; to = to; cap = cap; next = 0; letters = [] }

-- The letters are numbered one after another, from this number on. [own]
abbrev pub AreNumbered : ℕ → List Letter → Type 0
AreNumbered n [] = Unit {0}
AreNumbered n (l ∷ ls) = (l.number ≡ n) × AreNumbered (n + 1) ls

-- What holds of a mailbox at all times: it has at most `cap` letters, `cap` is at most `most`, and the letters are
-- numbered one after another. No number reaches 2 ^ 62.
pub record IsMailbox (most : ℕ) (m : MailboxState) : Type 0 where
  pub within : length m.letters ≤ m.cap
  pub fits : m.cap ≤ most
  pub small : m.next + length m.letters ≤ 2 ^ 62
  pub numbered : AreNumbered m.next m.letters

-- The letter has the next number of the mailbox's sender, and the number is below 2 ^ 62.
pub record IsNext (m : MailboxState) (l : Letter) : Type 0 where
  pub number : l.number ≡ m.next + length m.letters
  pub small : l.number < 2 ^ 62

-- The mailbox with one more letter behind the others.
abbrev pub after_push : MailboxState → Letter → MailboxState
after_push m l = record m { letters = m.letters ++ l ∷ [] }

-- The mailbox after the first of these letters left it and the others stayed; as it is if there are none.
abbrev pub with_rest : MailboxState → List Letter → MailboxState
with_rest m [] = m
with_rest m (l ∷ ls) = record m { next = m.next + 1; letters = ls }

-- The mailbox without its oldest letter; as it is if it is empty.
abbrev pub after_pop : MailboxState → MailboxState
after_pop m = with_rest m m.letters
