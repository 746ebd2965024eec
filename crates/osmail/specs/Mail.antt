-- The mailboxes of all ordered pairs of cores, as contracts see them.
use Rattle.std.specs.Prelude.{◌≡◌, ℕ, ◌+◌, ◌*◌, ◌<◌, ◌≤◌, ◌^◌, nat_lt, Bool, if◌then◌else◌, Option, Result, Ok, Err, List, [], ◌∷◌, ◌++◌, length, drop, replicate, slice_get, slice_index, slice_index_or, slice_set, sum_by}
use Rattle.osbase.specs.{declared.references.CoreId.CoreId, declared.messages.Envelope.Envelope, declared.messages.Letter.Letter, declared.limits.TheConstants.CORES, Sets.core_ids}

-- How many letters a mailbox may have, and the mailboxes, each with its oldest letter first. The
-- mailbox from core k to core d has the place 16 k + d. [own]
pub record Mail : Type 0 where
  pub cap : ℕ
  pub boxes : List (List Letter)

-- The place of the mailbox of an ordered pair.
abbrev pub place_of : CoreId → CoreId → ℕ
place_of from to = from.number * CORES + to.number

-- The letters in the mailbox of an ordered pair, the oldest first.
abbrev pub box_of : Mail → CoreId → CoreId → List Letter
box_of mail from to = slice_index_or mail.boxes (place_of from to) []

-- The mailboxes, with these letters in that of the pair and the others as they are.
abbrev pub with_box : Mail → CoreId → CoreId → List Letter → Mail
with_box mail from to letters = record mail { boxes = slice_set mail.boxes (place_of from to) letters }

-- Empty mailboxes, each with place for `cap` letters.
abbrev pub empty_mail : ℕ → Mail
empty_mail cap = record { cap = cap; boxes = replicate (CORES * CORES) [] }

-- How many letters are in the mailboxes to a core.
unfoldable pub waiting_in : List (List Letter) → CoreId → ℕ
waiting_in boxes to = sum_by (λ from. length (slice_index_or boxes (place_of from to) [])) core_ids

-- A letter is in a mailbox to the core.
abbrev pub has_mail : Mail → CoreId → Bool
has_mail mail to = nat_lt 0 (waiting_in mail.boxes to)

-- Fewer letters than the cap are in the mailbox of the ordered pair.
abbrev pub has_room : Mail → CoreId → CoreId → Bool
has_room mail from to = nat_lt (length (box_of mail from to)) mail.cap

-- The mailboxes after a send. It puts the letter behind the others in the pair's mailbox. If that mailbox is full, the
-- send changes nothing.
abbrev pub after_send : Mail → CoreId → CoreId → Letter → Mail
after_send mail from to letter = if has_room mail from to then with_box mail from to (box_of mail from to ++ letter ∷ []) else mail

-- The answer of a send. If the pair's mailbox is full, the envelope comes back.
abbrev pub answer_of : Mail → CoreId → CoreId → Envelope → Result Unit Envelope
answer_of mail from to envelope = if has_room mail from to then Ok tt else Err envelope

-- The oldest letter in the pair's mailbox, if there is one. A take gives this letter.
abbrev pub oldest_of : Mail → CoreId → CoreId → Option Letter
oldest_of mail from to = slice_get (box_of mail from to) 0

-- The mailboxes after a take. It removes the oldest letter of the pair's mailbox, if there is one, and leaves the
-- others.
abbrev pub after_take : Mail → CoreId → CoreId → Mail
after_take mail from to = with_box mail from to (drop 1 (box_of mail from to))

-- What holds of all mailboxes at all times. There is one for each pair of cores. Each has at most `cap` letters, and
-- `cap` is 1 to `room`. The letters in those to one core can be counted in 16 bits.
pub record IsWithin (room cap : ℕ) (boxes : List (List Letter)) : Type 0 where
  pub some : 1 ≤ cap
  pub fits : cap ≤ room
  pub few : CORES * cap < 2 ^ 16
  pub places : length boxes ≡ CORES * CORES
  pub within : (k : ℕ) → k < CORES * CORES → length (slice_index_or boxes k []) ≤ cap

-- Each core's count is the number of letters in the mailboxes to it.
abbrev pub AreCounted : List ℕ → List (List Letter) → Type 0
AreCounted counts boxes = (to : CoreId) → to.number < CORES → slice_index counts to.number ≡ waiting_in boxes to
