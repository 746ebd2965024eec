-- The rings between cores: which ring an end of one belongs to, which rings a core's end has, and what went through
-- them.
use Rattle.std.specs.Prelude.{◌≡◌, ℕ, ◌<◌, Option, Some, None, List, [], ◌∷◌, ◌++◌, length, map, replicate, slice_index_or, slice_set}
use Rattle.std.specs.{List.AllByRecursion, Option.option_map, Option.option_map_or, Global.Global}
use denote.RawPtr.{Ptr}
use Rattle.rtrb.specs.{declared.AnyItems.AnyItems, declared.producer.Producer.Producer, declared.consumer.Consumer.Consumer, Shared.Names}
use Rattle.rtrb.specs.Ring.{known_free, known_items, received, sent}
use Rattle.osbase.specs.{declared.limits.TheConstants.CORES, declared.references.CoreId.CoreId, declared.messages.Envelope.Envelope, declared.messages.Letter.Letter}
use Rattle.osmail.specs.{declared.rings.RingEnd.RingEnd, Ends.letters_of}

-- The sending end of a ring.
abbrev pub Sender : Type 0
Sender = Producer Envelope Global AnyItems

-- The taking end of a ring.
abbrev pub Taker : Type 0
Taker = Consumer Envelope Global AnyItems

-- Which ring it is: its memory, and the names under which proofs know it. [own]
pub record RingId : Type 0 where
  pub words : Ptr
  pub slots : Ptr
  pub names : Names
  pub heap : Global

-- The ring into which this end sends.
abbrev pub ring_to : Sender → RingId
ring_to p = record { words = p.end.words; slots = p.end.slots; names = p.end.names; heap = p.end.heap }

-- The ring from which this end takes.
abbrev pub ring_from : Taker → RingId
ring_from c = record { words = c.end.words; slots = c.end.slots; names = c.end.names; heap = c.end.heap }

-- The letters that this end sent into its ring, the oldest first; none if there is no ring.
abbrev pub sent_by : Option Sender → List Letter
sent_by p = option_map_or (λ (p : Sender). letters_of (sent p)) p []

-- The letters that this end took from its ring, the oldest first; none if there is no ring.
abbrev pub taken_by : Option Taker → List Letter
taken_by c = option_map_or (λ (c : Taker). letters_of (received c)) c []

-- How many slots a ring's sending end knows to be free; 0 if there is no ring.
abbrev pub free_of : Option Sender → ℕ
free_of p = option_map_or known_free p 0

-- The letters that a ring's taking end knows to be there; none if there is no ring.
abbrev pub known_by : Option Taker → List Letter
known_by c = option_map_or (λ (c : Taker). letters_of (known_items c)) c []

-- Which end it is: its core, and for each core number the rings by which it sends to that core and takes from it, if
-- there are any.
pub record EndId : Type 0 where
  pub core : CoreId
  pub to : List (Option RingId)
  pub from : List (Option RingId)

-- Which end this is: its core, and its rings by core number.
abbrev pub end_id : RingEnd → EndId
end_id end = record { core = end.core; to = map (option_map ring_to) end.to.items; from = map (option_map ring_from) end.from.items }

abbrev pub core_of_end : RingEnd → CoreId
core_of_end end = end.core

-- From now on an end sends to this core by this ring. Nothing else changed.
pub record SendsBy (other : CoreId) (ring : Sender) (old new : RingEnd) : Type 0 where
  pub core : new.core ≡ old.core
  pub to : new.to.items ≡ slice_set old.to.items other.number (Some ring)
  pub from : new.from ≡ old.from

-- From now on an end takes from this core by this ring. Nothing else changed.
pub record TakesBy (other : CoreId) (ring : Taker) (old new : RingEnd) : Type 0 where
  pub core : new.core ≡ old.core
  pub to : new.to ≡ old.to
  pub from : new.from.items ≡ slice_set old.from.items other.number (Some ring)

-- Whose end it is, and what the end did: by core number, what it sent and what it took.
pub record EndPast : Type 0 where
  pub core : CoreId
  pub sent : List (List Letter)
  pub taken : List (List Letter)

-- Whose end this is, and what it sent and took, by core number.
abbrev pub past_of : RingEnd → EndPast
past_of end = record { core = end.core; sent = map sent_by end.to.items; taken = map taken_by end.from.items }

-- The letters that an end sent to a core, the oldest first; none if the end has no ring to that core.
abbrev pub ring_sent : RingEnd → CoreId → List Letter
ring_sent end d = slice_index_or (map sent_by end.to.items) d.number []

-- The letters that an end took from a core, the oldest first; none if the end has no ring from that core.
abbrev pub ring_taken : RingEnd → CoreId → List Letter
ring_taken end s = slice_index_or (map taken_by end.from.items) s.number []

-- How many slots of its ring to a core an end knows to be free; 0 if the end has no such ring.
abbrev pub free_to : CoreId → RingEnd → ℕ
free_to d end = slice_index_or (map free_of end.to.items) d.number 0

-- The letters that an end knows to be in its ring from a core; none if the end has no such ring.
abbrev pub known_from : CoreId → RingEnd → List Letter
known_from s end = slice_index_or (map known_by end.from.items) s.number []

-- The ring by which the first end sends to the second one's core is the ring by which the second end takes from the
-- first one's core; or neither end has such a ring.
abbrev pub IsLinked : EndId → EndId → Type 0
IsLinked a b = slice_index_or a.to b.core.number None ≡ slice_index_or b.from a.core.number None

-- The two ends are linked in both directions.
abbrev pub AreBothLinked : EndId → EndId → Type 0
AreBothLinked a b = IsLinked a b × IsLinked b a

-- Each of these ends is linked to each of them, also to itself.
abbrev pub AreLinked : List EndId → Type 0
AreLinked ids = AllByRecursion (λ a. AllByRecursion (IsLinked a) ids) ids

-- What the second end took, followed by some letters that are left, is what the first end sent.
abbrev pub IsRingDelivered : Option Sender → Option Taker → Type 0
IsRingDelivered p c = (left : List Letter) × (taken_by c ++ left ≡ sent_by p)

-- What the second core took from the first one, followed by what is left, is what the first one sent to it.
abbrev pub IsDelivered : EndPast → EndPast → Type 0
IsDelivered a b = (left : List Letter) × (slice_index_or b.taken a.core.number [] ++ left ≡ slice_index_or a.sent b.core.number [])

-- What each of the two cores took from the other, followed by what is left, is what the other sent to it.
abbrev pub AreBothDelivered : EndPast → EndPast → Type 0
AreBothDelivered a b = IsDelivered a b × IsDelivered b a

-- What any of these cores took from any of them, followed by what is left, is what the sender sent to the taker.
abbrev pub AreDelivered : List EndPast → Type 0
AreDelivered pasts = AllByRecursion (λ a. AllByRecursion (IsDelivered a) pasts) pasts

-- ---- how they are made

-- The core's number is below `CORES`.
abbrev pub IsInRange : CoreId → Type 0
IsInRange c = c.number < CORES

-- The cores have different numbers.
abbrev pub IsApart : CoreId → CoreId → Type 0
IsApart c d = c.number ≡ d.number → ⊥

-- No core is listed twice.
abbrev pub AreApart : List CoreId → Type 0
AreApart [] = Unit {0}
AreApart (c ∷ cs) = AllByRecursion (IsApart c) cs × AreApart cs

-- Rings can be made for these cores: each has a number below `CORES`, and none is listed twice.
abbrev pub AreCores : List CoreId → Type 0
AreCores cores = AllByRecursion IsInRange cores × AreApart cores

-- An end sent nothing to any core, and took nothing from any.
abbrev pub IsUnused : RingEnd → Type 0
IsUnused end = (c : CoreId) → (ring_sent end c ≡ []) × (ring_taken end c ≡ [])

-- Nothing was sent into the ring, if there is one.
abbrev pub IsUnsent : Option Sender → Type 0
IsUnsent p = sent_by p ≡ []

-- Nothing was taken from the ring, if there is one.
abbrev pub IsUntaken : Option Taker → Type 0
IsUntaken c = taken_by c ≡ []

-- Nothing went through any ring of the end.
abbrev pub HasFreshRings : RingEnd → Type 0
HasFreshRings end = AllByRecursion IsUnsent end.to.items × AllByRecursion IsUntaken end.from.items

-- The end knows of `cap` free slots in its ring to each of these cores.
abbrev pub HasRoom : List CoreId → ℕ → RingEnd → Type 0
HasRoom cores cap end = AllByRecursion (λ d. free_to d end ≡ cap) cores

-- For each core number the end has a place for the ring to that core, and one for the ring from it.
abbrev pub HasPlaces : RingEnd → Type 0
HasPlaces end = (length end.to.items ≡ CORES) × (length end.from.items ≡ CORES)

-- The end has all places for rings, one to and one from each core number, and no ring yet.
pub record IsBare (end : RingEnd) : Type 0 where
  pub to : end.to.items ≡ replicate CORES None
  pub from : end.from.items ≡ replicate CORES None

-- Rings can be made for the cores of these ends, and the ends have all places for rings. Any two of the ends are
-- linked, and nothing went through their rings yet.
pub record AreMade (ends : List RingEnd) : Type 0 where
  pub cores : AreCores (map core_of_end ends)
  pub places : AllByRecursion HasPlaces ends
  pub linked : AreLinked (map end_id ends)
  pub fresh : AllByRecursion HasFreshRings ends

-- How many slots of its ring to a core the end at this place knows to be free; 0 if there is no such end or ring.
abbrev pub free_at : List RingEnd → ℕ → CoreId → ℕ
free_at ends i d = slice_index_or (map (free_to d) ends) i 0

-- The core of the end at this place; core 0 if there is no such end.
abbrev pub core_at : List RingEnd → ℕ → CoreId
core_at ends i = slice_index_or (map core_of_end ends) i (record { number = 0 })
