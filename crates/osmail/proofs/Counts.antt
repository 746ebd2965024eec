-- How many letters wait for a core, before and after a change of one mailbox.
use native.Mathlib.Omega.{arith}
use Rattle.std.proofs.Common.{◌≡◌, ◌<◌, ◌≤◌, ◌+◌, ◌*◌, ◌^◌, ◌≢◌, ℕ, zero, suc, List, [], ◌∷◌, length, map, refl, sym, ap, ◌∙◌, get_or, set, sum_by, get_or-set_same, get_or-set_other, length-set, replicate, false, ◌⊎◌, inl, inr}
use Rattle.std.proofs.{lemmas.Bool.cases_eq, lemmas.Bool.Decides.nat_tests, lemmas.List.get_or_default, lemmas.List.get_or-replicate, lemmas.List.nil_from_length, lemmas.List.length-replicate, lemmas.Grind.get_or-set_at, lemmas.List.Sums.get_or-le-sum_by, lemmas.List.Sums.sum_by-set}
use Rattle.osbase.specs.{Sets.numbers_from, declared.references.CoreId.CoreId, declared.messages.Letter.Letter, declared.limits.TheConstants.CORES}
use Rattle.osbase.proofs.Tables.{table-at, table-same, table-set}
use Rattle.osmail.specs.Mail.{AreCounted, box_of, has_mail, IsWithin, Mail, place_of, waiting_in}
use Rattle.osmail.proofs.Boxes.{place_below}

-- how many letters from a sender wait for a core
abbrev from_at : List (List Letter) → CoreId → ℕ → ℕ
from_at boxes to n = length (get_or boxes (n * CORES + to.number) [])

abbrev by_sender : List (List Letter) → CoreId → List ℕ
by_sender boxes to = map (from_at boxes to) (numbers_from 0 CORES)

waiting-sum : (boxes : List (List Letter)) (to : CoreId) → waiting_in boxes to ≡ sum_by (λ n. n) (by_sender boxes to)
unfolding waiting_in
waiting-sum boxes to = refl

-- each mailbox to a core is part of what waits for the core
pub waiting-part : (boxes : List (List Letter)) (from to : CoreId) → from.number < CORES → length (get_or boxes (place_of from to) []) ≤ waiting_in boxes to
waiting-part boxes from to sender =
    let at = table-at (from_at boxes to) 0 CORES from.number from.number 0 (omega arith) sender in
    let part = get_or-le-sum_by (λ n. n) (by_sender boxes to) from.number 0 (omega (arith, sender)) in
    let whole = waiting-sum boxes to in
    omega arith

-- what waits for a core is bounded, as each mailbox is
pub waiting-most : (cap : ℕ) (boxes : List (List Letter)) (to : CoreId) → to.number < CORES → ((k : ℕ) → k < CORES * CORES → length (get_or boxes k []) ≤ cap) → waiting_in boxes to ≤ CORES * cap
unfolding waiting_in
waiting-most cap boxes to receiver within = omega (arith, within)

module _ (boxes : List (List Letter)) (from to : CoreId) (letters : List Letter) (sender : from.number < CORES) (receiver : to.number < CORES) (places : length boxes ≡ CORES * CORES) where
  abbrev changed : List (List Letter)
  changed = set boxes (place_of from to) letters

  -- what waits for the core changes by as much as the mailbox
  pub waiting-set_same : waiting_in changed to + length (get_or boxes (place_of from to) []) ≡ waiting_in boxes to + length letters
  waiting-set_same =
      let below : place_of from to < length boxes = omega (arith, place_below from to sender receiver) in
      let here : from_at changed to from.number ≡ length letters = ap length (get_or-set_same boxes (place_of from to) letters [] below) in
      let table : set (by_sender boxes to) from.number (from_at changed to from.number) ≡ by_sender changed to = table-set (from_at boxes to) (from_at changed to) 0 CORES from.number from.number (omega arith) sender (λ m other. sym (ap length (get_or-set_other boxes (place_of from to) (m * CORES + to.number) letters [] (λ same. other (omega arith))))) in
      let at = table-at (from_at boxes to) 0 CORES from.number from.number 0 (omega arith) sender in
      let sum = sum_by-set (λ n. n) (by_sender boxes to) from.number (from_at changed to from.number) 0 (omega (arith, sender)) in
      let new = ap (sum_by (λ (n : ℕ). n)) table in
      let old_whole = waiting-sum boxes to in let new_whole = waiting-sum changed to in
      omega (arith, here, at, sum, new, old_whole, new_whole)

  -- what waits for another core stays
  pub waiting-set_other : (to' : CoreId) → to'.number < CORES → to'.number ≢ to.number → waiting_in changed to' ≡ waiting_in boxes to'
  waiting-set_other to' receiver' other =
      waiting-sum changed to'
      ∙ ap (sum_by (λ (n : ℕ). n)) (table-same (from_at changed to') (from_at boxes to') 0 CORES
      (λ n h. ap length (get_or-set_other boxes (place_of from to) (n * CORES + to'.number) letters [] (λ same. other (omega (arith, same, receiver, receiver'))))))
      ∙ sym (waiting-sum boxes to')

-- ---- all mailboxes and all counts, after a change of one mailbox

within-set : (room cap : ℕ) (boxes : List (List Letter)) (at : ℕ) (letters : List Letter) → IsWithin room cap boxes → length letters ≤ cap → IsWithin room cap (set boxes at letters)
within-set room cap boxes at letters is few = record {
  some = is.some;
  fits = is.fits;
  few = is.few;
  places = length-set boxes at letters ∙ is.places;
  within = λ k below. grind (arith, cases_eq k at, get_or-set_at, get_or-set_other, is.within k below);
}

-- one mailbox is read, and then changed
module _ (room cap : ℕ) (counts : List ℕ) (boxes : List (List Letter)) (from to : CoreId) (at : ℕ) (old : List Letter) (sender : from.number < CORES) (receiver : to.number < CORES) (is : IsWithin room cap boxes × AreCounted counts boxes) (here : at ≡ place_of from to) (read : old ≡ get_or boxes at old) where
  box : get_or boxes (place_of from to) [] ≡ old
  box = get_or_default boxes (place_of from to) [] old (omega (arith, place_below from to sender receiver, is.0.places)) ∙ sym (read ∙ ap (λ (k : ℕ). get_or boxes k old) here)

  pub counted-at : (length old ≤ cap) × (length old ≤ get_or counts to.number 0) × (get_or counts to.number 0 ≤ CORES * cap)
  counted-at =
      let same = ap length box in
      let part = waiting-part boxes from to sender in
      let most = waiting-most cap boxes to receiver is.0.within in
      let fits = is.0.within (place_of from to) (place_below from to sender receiver) in
      let count = is.1 to receiver in
      omega (arith, same, part, most, fits, count)

  pub counted-set : (letters : List Letter) (count : ℕ) → length counts ≡ CORES → length letters ≤ cap → count + length old ≡ get_or counts to.number 0 + length letters → IsWithin room cap (set boxes at letters) × AreCounted (set counts to.number count) (set boxes at letters)
  counted-set letters count all few changes = rw here (within-set room cap boxes (place_of from to) letters is.0 few, λ to' below. each to' below (cases_eq to'.number to.number))
    where
      each : (to' : CoreId) → to'.number < CORES → (to'.number ≡ to.number) ⊎ (to'.number ≡ to.number → ⊥) → get_or (set counts to.number count) to'.number 0 ≡ waiting_in (set boxes (place_of from to) letters) to'
      each to' below (inl same) =
          let waits = waiting-set_same boxes from to letters sender receiver is.0.places in
          let one : to' ≡ to = ap (λ (n : ℕ). record { number = n }) same in
          let fits : count ≡ waiting_in (set boxes (place_of from to) letters) to = omega (arith, is.1 to receiver, waits, changes, ap length box) in
          get_or-set_at counts to.number to'.number count 0 same (omega (arith, all, receiver)) ∙ fits ∙ ap (waiting_in (set boxes (place_of from to) letters)) (sym one)
      each to' below (inr other) = get_or-set_other counts to.number to'.number count 0 other ∙ is.1 to' below ∙ sym (waiting-set_other boxes from to letters sender receiver is.0.places to' below other)

-- at first nothing is in any mailbox
pub counted-new : (room cap places : ℕ) → places ≡ CORES * CORES → 1 ≤ cap → cap ≤ room → CORES * cap < 2 ^ 16 → IsWithin room cap (replicate places []) × AreCounted (replicate CORES 0) (replicate places [])
counted-new room cap places all some fits few = (
  record { some = some; fits = fits; few = few; places = length-replicate places [] ∙ all; within = λ k below. omega (arith, empty k below) },
  λ to receiver. let most = waiting-most 0 (replicate places []) to receiver (λ k below. omega (arith, empty k below)) in get_or-replicate CORES to.number 0 0 receiver ∙ omega (arith, most),
)
  where
    empty : (k : ℕ) → k < CORES * CORES → length (get_or {A = List Letter} (replicate places []) k []) ≡ 0
    empty k below = ap length (get_or-replicate places k [] [] (omega (arith, all, below)))

-- no mailbox to a core that has no mail holds anything
pub no_mail : (mail : Mail) (from to : CoreId) → from.number < CORES → has_mail mail to ≡ false → box_of mail from to ≡ []
no_mail mail from to sender none =
    let part = waiting-part mail.boxes from to sender in
    nil_from_length (box_of mail from to) (grind (arith, nat_tests, part, none))
