-- The mailboxes that hold what is on its way between the cores.
use native.Mathlib.Omega.{arith}
use Rattle.std.proofs.Common.{◌≡◌, ℕ, zero, suc, ◌*◌, ◌<◌, ◌&&◌, cond, List, [], ◌∷◌, length, drop, refl, get_or-set_other}
use Rattle.std.proofs.lemmas.{Bool.cases_eq, Bool.Decides.nat_tests, Grind.get_or-set_at, List.drop-drop}
use Rattle.std.specs.List.{slice_get}
use Rattle.osbase.specs.{declared.references.CoreId.CoreId, declared.messages.Letter.Letter, declared.limits.TheConstants.CORES, History.same_core}
use Rattle.osbase.proofs.Same.{same_core-true}
use Rattle.osmail.specs.Mail.{Mail, after_take, box_of, place_of, with_box}

-- One mailbox is changed, and every other one is as it was.
pub box-changed : (mail : Mail) (a b : CoreId) (xs : List Letter) (from to : CoreId) → a.number < CORES → b.number < CORES → to.number < CORES → length mail.boxes ≡ CORES * CORES → box_of (with_box mail a b xs) from to ≡ cond (same_core a from && same_core b to) xs (box_of mail from to)
box-changed mail a b xs from to a-known b-known to-known places = grind (arith, nat_tests, cases_eq (place_of from to) (place_of a b), get_or-set_at mail.boxes, get_or-set_other mail.boxes)

-- If the oldest letter of a mailbox is taken, one more letter of its stream is taken, and the other mailboxes stay.
pub box-taken : (mail : Mail) (sent : CoreId → CoreId → List Letter) (taken : CoreId → CoreId → ℕ) (from core c d : CoreId) → from.number < CORES → core.number < CORES → d.number < CORES → length mail.boxes ≡ CORES * CORES
    → box_of mail from core ≡ drop (taken from core) (sent from core) → box_of mail c d ≡ drop (taken c d) (sent c d) → box_of (after_take mail from core) c d ≡ drop (cond (same_core from c && same_core core d) (suc (taken c d)) (taken c d)) (sent c d)
box-taken mail sent taken from core c d sender receiver known places here there =
    let changed = box-changed mail from core (drop 1 (box_of mail from core)) c d sender receiver known places in
    grind (arith, changed, drop-drop 1 (taken from core) (sent from core), same_core-true from c, same_core-true core d)

-- The first element of what is left after `n` elements.
pub front-drop : {A : Type 0} (n : ℕ) (xs : List A) → slice_get (drop n xs) 0 ≡ slice_get xs n
front-drop zero [] = refl
front-drop zero (x ∷ xs) = refl
front-drop (suc n) [] = refl
front-drop (suc n) (x ∷ xs) = front-drop n xs
