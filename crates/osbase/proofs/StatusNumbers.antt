-- Statuses and their numbers.
use Rattle.std.proofs.Common.{◌≡◌, ◌∙◌, ℕ, zero, suc, ◌+◌, ◌<◌, ◌==◌, ◌&&◌, Bool, true, List, [], ◌∷◌, Some, length, unwrap_or, refl, sym, ap, arith}
use Rattle.std.specs.List.{slice_get}
use Rattle.std.proofs.{lemmas.Bool.and_parts, lemmas.Bool.eqb-true, lemmas.Option.same_Some}
use Rattle.osbase.specs.{declared.statuses.Status.Status, declared.statuses.TheConstants.STATUS_LIST, Words.status_number, Words.status_numbered}
use Rattle.osbase.specs.declared.statuses.Status.TheVariants.{EOk, EOsAccess, EOsCallevel, EOsId, EOsLimit, EOsNofunc, EOsResource, EOsState, EOsValue, EOsMissingend, EOsDisabledint, EOsProtectionTime, EOsCore, EOsSpinlock, EOsInterferenceDeadlock, EOsNestingDeadlock, EOsProtectionLocked}

-- The status of a status' number is that status.
pub status_back : (status : Status) → status_numbered (status_number status) ≡ Some status
status_back EOk = refl
status_back EOsAccess = refl
status_back EOsCallevel = refl
status_back EOsId = refl
status_back EOsLimit = refl
status_back EOsNofunc = refl
status_back EOsResource = refl
status_back EOsState = refl
status_back EOsValue = refl
status_back EOsMissingend = refl
status_back EOsDisabledint = refl
status_back EOsProtectionTime = refl
status_back EOsCore = refl
status_back EOsSpinlock = refl
status_back EOsInterferenceDeadlock = refl
status_back EOsNestingDeadlock = refl
status_back EOsProtectionLocked = refl

-- Statuses with the same number are equal.
pub status_same : (s t : Status) → status_number s ≡ status_number t → s ≡ t
status_same s t e = same_Some s t (sym (status_back s) ∙ ap status_numbered e ∙ status_back t)

-- A byte holds the number of a status.
pub status_low : (status : Status) → status_number status < 256
status_low EOk = omega arith
status_low EOsAccess = omega arith
status_low EOsCallevel = omega arith
status_low EOsId = omega arith
status_low EOsLimit = omega arith
status_low EOsNofunc = omega arith
status_low EOsResource = omega arith
status_low EOsState = omega arith
status_low EOsValue = omega arith
status_low EOsMissingend = omega arith
status_low EOsDisabledint = omega arith
status_low EOsProtectionTime = omega arith
status_low EOsCore = omega arith
status_low EOsSpinlock = omega arith
status_low EOsInterferenceDeadlock = omega arith
status_low EOsNestingDeadlock = omega arith
status_low EOsProtectionLocked = omega arith

-- The statuses have consecutive numbers, and the first has this number.
abbrev are_numbered : ℕ → List Status → Bool
are_numbered n [] = true
are_numbered n (s ∷ ss) = (status_number s == n) && are_numbered (suc n) ss

number-at : (n : ℕ) (ss : List Status) (i : ℕ) → are_numbered n ss ≡ true → i < length ss → status_number (unwrap_or (slice_get ss i) EOk) ≡ n + i
number-at n [] i are less = absurd (omega arith)
number-at n (s ∷ ss) zero are less = eqb-true (status_number s) n (and_parts (status_number s == n) _ are).0 ∙ omega arith
number-at n (s ∷ ss) (suc i) are less = number-at (suc n) ss i (and_parts (status_number s == n) _ are).1 (omega arith) ∙ omega arith

-- The status of a number has that number.
pub number_back : (n : ℕ) → n < 17 → status_number (unwrap_or (status_numbered n) EOk) ≡ n
number_back n less = number-at 0 STATUS_LIST n refl less ∙ omega arith
