-- In a table of ascending faults the first that fails is the least.
use Rattle.std.proofs.Common.{◌≡◌, ℕ, zero, suc, ◌<◌, Bool, true, false, cond, List, [], ◌∷◌, length, get_or, Some, sym, ap, arith}
use Rattle.osplan.specs.{declared.faults.ConfFault.ConfFault, Fault.IsLeast, Fault.Tests, Fault.failing, Fault.fault_number, Fault.first_fault}

abbrev AreAbove : ℕ → Tests → Type 0
AreAbove n [] = Unit {0}
AreAbove n (row ∷ rows) = (n < fault_number row.0) × AreAbove n rows

abbrev IsAscending : Tests → Type 0
IsAscending [] = Unit {0}
IsAscending (row ∷ rows) = AreAbove (fault_number row.0) rows × IsAscending rows

-- no listed fault has a number below n
abbrev NoneBelow : ℕ → List ConfFault → Type 0
NoneBelow n faults = (other : ConfFault) (i : ℕ) → i < length faults → other ≡ get_or faults i other → fault_number other < n → ⊥

none_below-row : (n : ℕ) (fault : ConfFault) (passes : Bool) (faults : List ConfFault) → n < suc (fault_number fault) → NoneBelow n faults → NoneBelow n (cond passes faults (fault ∷ faults))
none_below-row n fault true faults lt later other i within is small = later other i within is small
none_below-row n fault false faults lt later other zero within is small = let e : fault_number other ≡ fault_number fault = ap fault_number is in omega arith
none_below-row n fault false faults lt later other (suc i) within is small = later other i (omega arith) is small

none_below : (n : ℕ) (rows : Tests) → AreAbove n rows → NoneBelow n (failing rows)
none_below n [] above = λ other i within is small. omega arith
none_below n (row ∷ rows) above = none_below-row n row.0 row.1 (failing rows) (let lt : n < fault_number row.0 = above.0 in omega arith) (none_below n rows above.1)

least-row : (fault : ConfFault) (passes : Bool) (faults : List ConfFault) (found : ConfFault) → NoneBelow (fault_number fault) faults → (first_fault faults ≡ Some found → IsLeast found faults)
    → first_fault (cond passes faults (fault ∷ faults)) ≡ Some found → IsLeast found (cond passes faults (fault ∷ faults))
least-row fault true faults found below later first = later first
least-row fault false faults found below later first =
    let e : fault ≡ found = cc in
    ((0, (omega arith, sym e)), λ other among small. none_below-row (fault_number found) fault false faults (let n : fault_number fault ≡ fault_number found = ap fault_number e in omega arith) (let b : NoneBelow (fault_number found) faults = rw e at below in b) other among.0 among.1.0 among.1.1 small)

pub least : (rows : Tests) (found : ConfFault) → IsAscending rows → first_fault (failing rows) ≡ Some found → IsLeast found (failing rows)
least [] found ascending first = cc
least (row ∷ rows) found ascending first = least-row row.0 row.1 (failing rows) found (none_below (fault_number row.0) rows ascending.0) (least rows found ascending.1) first
