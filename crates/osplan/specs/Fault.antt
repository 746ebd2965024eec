-- The faults of texts and of cuts: their numbers and words, tables of faults, and the fault that a step gives.
use Rattle.std.specs.Prelude.{◌≡◌, ◌<◌, ◌⊎◌, ℕ, Bool, List, [], ◌∷◌, Option, Some, None, Result, Ok, Err, if◌then◌else◌, codes}
use Rattle.std.specs.List.{IsAmong}
use Rattle.osplan.specs.declared.faults.ConfFault.{ConfFault}
use Rattle.osplan.specs.declared.faults.ConfFault.TheVariants.{NotJson, Shape, Limit, DuplicateName, UnknownName, WrongCore, SpinOrder, BadMask, BadTable, BadScript, NoMemory, BadStimulus, BadSchedule, NotSeparate}

-- The number of a fault. [own]
abbrev pub fault_number : ConfFault → ℕ
fault_number NotJson = 1
fault_number Shape = 2
fault_number Limit = 3
fault_number DuplicateName = 4
fault_number UnknownName = 5
fault_number WrongCore = 6
fault_number SpinOrder = 7
fault_number BadMask = 8
fault_number BadTable = 9
fault_number BadScript = 10
fault_number NoMemory = 11
fault_number BadStimulus = 12
fault_number BadSchedule = 13
fault_number NotSeparate = 20

-- The word of a fault. [own]
abbrev pub fault_name : ConfFault → List ℕ
fault_name NotJson = codes "NotJson"
fault_name Shape = codes "Shape"
fault_name Limit = codes "Limit"
fault_name DuplicateName = codes "DuplicateName"
fault_name UnknownName = codes "UnknownName"
fault_name WrongCore = codes "WrongCore"
fault_name SpinOrder = codes "SpinOrder"
fault_name BadMask = codes "BadMask"
fault_name BadTable = codes "BadTable"
fault_name BadScript = codes "BadScript"
fault_name NoMemory = codes "NoMemory"
fault_name BadStimulus = codes "BadStimulus"
fault_name BadSchedule = codes "BadSchedule"
fault_name NotSeparate = codes "NotSeparate"

-- A table of faults, each with its test; the test is true if the fault is absent. [own]
abbrev pub Tests : Type 0
Tests = List (ConfFault × Bool)

-- The faults whose tests fail, in the table's order. [own]
abbrev pub failing : Tests → List ConfFault
failing [] = []
failing (row ∷ rows) = if row.1 then failing rows else row.0 ∷ failing rows

-- The first of these faults, if there is one. [own]
abbrev pub first_fault : List ConfFault → Option ConfFault
first_fault [] = None
first_fault (fault ∷ faults) = Some fault

-- The fault of a step that failed is that memory ran out; or it is `named`, and the definition has no value (`read` is
-- `None`).
abbrev pub Faults : {Y : Type 0} → ConfFault → ConfFault → Option Y → Type 0
Faults named fault read = (fault ≡ NoMemory) ⊎ ((fault ≡ named) × (read ≡ None))

-- A step of reading agrees with its definition. If the step did not fail, the `view` of its value is the value `read`
-- of the definition. If it failed, its fault is that memory ran out; or it is `named`, and the definition has no value.
abbrev pub GivesOr : {X Y : Type 0} → ConfFault → (X → Y) → Result X ConfFault → Option Y → Type 0
GivesOr named view (Ok x) read = read ≡ Some (view x)
GivesOr named view (Err fault) read = Faults named fault read

-- The fault is one of these, and none of these has a smaller number.
abbrev pub IsLeast : ConfFault → List ConfFault → Type 0
IsLeast fault faults = IsAmong faults fault × ((other : ConfFault) → IsAmong faults other → fault_number other < fault_number fault → ⊥)

-- The value, if there is no fault. [own]
abbrev pub if_faultless : {A : Type 0} → List ConfFault → A → Option A
if_faultless [] x = Some x
if_faultless (fault ∷ faults) x = None
