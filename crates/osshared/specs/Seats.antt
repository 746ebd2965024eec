-- What contracts see of a shared object and of a core's seat at it.
use Rattle.std.specs.Prelude.{◌≡◌, ◌==◌, ◌||◌, Bool, false, List, [], ◌∷◌, ◌++◌}
use mathlib.Core.List.{IsPrefix}
use Rattle.atomic_table.specs.Seated.{TableId}
use Rattle.osbase.specs.declared.references.CoreId.{CoreId}
use Rattle.osshared.specs.{declared.histories.Entry.Entry, declared.histories.Plan.Plan, Histories.Object, Histories.IsLegal, Histories.calls_by}

-- The core is in the list.
abbrev pub has : List CoreId → CoreId → Bool
has [] c = false
has (d ∷ ds) c = (c.number == d.number) || has ds c

-- No core is listed twice.
abbrev pub AllApart : List CoreId → Type 0
AllApart [] = Unit {0}
AllApart (c ∷ cs) = (has cs c ≡ false) × AllApart cs

-- A shared object: which one it is, and what it was made with.
pub record Place (A : Type 0) : Type 0 where
  pub table : TableId
  pub plan : Plan A

-- What contracts see of a core's seat: its object, its core, the history up to its last call, and its own calls in
-- order. [own]
pub record Held (A C R : Type 0) : Type 0 where
  pub place : Place A
  pub core : CoreId
  pub seen : List (Entry C R)
  pub mine : List (Entry C R)

-- A core's seat from which no call was made.
abbrev pub fresh : {A C R : Type 0} → Place A → CoreId → Held A C R
fresh p c = record { place = p; core = c; seen = []; mine = [] }

-- A core makes the call `e` from its seat, and so sees more of the history. What it has seen then is legal, begins with
-- all that it had seen, and ends with the call. Of this core it has just the calls made from the seat, in order. [own]
pub record Extends {A S C R : Type 0} (o : Object A S C R) (old : Held A C R) (e : Entry C R) (new : Held A C R) : Type 0 where
  pub place : new.place ≡ old.place
  pub core : new.core ≡ old.core
  pub between : List (Entry C R)
  pub seen : new.seen ≡ (old.seen ++ between) ++ e ∷ []
  pub mine : new.mine ≡ old.mine ++ e ∷ []
  pub legal : IsLegal o old.place.plan.about new.seen
  pub own : calls_by new.core new.seen ≡ new.mine

-- The cores of the seats, in order.
abbrev pub cores_of : {A C R : Type 0} → List (Held A C R) → List CoreId
cores_of [] = []
cores_of (s ∷ ss) = s.core ∷ cores_of ss

-- Each seat is at this object.
abbrev pub AllAt : {A C R : Type 0} → Place A → List (Held A C R) → Type 0
AllAt p [] = Unit {0}
AllAt p (s ∷ ss) = (s.place ≡ p) × AllAt p ss

-- For each seat: the history begins with what the seat has seen, and of the seat's core it has just the calls made from
-- the seat, in order.
abbrev pub AllStand : {A C R : Type 0} → List (Entry C R) → List (Held A C R) → Type 0
AllStand log [] = Unit {0}
AllStand log (s ∷ ss) = (IsPrefix s.seen log × (calls_by s.core log ≡ s.mine)) × AllStand log ss

-- There is a legal history that begins with what each seat has seen. It has the calls made from the seats, and no call
-- of a core that is not in the plan. [own]
pub record IsOneHistory {A S C R : Type 0} (o : Object A S C R) (plan : Plan A) (seats : List (Held A C R)) : Type 0 where
  pub log : List (Entry C R)
  pub legal : IsLegal o plan.about log
  pub stand : AllStand log seats
  pub others : (c : CoreId) → has plan.cores c ≡ false → calls_by c log ≡ []
