-- What the words and the seats keep between any two steps.
use Rattle.std.specs.Prelude.{◌≡◌, ℕ, ◌<◌, Option, Some, true, false, List, [], ◌∷◌, ◌++◌, slice_index, slice_set}
use mathlib.Core.Option.{some}
use mathlib.Core.List.{IsPrefix}
use lib.ListN.{get_elem?}
use Rattle.atomic_table.specs.{Table.State, Table.Me, Seated.TableId}
use Rattle.osbase.specs.declared.references.CoreId.{CoreId}
use Rattle.osshared.specs.{declared.histories.Entry.Entry, declared.histories.Plan.Plan, declared.histories.View.View, Seats.Held, Seats.has}
use Rattle.osshared.specs.Histories.{Object, IsLegal, calls_by, entry, state_after}

-- The first core of a list; core 0 if the list is empty.
abbrev pub first_of_cores : List CoreId → CoreId
first_of_cores [] = record { number = 0 }
first_of_cores (c ∷ cs) = c

-- The history begins with each of the given ones.
abbrev pub AllBegin : {C R : Type 0} → List (List (Entry C R)) → List (Entry C R) → Type 0
AllBegin [] log = Unit {0}
AllBegin (t ∷ ts) log = IsPrefix t log × AllBegin ts log

-- What holds of a seat's view at all times. The history begins with all that the seat has seen or was told. The seat's
-- cores are in the plan, and the history has just those of their calls that the seat made. It also holds of the view
-- that a seat leaves when another takes it in; that view has no core.
pub record Fits {A C R : Type 0} (plan : Plan A) (log : List (Entry C R)) (v : View A C R) : Type 0 where
  pub seen : IsPrefix v.seen log
  pub told : AllBegin v.told log
  pub plan_is : v.live ≡ true → v.plan ≡ plan
  pub known : (c : CoreId) → has v.cores c ≡ true → has plan.cores c ≡ true
  -- the history has exactly those calls of the seat's cores that the seat made; it made no call of another core
  pub mine : (c : CoreId) → has v.cores c ≡ true → calls_by c log ≡ calls_by c v.mine
  pub pure : (c : CoreId) → has v.cores c ≡ false → calls_by c v.mine ≡ []

-- What the words and the seats always keep. The words stand for what one legal history makes of the object. That
-- history begins with what each seat has seen, and its calls are those made from the seats. No two seats have the same
-- core. [own]
pub record Kept {A S C R : Type 0} (o : Object A S C R) (stands : S → List ℕ → Type 0) (plan : Plan A) (s : State (Unit {0}) (View A C R)) : Type 0 where
  pub log : List (Entry C R)
  pub owner : CoreId → ℕ
  pub words : stands (state_after o (o.first plan.about) log) s.words
  pub legal : IsLegal o plan.about log
  pub seats : (id : ℕ) (v : View A C R) → get_elem? s.views id ≡ some v → Fits plan log v
  pub owns : (id : ℕ) (v : View A C R) → get_elem? s.views id ≡ some v → (c : CoreId) → has v.cores c ≡ true → owner c ≡ id
  pub others : (c : CoreId) → has plan.cores c ≡ false → calls_by c log ≡ []

-- What a seat knows after a call. The history that it has seen then is legal, begins with all that it had seen, and
-- ends with the call. The call joins the seat's own calls. All else stays.
pub record Calls {A S C R : Type 0} (o : Object A S C R) (v : View A C R) (e : Entry C R) (w : View A C R) : Type 0 where
  pub between : List (Entry C R)
  pub seen : w.seen ≡ (v.seen ++ between) ++ e ∷ []
  pub mine : w.mine ≡ v.mine ++ e ∷ []
  pub live : w.live ≡ v.live
  pub plan_is : w.plan ≡ v.plan
  pub cores : w.cores ≡ v.cores
  pub told : w.told ≡ v.told
  pub legal : IsLegal o v.plan.about w.seen
  pub own : (c : CoreId) → has v.cores c ≡ true → calls_by c w.seen ≡ calls_by c w.mine

-- A step adds its call to what the seat knows. It leaves the slots that the seat has taken in the table as they are.
abbrev pub Told : {A S C R : Type 0} → Object A S C R → Me (Unit {0}) (View A C R) → Entry C R → Me (Unit {0}) (View A C R) → Type 0
Told o me e m = (m.1 ≡ me.1) × Calls o me.0 e m.0

-- A step of a seat makes the call that was picked for it, as a call of the seat's first core. The number that the step
-- finds gives the answer.
abbrev pub made : {A S C R : Type 0} → Object A S C R → (CoreId → C → ℕ → R) → Option C → Me (Unit {0}) (View A C R) → ℕ → Me (Unit {0}) (View A C R) → Type 0
made {C = C} o answer asked me found m = (call : C) → asked ≡ Some call → Told o me (entry (first_of_cores me.0.cores) call (answer (first_of_cores me.0.cores) call found)) m

-- What a seat that took in all others knows after its last look. It has seen one legal history, which begins with all
-- that it had seen or was told. The history has the calls of the seat's cores, and no call of a core outside the plan.
pub record Whole {A S C R : Type 0} (o : Object A S C R) (v w : View A C R) : Type 0 where
  pub seen : IsPrefix v.seen w.seen
  pub told : AllBegin v.told w.seen
  pub legal : v.live ≡ true → IsLegal o v.plan.about w.seen
  pub own : (c : CoreId) → has v.cores c ≡ true → calls_by c w.seen ≡ calls_by c v.mine
  pub others : v.live ≡ true → (c : CoreId) → has v.plan.cores c ≡ false → calls_by c w.seen ≡ []

-- The view of the first seat, which has all these cores. No call was made yet.
abbrev pub dealer : {A C R : Type 0} → Plan A → List CoreId → View A C R
dealer plan cores = record { live = true; plan = plan; cores = cores; seen = []; told = []; mine = [] }

abbrev pub without_first : List CoreId → List CoreId
without_first [] = []
without_first (c ∷ cs) = cs

-- The view of a seat after its first core got a seat of its own: the other cores stay.
abbrev pub seat_without_first : {A C R : Type 0} → View A C R → View A C R
seat_without_first v = record v { cores = without_first v.cores }

-- The view of the new seat that a seat's first core gets: it has this core alone.
abbrev pub first_seat : {A C R : Type 0} → View A C R → View A C R
first_seat v = record v { cores = first_of_cores v.cores ∷ [] }

-- The view of a seat after it took in another: it has the cores and the calls of both, and was told what the other one
-- has seen and was told.
abbrev pub joined : {A C R : Type 0} → View A C R → View A C R → View A C R
joined v w = record { live = v.live; plan = v.plan; cores = w.cores ++ v.cores; seen = v.seen; told = w.told ++ w.seen ∷ v.told; mine = w.mine ++ v.mine }

-- The view of a seat that another took in: it has no core and knows nothing.
abbrev pub spent : {A C R : Type 0} → A → View A C R
spent about = record { live = false; plan = record { cores = []; about = about }; cores = []; seen = []; told = []; mine = [] }

-- What contracts see of a core's seat.
abbrev pub held_at : {A C R : Type 0} → TableId → CoreId → Me (Unit {0}) (View A C R) → Held A C R
held_at t c me = record { place = record { table = t; plan = me.0.plan }; core = c; seen = me.0.seen; mine = me.0.mine }

-- What holds of a core's seat at any time. It has this core alone, and made only this core's calls. It took in no other
-- seat, no seat took it in, and it has taken no slot of the table.
pub record IsSeated {A C R : Type 0} (c : CoreId) (me : Me (Unit {0}) (View A C R)) : Type 0 where
  pub live : me.0.live ≡ true
  pub cores : me.0.cores ≡ c ∷ []
  pub told : me.0.told ≡ []
  pub mine : calls_by c me.0.mine ≡ me.0.mine
  pub slots : me.1 ≡ []

-- A step turns a word into f of what it finds. If the words stood for the object before, they stand for it after the
-- call, and what was found gives the answer.
abbrev pub IsStep : {A S C R : Type 0} → Object A S C R → (S → List ℕ → Type 0) → (CoreId → C → ℕ → R) → CoreId → C → ℕ → (ℕ → ℕ) → Type 0
IsStep o stands answer core call word f = (s : _) (words : List ℕ) → stands s words → slice_index words word < 18446744073709551616
    → stands (o.after core call s) (slice_set words word (f (slice_index words word))) × (answer core call (slice_index words word) ≡ o.reply core call s)
