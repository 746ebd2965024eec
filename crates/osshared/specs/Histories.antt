-- An object that one caller after another calls, and its histories: the calls of all cores with their answers, the
-- oldest first. [own; no code keeps one]
use Rattle.std.specs.Prelude.{◌≡◌, ◌==◌, ◌⊎◌, if◌then◌else◌, List, [], ◌∷◌, ◌++◌}
use Rattle.osbase.specs.declared.references.CoreId.{CoreId}
use Rattle.osshared.specs.declared.histories.Entry.{Entry}

-- What an object is at first, by its argument, what a core's call makes of it, and what the call is
-- answered. Every call is answered at once.
pub record Object (A S C R : Type 0) : Type 0 where
  pub first : A → S
  pub after : CoreId → C → S → S
  pub reply : CoreId → C → S → R

abbrev pub entry : {C R : Type 0} → CoreId → C → R → Entry C R
entry core call reply = record { core = core; call = call; reply = reply }

-- The object's state after this history, from the given state on.
abbrev pub state_after : {A S C R : Type 0} → Object A S C R → S → List (Entry C R) → S
state_after o s [] = s
state_after o s (e ∷ es) = state_after o (o.after e.core e.call s) es

-- From the given state on, each call got the answer that the object gives at that point.
abbrev pub IsLegalFrom : {A S C R : Type 0} → Object A S C R → S → List (Entry C R) → Type 0
IsLegalFrom o s [] = Unit {0}
IsLegalFrom o s (e ∷ es) = (e.reply ≡ o.reply e.core e.call s) × IsLegalFrom o (o.after e.core e.call s) es

-- From what the object is at first, each call got the answer that the object gives at that point.
abbrev pub IsLegal : {A S C R : Type 0} → Object A S C R → A → List (Entry C R) → Type 0
IsLegal o about log = IsLegalFrom o (o.first about) log

-- A call list that is legal and leads to this state.
pub record LeadsTo {A S C R : Type 0} (o : Object A S C R) (about : A) (log : List (Entry C R)) (s : S) : Type 0 where
  pub legal : IsLegal o about log
  pub state : state_after o (o.first about) log ≡ s

-- A call of the object where one caller plays all cores. If a call list leads to the state before the call, that list
-- with the call behind the others leads to the state after it.
pub record Continues {A S C R : Type 0} (o : Object A S C R) (old : S) (e : Entry C R) (new : S) : Type 0 where
  pub leads : (about : A) (log : List (Entry C R)) → LeadsTo o about log old → LeadsTo o about (log ++ e ∷ []) new

-- The calls of one core, in order.
abbrev pub calls_by : {C R : Type 0} → CoreId → List (Entry C R) → List (Entry C R)
calls_by c [] = []
calls_by c (e ∷ es) = if c.number == e.core.number then e ∷ calls_by c es else calls_by c es

-- The second list is the first one without some calls for which `idle` holds.
abbrev pub Thinned : {C R : Type 0} → (Entry C R → Type 0) → List (Entry C R) → List (Entry C R) → Type 0
Thinned idle [] ys = ys ≡ []
Thinned idle (x ∷ xs) ys = ((rest : List _) × (ys ≡ x ∷ rest) × Thinned idle xs rest) ⊎ (idle x × Thinned idle xs ys)
