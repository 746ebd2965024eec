-- What the workers of the cores did together, each from its own seat: some calls change nothing and are in no log.
use Rattle.std.specs.Prelude.{◌≡◌, false, List, [], ◌∷◌}
use Rattle.osbase.specs.declared.references.CoreId.{CoreId}
use Rattle.osshared.specs.{declared.histories.Entry.Entry, declared.histories.Plan.Plan, Seats.Held, Seats.Place, Seats.has}
use Rattle.osshared.specs.Histories.{Object, IsLegal, Thinned, calls_by}

-- Calls for which `idle` holds change nothing: in a state in which the object gives such a call its answer, the call
-- leaves that state as it is.
abbrev pub AreIdle : {A S C R : Type 0} → Object A S C R → (Entry C R → Type 0) → Type 0
AreIdle {S = S} {C = C} {R = R} o idle = (s : S) (e : Entry C R) → idle e → e.reply ≡ o.reply e.core e.call s → o.after e.core e.call s ≡ s

-- What a worker hands back for the seat `old`: the seat `new` of the same core at the object `p`, and a log. The log
-- has all calls made from the seat, without some for which `idle` holds.
pub record IsRunOf {A C R : Type 0} (idle : Entry C R → Type 0) (p : Place A) (old new : Held A C R) (log : List (Entry C R)) : Type 0 where
  pub place : new.place ≡ p
  pub core : new.core ≡ old.core
  pub logged : Thinned idle new.mine log

-- The logs belong to the seats, one to each in their order: a log has its seat's calls, without some for which `idle`
-- holds.
abbrev pub AreLogged : {A C R : Type 0} → (Entry C R → Type 0) → List (Held A C R) → List (List (Entry C R)) → Type 0
AreLogged idle [] [] = Unit {0}
AreLogged idle [] (l ∷ ls) = ⊥
AreLogged idle (s ∷ ss) [] = ⊥
AreLogged idle (s ∷ ss) (l ∷ ls) = Thinned idle s.mine l × AreLogged idle ss ls

-- The logs belong to the cores, one to each in their order: a log has just the calls that the history has of its core.
abbrev pub HasLogs : {C R : Type 0} → List (Entry C R) → List CoreId → List (List (Entry C R)) → Type 0
HasLogs history [] [] = Unit {0}
HasLogs history [] (l ∷ ls) = ⊥
HasLogs history (c ∷ cs) [] = ⊥
HasLogs history (c ∷ cs) (l ∷ ls) = (calls_by c history ≡ l) × HasLogs history cs ls

-- There is a legal history that the logs stand for. Of each core of the plan it has the calls of that core's log, in
-- their order; of other cores it has none. [own]
pub record IsOneRun {A S C R : Type 0} (o : Object A S C R) (plan : Plan A) (logs : List (List (Entry C R))) : Type 0 where
  pub history : List (Entry C R)
  pub legal : IsLegal o plan.about history
  pub logs_are : HasLogs history plan.cores logs
  pub others : (c : CoreId) → has plan.cores c ≡ false → calls_by c history ≡ []
