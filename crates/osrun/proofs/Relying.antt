-- Suppose each core's calls keep a property of an object's states, as long as the core had only answers of states with
-- it. Then the object's one history keeps it, and each core has only such answers. This holds of any object.
use Rattle.std.proofs.Common.{◌≡◌, List, [], ◌∷◌}
use Rattle.std.proofs.lemmas.Bool.{cond_both}
use Rattle.osbase.specs.{declared.references.CoreId.CoreId, History.same_core}
use Rattle.osbase.proofs.Same.{same_core-refl}
use Rattle.osshared.specs.{declared.histories.Entry.Entry, Histories.IsLegalFrom, Histories.Object, Histories.calls_by}

module _ {A S C R : Type 0} (o : Object A S C R) (P : S → Type 0) where
  -- The call keeps the property.
  abbrev pub Keeps : CoreId → Entry C R → Type 0
  Keeps id e = (s : S) → P s → P (o.after id e.call s)

  -- The answer is that of a state with the property.
  pub record Sees (e : Entry C R) : Type 0 where
    pub state : S
    pub has : P state
    pub answers : e.reply ≡ o.reply e.core e.call state

  -- If all answers before were those of states with the property, each call of a core keeps it.
  abbrev pub Relies : CoreId → List (Entry C R) → Type 0
  Relies id [] = Unit {0}
  Relies id (e ∷ es) = Keeps id e × (Sees e → Relies id es)

  -- Each answer is that of a state with the property.
  abbrev pub AllSee : List (Entry C R) → Type 0
  AllSee [] = Unit {0}
  AllSee (e ∷ es) = Sees e × AllSee es

  -- So each core has only answers of states with the property.
  pub only-seen : (s : S) (es : List (Entry C R)) → P s → IsLegalFrom o s es → ((id : CoreId) → Relies id (calls_by id es)) → (id : CoreId) → AllSee (calls_by id es)
  only-seen s [] p legal relies id = tt
  only-seen s (e ∷ es) p legal relies id =
      let mine = rw same_core-refl at (relies e.core) in
      let sees : Sees e = record { state = s; has = p; answers = legal.0 } in
      let rest : (d : CoreId) → Relies d (calls_by d es)
      = λ d. cond_both (same_core d e.core) (e ∷ calls_by d es) (calls_by d es) (λ (log : List (Entry C R)). Relies d log → Relies d (calls_by d es)) (λ here relied. relied.1 sees) (λ other relied. relied) (relies d) in
      let later = only-seen (o.after e.core e.call s) es (mine.0 s p) legal.1 rest id in
      cond_both (same_core id e.core) (e ∷ calls_by id es) (calls_by id es) (λ (log : List (Entry C R)). AllSee log) (λ here. (sees, later)) (λ other. later)
