-- If each core's calls are thinned, one history has what is left of them.
use Rattle.std.proofs.Common.{◌≡◌, ◌==◌, if◌then◌else◌, List, [], ◌∷◌, ◌++◌, sym, refl, ap, inl, inr, ⊎_elim, ◌≢◌}
use Rattle.std.proofs.lemmas.List.{append-nil}
use Rattle.std.proofs.lemmas.Bool.{eq-eqb, ne_eqb, cases_eq}
use Rattle.osbase.specs.declared.references.CoreId.{CoreId}
use Rattle.osshared.specs.declared.histories.Entry.{Entry}
use Rattle.osshared.specs.Histories.{Object, IsLegalFrom, Thinned, calls_by}
use Rattle.osshared.proofs.Steps.{same_core}

module _ {C R : Type 0} (idle : Entry C R → Type 0) where
  -- what is left of each core's calls, once the first call is past
  abbrev past : (kept : CoreId → List (Entry C R)) → CoreId → List (Entry C R) → CoreId → List (Entry C R)
  past kept d rest c = if c.number == d.number then rest else kept c

  abbrev Left : List (Entry C R) → (CoreId → List (Entry C R)) → Type 0
  Left log kept = (thin : List (Entry C R)) × Thinned idle log thin × ((c : CoreId) → calls_by c thin ≡ kept c)

  stays : (e : Entry C R) (es : List (Entry C R)) (kept : CoreId → List (Entry C R)) (rest : List (Entry C R)) → kept e.core ≡ e ∷ rest → Left es (past kept e.core rest) → Left (e ∷ es) kept
  stays e es kept rest is l = (
    e ∷ l.0,
    inl (l.0, refl, l.1),
    λ c. ⊎_elim
        (λ h. let on = eq-eqb c.number e.core.number h in rw (on, same_core c e.core h, is) (ap (λ x. e ∷ x) (rw (on) at (l.2 c))))
        (λ h. let off = ne_eqb c.number e.core.number h in rw (off) (rw (off) at (l.2 c)))
        (cases_eq c.number e.core.number),
  )

  past_thin : (e : Entry C R) (es : List (Entry C R)) (kept : CoreId → List (Entry C R)) (rest : List (Entry C R)) → ((c : CoreId) → c.number ≢ e.core.number → Thinned idle (calls_by c es) (kept c))
      → Thinned idle (calls_by e.core es) rest → (c : CoreId) → Thinned idle (calls_by c es) (past kept e.core rest c)
  past_thin e es kept rest others t c = ⊎_elim
      (λ q. rw (eq-eqb c.number e.core.number q, same_core c e.core q) t)
      (λ q. rw (ne_eqb c.number e.core.number q) (others c q))
      (cases_eq c.number e.core.number)

  pub thins : (log : List (Entry C R)) (kept : CoreId → List (Entry C R)) → ((c : CoreId) → Thinned idle (calls_by c log) (kept c)) → Left log kept
  thins [] kept h = ([], refl, λ c. sym (h c))
  thins (e ∷ es) kept h =
      let others : (c : CoreId) → c.number ≢ e.core.number → Thinned idle (calls_by c es) (kept c) = λ c q. rw (ne_eqb c.number e.core.number q) at (h c) in
      let here : Thinned idle (e ∷ calls_by e.core es) (kept e.core) = rw (eq-eqb e.core.number e.core.number refl) at (h e.core) in
      ⊎_elim
      (λ t. stays e es kept t.0 t.1 (thins es (past kept e.core t.0) (past_thin e es kept t.0 others t.2)))
      (λ t. let l = thins es kept (λ c. ⊎_elim (λ q. rw (same_core c e.core q) t.1) (others c) (cases_eq c.number e.core.number)) in (l.0, inr (t.0, l.1), l.2))
      here

  thinned_append : (xs ys more rest : List (Entry C R)) → Thinned idle xs ys → Thinned idle more rest → Thinned idle (xs ++ more) (ys ++ rest)
  thinned_append [] ys more rest t u = rw t u
  thinned_append (x ∷ xs) ys more rest t u = ⊎_elim
      (λ v. inl (v.0 ++ rest, ap (λ l. l ++ rest) v.1, thinned_append xs v.0 more rest v.2 u))
      (λ v. inr (v.0, thinned_append xs ys more rest v.1 u))
      t

  -- one call more, which is logged
  pub logged : (xs ys more log : List (Entry C R)) (e f : Entry C R) → Thinned idle xs ys → more ≡ xs ++ e ∷ [] → log ≡ ys ++ f ∷ [] → f ≡ e → Thinned idle more log
  logged xs ys more log e f t m l is = rw (m, l, is) (thinned_append xs ys (e ∷ []) (e ∷ []) t (inl ([], refl, refl)))

  -- one call more, which is not logged
  pub unlogged : (xs ys more log : List (Entry C R)) (e : Entry C R) → Thinned idle xs ys → idle e → more ≡ xs ++ e ∷ [] → log ≡ ys → Thinned idle more log
  unlogged xs ys more log e t i m l = rw (m, l) (rw (append-nil ys) at (thinned_append xs ys (e ∷ []) [] t (inr (i, refl))))

-- A legal history stays legal without calls that leave the object as it is.
pub thin_legal : {A S C R : Type 0} (o : Object A S C R) (idle : Entry C R → Type 0)
    → ((s : S) (e : Entry C R) → idle e → e.reply ≡ o.reply e.core e.call s → o.after e.core e.call s ≡ s)
    → (s : S) (log thin : List (Entry C R)) → Thinned idle log thin → IsLegalFrom o s log → IsLegalFrom o s thin
thin_legal o idle stays s [] thin t l = rw t tt
thin_legal o idle stays s (e ∷ es) thin t l = ⊎_elim
    (λ u. rw (u.1) (l.0, thin_legal o idle stays (o.after e.core e.call s) es u.0 u.2 l.1))
    (λ u. thin_legal o idle stays s es thin u.1 (rw (stays s e u.0 l.0) at (l.1)))
    t
