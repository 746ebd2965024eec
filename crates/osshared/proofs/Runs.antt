-- The logs of all workers, from what each did from its seat.
use Rattle.std.proofs.Common.{◌≡◌, ◌==◌, ℕ, suc, ◌<◌, true, false, if◌then◌else◌, List, [], ◌∷◌, map, length, get_or, refl, ap, ◌∙◌, ⊎_elim, arith}
use Rattle.std.proofs.lemmas.List.{get_or-map, length-map}
use Rattle.std.proofs.lemmas.Bool.{eq-eqb, ne_eqb, cases_eq, or_left, or_parts, or_right}
use Rattle.osbase.specs.declared.references.CoreId.{CoreId}
use Rattle.osshared.specs.{declared.histories.Entry.Entry, declared.histories.Plan.Plan, Histories.Object, Histories.Thinned, Histories.calls_by}
use Rattle.osshared.specs.Seats.{AllApart, AllAt, AllStand, Held, IsOneHistory, Place, cores_of, fresh, has}
use Rattle.osshared.specs.Runs.{AreIdle, AreLogged, HasLogs, IsOneRun}
use Rattle.osshared.proofs.{Steps.apart as off, Steps.same_core, Thins.thin_legal, Thins.thins}

-- each worker logged its calls
pub all_logged : {A C R X Y : Type 0} (idle : Entry C R → Type 0) (seat : X → Held A C R) (log : X → Y) (calls : Y → List (Entry C R)) (rs : List X)
    → ((i : ℕ) (d : X) → i < length rs → Thinned idle (seat (get_or rs i d)).mine (calls (log (get_or rs i d)))) → AreLogged idle (map seat rs) (map calls (map log rs))
all_logged idle seat log calls [] h = tt
all_logged idle seat log calls (r ∷ rs) h = (h 0 r (omega arith), all_logged idle seat log calls rs (λ i d lt. h (suc i) d (omega arith)))

module _ {A C R : Type 0} (p : Place A) where
  abbrev IsNew : List (Held A C R) → Type 0
  IsNew ss = (i : ℕ) (d : Held A C R) → i < length ss → ((get_or ss i d).place ≡ p) × ((get_or ss i d).mine ≡ [])

  -- the seats of a new object
  pub all_new : (ss : List (Held A C R)) (cs : List CoreId) → ss ≡ map (λ c. fresh p c) cs → IsNew ss
  all_new ss cs is i d lt = rw (is, get_or-map (λ c. fresh p c) cs i (record { number = 0 }) d (rw (is, length-map) at lt)) (refl, refl)

-- the seats of a new object, after the workers: each kept its place and its core
kept_at : {A C R X : Type 0} (seat : X → Held A C R) (p : Place A) (cs : List CoreId) (rs : List X) → length rs ≡ length cs
    → ((i : ℕ) (d : X) (c : CoreId) → i < length cs → ((seat (get_or rs i d)).place ≡ p) × ((seat (get_or rs i d)).core ≡ get_or cs i c)) → AllAt p (map seat rs) × (cores_of (map seat rs) ≡ cs)
kept_at seat p [] [] len h = (tt, refl)
kept_at seat p (c ∷ cs) [] len h = absurd (omega arith)
kept_at seat p [] (r ∷ rs) len h = absurd (omega arith)
kept_at seat p (c ∷ cs) (r ∷ rs) len h = let first = h 0 r c (omega arith) in
    let rest = kept_at seat p cs rs (omega arith) (λ i d e lt. h (suc i) d e (omega arith)) in ((first.0, rest.0), λ i. first.1 i ∷ rest.1 i)

pub kept : {A C R X : Type 0} (seat : X → Held A C R) (p : Place A) (cs : List CoreId) (ss : List (Held A C R)) (rs : List X) → ss ≡ map (λ c. fresh p c) cs → length rs ≡ length ss
    → ((i : ℕ) (d : X) (e : Held A C R) → i < length ss → ((seat (get_or rs i d)).place ≡ p) × ((seat (get_or rs i d)).core ≡ (get_or ss i e).core))
    → AllAt p (map seat rs) × (cores_of (map seat rs) ≡ cs)
kept {C = C} {R = R} seat p cs ss rs is len h =
    let same : length ss ≡ length cs = ap length is ∙ length-map cs _ in
    kept_at seat p cs rs (len ∙ same) (λ i d c lt. let r = h i d (fresh p c) (rw same lt) in
    (r.0, rw (is, get_or-map (λ c. fresh {C = C} {R = R} p c) cs i c (fresh p c) lt) at (r.1)))

module _ {A C R : Type 0} (idle : Entry C R → Type 0) where
  -- the log of a core
  abbrev log_of : List (Held A C R) → List (List (Entry C R)) → CoreId → List (Entry C R)
  log_of [] ls c = []
  log_of (s ∷ ss) [] c = []
  log_of (s ∷ ss) (l ∷ ls) c = if c.number == s.core.number then l else log_of ss ls c

  logs_thin : (history : List (Entry C R)) (ss : List (Held A C R)) (ls : List (List (Entry C R))) → AllStand history ss → AreLogged idle ss ls
      → (c : CoreId) → (has (cores_of ss) c ≡ false → calls_by c history ≡ []) → Thinned idle (calls_by c history) (log_of ss ls c)
  logs_thin history [] [] st lg c none = rw (none refl) refl
  logs_thin history [] (l ∷ ls) st lg c none = absurd lg
  logs_thin history (s ∷ ss) [] st lg c none = absurd lg
  logs_thin history (s ∷ ss) (l ∷ ls) st lg c none = ⊎_elim
      (λ same. rw (eq-eqb c.number s.core.number same, same_core c s.core same, st.0.1) lg.0)
      (λ ne. let off = ne_eqb c.number s.core.number ne in rw (off) (logs_thin history ss ls st.1 lg.1 c (rw (off) at none)))
      (cases_eq c.number s.core.number)

  has_logs : (thin : List (Entry C R)) (ss : List (Held A C R)) (ls : List (List (Entry C R))) → AreLogged idle ss ls → AllApart (cores_of ss)
      → ((c : CoreId) → has (cores_of ss) c ≡ true → calls_by c thin ≡ log_of ss ls c) → HasLogs thin (cores_of ss) ls
  has_logs thin [] [] lg apart is = tt
  has_logs thin [] (l ∷ ls) lg apart is = absurd lg
  has_logs thin (s ∷ ss) [] lg apart is = absurd lg
  has_logs thin (s ∷ ss) (l ∷ ls) lg apart is = (
    let here = eq-eqb s.core.number s.core.number refl in rw (here) at (is s.core (or_left _ _ here)),
    has_logs thin ss ls lg.1 apart.1 (λ c h. rw (ne_eqb c.number s.core.number (off (cores_of ss) c s.core h apart.0)) at (is c (or_right _ _ h))),
  )

  no_log : (ss : List (Held A C R)) (ls : List (List (Entry C R))) (c : CoreId) → has (cores_of ss) c ≡ false → log_of ss ls c ≡ []
  no_log [] ls c out = refl
  no_log (s ∷ ss) [] c out = refl
  no_log (s ∷ ss) (l ∷ ls) c out = let t = or_parts (c.number == s.core.number) _ out in rw (t.0) (no_log ss ls c t.1)

  -- the one history of all seats, without the calls that are in no log
  pub one_run : {S : Type 0} (o : Object A S C R) (plan : Plan A) (ss : List (Held A C R)) (ls : List (List (Entry C R))) → AllApart plan.cores → cores_of ss ≡ plan.cores
      → AreIdle o idle → AreLogged idle ss ls → IsOneHistory o plan ss → IsOneRun o plan ls
  one_run o plan ss ls apart is idles lg one =
      let out : (c : CoreId) → has (cores_of ss) c ≡ false → has plan.cores c ≡ false = rw is (λ c h. h) in
      let left = thins idle one.log (log_of ss ls) (λ c. logs_thin one.log ss ls one.stand lg c (λ h. one.others c (out c h))) in
      record {
        history = left.0;
        legal = thin_legal o idle idles (o.first plan.about) one.log left.0 left.1 one.legal;
        logs_are = rw (is) at (has_logs left.0 ss ls lg (rw is apart) (λ c h. left.2 c));
        others = λ c h. left.2 c ∙ no_log ss ls c (rw is h);
      }
