-- A further job of a task is never the best: the task's oldest job comes before it, and has at least its priority.
use Rattle.std.proofs.Common.{◌≡◌, ◌≤◌, ◌<◌, ◌||◌, ℕ, nat_lt, Bool, true, false, cond, not, Option, Some, None, List, [], ◌∷◌, filter, refl, sym, ap, subst, ◌∙◌, arith}
use Rattle.std.specs.Option.{option_map_or}
use Rattle.std.proofs.lemmas.Bool.{and_from, and_parts, eq-eqb, eqb-true, false≢true}
use Rattle.std.proofs.{lemmas.Bool.Decides.nat_tests, lemmas.Option.none-some, lemmas.Option.same_Some}
use Rattle.osbase.specs.{declared.references.TaskRef.TaskRef, declared.references.Runner.Runner, declared.histories.Job.Job}
use Rattle.osbase.specs.History.{better_of, first_greatest, greater, greatest_ceiling, is_waiting, oldest, oldest_of, same_job, same_runner}
use Rattle.osbase.proofs.Same.{same_runner-refl, same_runner-true}
use Rattle.osplan.specs.declared.plans.Core.{Core}
use Rattle.osrunner.specs.Rows.{events_in, held_in}
use Rattle.osjobs.specs.Jobs.{Ascending, Each, JobState, best_task_among, raised_among}
use Rattle.osjobs.specs.Priorities.{highest_of, is_able_in, is_oldest, is_preemptable, priority_by, raised_of, static_priority}
use Rattle.osjobs.specs.Ranking.{is_awake_in, rank_by}
use Rattle.osjobs.proofs.Stamps.{each-weaker}

-- ---- the better of two

module _ (p : Job → ℕ) (x : Job) where
  high : (i : Job) → (p x ≤ p (better_of p x (Some i))) × (p i ≤ p (better_of p x (Some i)))
  high i = by (nat_lt (p x) (p i)) refl
    where
      by : (b : Bool) → nat_lt (p x) (p i) ≡ b → (p x ≤ p (cond b i x)) × (p i ≤ p (cond b i x))
      by true lt = (grind (arith, nat_tests, lt), omega arith)
      by false lt = (omega arith, grind (arith, nat_tests, lt))

-- ---- the choice of fewer jobs, by priorities that are no greater

module _ (p q : Job → ℕ) (a b : Job → Bool) (fewer : (j : Job) → b j ≡ true → a j ≡ true) (less : (j : Job) → q j ≤ p j) where
  -- the choice among fewer jobs has no greater priority; if the choice among all is there, at its priority, both agree
  record Chosen (o r : Option Job) : Type 0 where
    pub none : o ≡ None → r ≡ None
    pub bound : (k m : Job) → o ≡ Some k → r ≡ Some m → q m ≤ p k
    pub same : (k : Job) → o ≡ Some k → b k ≡ true → q k ≡ p k → r ≡ Some k

  left-out : (x : Job) (o r : Option Job) → b x ≡ false → Chosen o r → Chosen (Some (better_of p x o)) r
  left-out x None r out is = record {
    none = λ e. absurd (none-some _ (sym e));
    bound = λ k m e f. absurd (none-some m (sym (is.none refl) ∙ f));
    same = λ k e in-b alike. absurd (false≢true (sym out ∙ (ap b (same_Some x k e) ∙ in-b)));
  }
  left-out x (Some i) r out is = record {
    none = λ e. absurd (none-some _ (sym e));
    bound = λ k m e f. let low : q m ≤ p i = is.bound i m refl f in let top = (high p x i).1 in subst (λ (y : Job). q m ≤ p y) (same_Some _ k e) (omega (arith, low, top));
    same = λ k e in-b alike. by k (nat_lt (p x) (p i)) (same_Some _ k e) in-b alike;
  }
    where
      by : (k : Job) (c : Bool) → cond c i x ≡ k → b k ≡ true → q k ≡ p k → r ≡ Some k
      by k true e in-b alike = is.same k (ap Some e) in-b alike
      by k false e in-b alike = absurd (false≢true (sym out ∙ (ap b e ∙ in-b)))

  taken-in : (x : Job) (o r : Option Job) → Chosen o r → Chosen (Some (better_of p x o)) (Some (better_of q x r))
  taken-in x None None is = record {
    none = λ e. absurd (none-some _ (sym e));
    bound = λ k m e f. let lower : q x ≤ p x = less x in subst (λ (y : Job). q y ≤ p k) (same_Some x m f) (subst (λ (y : Job). q x ≤ p y) (same_Some x k e) lower);
    same = λ k e in-b alike. e;
  }
  taken-in x None (Some n) is = absurd (none-some n (sym (is.none refl)))
  taken-in x (Some i) None is = record {
    none = λ e. absurd (none-some _ (sym e));
    bound = λ k m e f. let lower : q x ≤ p x = less x in let top = (high p x i).0 in subst (λ (y : Job). q y ≤ p k) (same_Some x m f) (subst (λ (y : Job). q x ≤ p y) (same_Some _ k e) (omega (arith, lower, top)));
    same = λ k e in-b alike. by k (nat_lt (p x) (p i)) (same_Some _ k e) in-b alike;
  }
    where
      by : (k : Job) (c : Bool) → cond c i x ≡ k → b k ≡ true → q k ≡ p k → Some x ≡ Some k
      by k true e in-b alike = absurd (none-some k (is.same k (ap Some e) in-b alike))
      by k false e in-b alike = ap Some e
  taken-in x (Some i) (Some n) is = record {
    none = λ e. absurd (none-some _ (sym e));
    bound = λ k m e f. subst (λ (y : Job). q y ≤ p k) (same_Some _ m f) (subst (λ (y : Job). q (better_of q x (Some n)) ≤ p y) (same_Some _ k e) (low (nat_lt (q x) (q n))));
    same = λ k e in-b alike. by k (nat_lt (p x) (p i)) refl (same_Some _ k e) in-b alike;
  }
    where
      low : (c : Bool) → q (cond c n x) ≤ p (better_of p x (Some i))
      low true = let behind : q n ≤ p i = is.bound i n refl refl in let top = (high p x i).1 in omega (arith, behind, top)
      low false = let lower : q x ≤ p x = less x in let top = (high p x i).0 in omega (arith, lower, top)

      other : (k : Job) → n ≡ k → q k ≡ p k → p x < p k → Some (better_of q x (Some n)) ≡ Some k
      other k e alike lt = choose (nat_lt (q x) (q n)) refl
        where
          choose : (c : Bool) → nat_lt (q x) (q n) ≡ c → Some (cond c n x) ≡ Some k
          choose true is-less = ap Some e
          choose false is-less =
              let lower : q x ≤ p x = less x in
              let one : q n ≡ q k = ap q e in
              absurd (grind (arith, nat_tests, is-less, lower, one, alike, lt))

      itself : (k : Job) → x ≡ k → q k ≡ p k → p i ≤ p x → Some (better_of q x (Some n)) ≡ Some k
      itself k e alike low = choose (nat_lt (q x) (q n)) refl
        where
          choose : (c : Bool) → nat_lt (q x) (q n) ≡ c → Some (cond c n x) ≡ Some k
          choose true is-less =
              let behind : q n ≤ p i = is.bound i n refl refl in
              let mine : q x ≡ p x = subst (λ (y : Job). q y ≡ p y) (sym e) alike in
              absurd (grind (arith, nat_tests, is-less, behind, mine, low))
          choose false is-less = ap Some e

      by : (k : Job) (c : Bool) → nat_lt (p x) (p i) ≡ c → cond c i x ≡ k → b k ≡ true → q k ≡ p k → Some (better_of q x (Some n)) ≡ Some k
      by k true lt e in-b alike = other k (same_Some n k (is.same k (ap Some e) in-b alike)) alike (subst (λ (y : Job). p x < p y) e (grind (arith, nat_tests, lt)))
      by k false lt e in-b alike = itself k e alike (grind (arith, nat_tests, lt))

  chosen : (js : List Job) → Chosen (first_greatest p (filter a js)) (first_greatest q (filter b js))
  chosen [] = record { none = λ e. refl; bound = λ k m e f. absurd (none-some k e); same = λ k e in-b alike. e }
  chosen (x ∷ js) = by (a x) (b x) refl refl (chosen js)
    where
      by : (c d : Bool) → a x ≡ c → b x ≡ d → Chosen (first_greatest p (filter a js)) (first_greatest q (filter b js))
          → Chosen (first_greatest p (cond c (x ∷ filter a js) (filter a js))) (first_greatest q (cond d (x ∷ filter b js) (filter b js)))
      by true true in-a in-b rest = taken-in x _ _ rest
      by true false in-a in-b rest = left-out x _ _ in-b rest
      by false true in-a in-b rest = absurd (false≢true (sym in-a ∙ fewer x in-b))
      by false false in-a in-b rest = rest

-- ---- what is chosen is one of them

any-each : (js : List Job) → Each (λ (j : Job). Unit {0}) js
any-each [] = tt
any-each (j ∷ js) = (tt, any-each js)

module _ (p : Job → ℕ) (a : Job → Bool) where
  chosen-each : (P : Job → Type 0) (js : List Job) (k : Job) → Each P js → first_greatest p (filter a js) ≡ Some k → P k × (a k ≡ true)
  chosen-each P [] k all e = absurd (none-some k e)
  chosen-each P (x ∷ js) k all e = by (a x) refl e (chosen-each P js k all.1)
    where
      better : (o : Option Job) → a x ≡ true → Some (better_of p x o) ≡ Some k → (o ≡ Some k → P k × (a k ≡ true)) → P k × (a k ≡ true)
      better None in-a g rest = subst (λ (y : Job). P y × (a y ≡ true)) (same_Some x k g) (all.0, in-a)
      better (Some i) in-a g rest = choose (nat_lt (p x) (p i)) (same_Some _ k g)
        where
          choose : (c : Bool) → cond c i x ≡ k → P k × (a k ≡ true)
          choose true h = rest (ap Some h)
          choose false h = subst (λ (y : Job). P y × (a y ≡ true)) h (all.0, in-a)

      by : (c : Bool) → a x ≡ c → first_greatest p (cond c (x ∷ filter a js) (filter a js)) ≡ Some k → (first_greatest p (filter a js) ≡ Some k → P k × (a k ≡ true)) → P k × (a k ≡ true)
      by true in-a g rest = better (first_greatest p (filter a js)) in-a g rest
      by false in-a g rest = rest g

  -- the chosen job is its task's oldest, if each job of the task may be chosen and has at least its priority
  chosen-oldest : (js : List Job) (k : Job) → first_greatest p (filter a js) ≡ Some k → ((i : Job) → i.runner ≡ k.runner → (a i ≡ true) × (p k ≤ p i)) → oldest k.runner js ≡ Some k
  chosen-oldest [] k e elder = absurd (none-some k e)
  chosen-oldest (x ∷ js) k e elder = by (same_runner x.runner k.runner) refl (λ f. chosen-oldest js k f elder)
    where
      first : a x ≡ true → p k ≤ p x → (o : Option Job) → Some (better_of p x o) ≡ Some k → x ≡ k
      first in-a low None g = same_Some x k g
      first in-a low (Some i) g = choose (nat_lt (p x) (p i)) refl (same_Some _ k g)
        where
          choose : (c : Bool) → nat_lt (p x) (p i) ≡ c → cond c i x ≡ k → x ≡ k
          choose true lt h = let one : p i ≡ p k = ap p h in absurd (grind (arith, nat_tests, lt, one, low))
          choose false lt h = h

      found : a x ≡ true → p k ≤ p x → x ≡ k
      found in-a low = first in-a low (first_greatest p (filter a js)) (sym (ap (λ (c : Bool). first_greatest p (cond c (x ∷ filter a js) (filter a js))) in-a) ∙ e)

      apart : same_runner x.runner k.runner ≡ false → x ≡ k → ⊥
      apart f same = false≢true (sym f ∙ ap (λ (y : Job). same_runner y.runner k.runner) same ∙ same_runner-refl k.runner)

      behind : (c : Bool) → a x ≡ c → same_runner x.runner k.runner ≡ false → first_greatest p (cond c (x ∷ filter a js) (filter a js)) ≡ Some k → first_greatest p (filter a js) ≡ Some k
      behind false in-a f g = g
      behind true in-a f g = rest (first_greatest p (filter a js)) g
        where
          rest : (o : Option Job) → Some (better_of p x o) ≡ Some k → o ≡ Some k
          rest None h = absurd (apart f (same_Some x k h))
          rest (Some i) h = choose (nat_lt (p x) (p i)) (same_Some _ k h)
            where
              choose : (c : Bool) → cond c i x ≡ k → Some i ≡ Some k
              choose true same = ap Some same
              choose false same = absurd (apart f same)

      by : (c : Bool) → same_runner x.runner k.runner ≡ c → (first_greatest p (filter a js) ≡ Some k → oldest k.runner js ≡ Some k) → cond c (Some x) (oldest k.runner js) ≡ Some k
      by true f rest = let mine = elder x (same_runner-true x.runner k.runner f) in ap Some (found mine.0 mine.1)
      by false f rest = rest (behind (a x) refl f e)

-- ---- stamps

oldest-each : (P : Job → Type 0) (r : Runner) (js : List Job) (i : Job) → Each P js → oldest r js ≡ Some i → P i
oldest-each P r [] i all e = absurd (none-some i e)
oldest-each P r (x ∷ js) i all e = by (same_runner x.runner r) e (oldest-each P r js i all.1)
  where
    by : (c : Bool) → cond c (Some x) (oldest r js) ≡ Some i → (oldest r js ≡ Some i → P i) → P i
    by true f rest = subst P (same_Some x i f) all.0
    by false f rest = rest f

-- no other job has the stamp of the oldest one of a task
distinct : (r : Runner) (js : List Job) (i : Job) → Ascending js → oldest r js ≡ Some i → Each (λ (j : Job). j.stamp ≡ i.stamp → j ≡ i) js
distinct r [] i up e = tt
distinct r (x ∷ js) i up e = by (same_runner x.runner r) e (distinct r js i up.1)
  where
    by : (c : Bool) → cond c (Some x) (oldest r js) ≡ Some i → (oldest r js ≡ Some i → Each (λ (j : Job). j.stamp ≡ i.stamp → j ≡ i) js)
        → (x.stamp ≡ i.stamp → x ≡ i) × Each (λ (j : Job). j.stamp ≡ i.stamp → j ≡ i) js
    by true f rest =
        let here : x ≡ i = same_Some x i f in
        let first : x.stamp ≡ i.stamp = ap (λ (j : Job). j.stamp) here in
        ((λ s. here), each-weaker (λ (j : Job). x.stamp < j.stamp) _ js (λ j lt s. absurd (omega (arith, lt, s, first))) up.0)
    by false f rest =
        let later : x.stamp < i.stamp = oldest-each (λ (j : Job). x.stamp < j.stamp) r js i up.0 f in
        ((λ s. absurd (omega (arith, later, s))), rest f)

oldest-runner : (r : Runner) (js : List Job) (i : Job) → oldest r js ≡ Some i → i.runner ≡ r
oldest-runner r [] i e = absurd (none-some i e)
oldest-runner r (x ∷ js) i e = by (same_runner x.runner r) refl e (oldest-runner r js i)
  where
    by : (c : Bool) → same_runner x.runner r ≡ c → cond c (Some x) (oldest r js) ≡ Some i → (oldest r js ≡ Some i → i.runner ≡ r) → i.runner ≡ r
    by true f g rest = ap (λ (j : Job). j.runner) (sym (same_Some x i g)) ∙ same_runner-true x.runner r f
    by false f g rest = rest g

-- ---- so the job that the code chooses is the best

module _ (core : Core) (s : JobState) (up : Ascending s.jobs) where
  abbrev raised : Option Job
  raised = raised_among core s

  abbrev rank : Job → ℕ
  rank = rank_by core s.rows raised

  abbrev priority : Job → ℕ
  priority = priority_by core s.jobs s.rows raised

  abbrev base : Runner → ℕ
  base r = greater (static_priority core r) (greatest_ceiling (held_in r s.rows))

  lower : (a b r : ℕ) → greater (greater a 0) r ≤ greater (greater a b) r
  lower a b r = grind (arith, nat_tests)

  less : (j : Job) → priority j ≤ rank j
  less j = by (is_oldest s.jobs j)
    where
      by : (c : Bool) → greater (greater (static_priority core j.runner) (greatest_ceiling (cond c (held_in j.runner s.rows) []))) (cond (option_map_or (same_job j) raised false) (highest_of core.tasks) 0) ≤ rank j
      by true = omega arith
      by false = lower (static_priority core j.runner) (greatest_ceiling (held_in j.runner s.rows)) (cond (option_map_or (same_job j) raised false) (highest_of core.tasks) 0)

  fewer : (j : Job) → is_able_in s.jobs s.rows j ≡ true → is_awake_in s.rows j ≡ true
  fewer j able = (and_parts (is_oldest s.jobs j) _ able).1

  unraised : (j : Job) → option_map_or (same_job j) raised false ≡ false → rank j ≡ greater (base j.runner) 0
  unraised j e = ap (λ (c : Bool). greater (base j.runner) (cond c (highest_of core.tasks) 0)) e

  at-least : (j : Job) → greater (base j.runner) 0 ≤ rank j
  at-least j = more (base j.runner) (cond (option_map_or (same_job j) raised false) (highest_of core.tasks) 0)
    where
      more : (n m : ℕ) → greater n 0 ≤ greater n m
      more n m = grind (arith, nat_tests)

  oldest-raised : (k r : Job) → first_greatest rank (filter (is_awake_in s.rows) s.jobs) ≡ Some k → (o : Option TaskRef) → oldest_of o s.jobs ≡ Some r → same_job k r ≡ true → oldest k.runner s.jobs ≡ Some k
  oldest-raised k r e None f same = absurd (none-some r f)
  oldest-raised k r e (Some t) f same =
      let one : k ≡ r = (chosen-each rank (is_awake_in s.rows) (λ (j : Job). j.stamp ≡ r.stamp → j ≡ r) s.jobs k (distinct (Runner.Task t) s.jobs r up f) e).0 (eqb-true k.stamp r.stamp same) in
      ap (λ (q : Runner). oldest q s.jobs) (ap (λ (j : Job). j.runner) one ∙ oldest-runner (Runner.Task t) s.jobs r f) ∙ (f ∙ ap Some (sym one))

  is-oldest : (k : Job) → first_greatest rank (filter (is_awake_in s.rows) s.jobs) ≡ Some k → oldest k.runner s.jobs ≡ Some k
  is-oldest k e = by (option_map_or (same_job k) raised false) refl
    where
      awake : is_awake_in s.rows k ≡ true
      awake = (chosen-each rank (is_awake_in s.rows) (λ (j : Job). Unit {0}) s.jobs k (any-each s.jobs) e).1

      elder : option_map_or (same_job k) raised false ≡ false → (i : Job) → i.runner ≡ k.runner → (is_awake_in s.rows i ≡ true) × (rank k ≤ rank i)
      elder f i same =
          let alike : greater (base i.runner) 0 ≡ rank k = ap (λ (r : Runner). greater (base r) 0) same ∙ sym (unraised k f) in
          let low = at-least i in
          (ap (λ (r : Runner). not (is_waiting (events_in r s.rows))) same ∙ awake, omega (arith, alike, low))

      mine : (o : Option Job) → oldest_of s.current s.jobs ≡ o → option_map_or (same_job k) (raised_of core s.giving_way o) false ≡ true → oldest k.runner s.jobs ≡ Some k
      mine None f g = absurd (false≢true g)
      mine (Some r) f g = choose (is_preemptable core r.runner || option_map_or (same_runner r.runner) s.giving_way false) g
        where
          choose : (c : Bool) → option_map_or (same_job k) (cond c None (Some r)) false ≡ true → oldest k.runner s.jobs ≡ Some k
          choose true h = absurd (false≢true h)
          choose false h = oldest-raised k r e s.current f h

      by : (c : Bool) → option_map_or (same_job k) raised false ≡ c → oldest k.runner s.jobs ≡ Some k
      by true f = mine (oldest_of s.current s.jobs) refl f
      by false f = chosen-oldest rank (is_awake_in s.rows) s.jobs k e (elder f)

  pub same-best : first_greatest rank (filter (is_awake_in s.rows) s.jobs) ≡ best_task_among core s
  same-best = by (first_greatest rank (filter (is_awake_in s.rows) s.jobs)) refl
    where
      choice : Chosen rank priority (is_awake_in s.rows) (is_able_in s.jobs s.rows) fewer less (first_greatest rank (filter (is_awake_in s.rows) s.jobs)) (best_task_among core s)
      choice = chosen rank priority (is_awake_in s.rows) (is_able_in s.jobs s.rows) fewer less s.jobs

      by : (o : Option Job) → first_greatest rank (filter (is_awake_in s.rows) s.jobs) ≡ o → o ≡ best_task_among core s
      by None e = sym (choice.none e)
      by (Some k) e = sym (choice.same k e able alike)
        where
          eldest : is_oldest s.jobs k ≡ true
          eldest = ap (λ (o : Option Job). option_map_or (same_job k) o false) (is-oldest k e) ∙ eq-eqb k.stamp k.stamp refl

          able : is_able_in s.jobs s.rows k ≡ true
          able = and_from (is_oldest s.jobs k) _ eldest ((chosen-each rank (is_awake_in s.rows) (λ (j : Job). Unit {0}) s.jobs k (any-each s.jobs) e).1)

          alike : priority k ≡ rank k
          alike = ap (λ (c : Bool). greater (greater (static_priority core k.runner) (greatest_ceiling (cond c (held_in k.runner s.rows) []))) (cond (option_map_or (same_job k) raised false) (highest_of core.tasks) 0)) eldest
