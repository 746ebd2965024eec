-- A step that adds one call to the history keeps the rule of seats.
use Rattle.std.proofs.Common.{◌≡◌, ◌==◌, ◌||◌, ℕ, zero, suc, true, false, List, [], ◌∷◌, ◌++◌, length, set, get_or, sym, refl, ap, ◌∙◌, ⊎_elim, ◌≢◌, append_assoc, Option, Some, arith}
use Rattle.std.proofs.{Math.Bool.or_assoc, lemmas.List.append-nil, lemmas.Option.same_Some}
use Rattle.std.proofs.lemmas.Bool.{eqb-true, eq-eqb, ne_eqb, cond-true, cond-false, or_cases, or_left, both_ways, false_from_ne_true}
use mathlib.Core.Option.{some, some-injective, some-ne-none}
use mathlib.Core.List.{IsPrefix}
use lib.ListN.{get_elem?}
use Rattle.atomic_table.specs.Table.{Me, keeps, Allows}
use Rattle.atomic_table.proofs.Lists.{at_set}
use Rattle.osbase.specs.declared.references.CoreId.{CoreId}
use Rattle.osshared.specs.{declared.histories.Entry.Entry, declared.histories.Plan.Plan, declared.histories.View.View, Seats.has}
use Rattle.osshared.specs.Histories.{Object, Continues, calls_by, entry, state_after, IsLegalFrom, IsLegal}
use Rattle.osshared.specs.Views.{AllBegin, Fits, Kept, Calls, made, first_of_cores, IsStep, IsSeated}

pub same_core : (c d : CoreId) → c.number ≡ d.number → c ≡ d
same_core c d e = ap (λ (n : ℕ). let x : CoreId = record { number = n } in x) e

module _ {A : Type 0} where
  pub prefix_self : (xs : List A) → IsPrefix xs xs
  prefix_self xs = ([], append-nil xs)

  pub prefix_more : (xs ys zs : List A) → IsPrefix xs ys → IsPrefix xs (ys ++ zs)
  prefix_more xs ys zs p = (p.0 ++ zs, sym (append_assoc xs p.0 zs) ∙ ap (λ w. w ++ zs) p.1)

-- what holds of each item still holds after one of them is replaced, and after one is added
module _ {V : Type 0} where
  pub at_each : (P : ℕ → V → Type 0) (l : List V) (i : ℕ) (a : V) → P i a → ((j : ℕ) (b : V) → j ≢ i → get_elem? l j ≡ some b → P j b) → (j : ℕ) (b : V) → get_elem? (set l i a) j ≡ some b → P j b
  at_each P l i a here there j b e = ⊎_elim (λ t. rw (t.0, ← t.1) here) (λ t. there j b t.0 t.1) (at_set l i j a b e)

  pub at_each_more : (P : ℕ → V → Type 0) (l : List V) (a : V) → P (length l) a → ((j : ℕ) (b : V) → get_elem? l j ≡ some b → P j b) → (j : ℕ) (b : V) → get_elem? (l ++ a ∷ []) j ≡ some b → P j b
  at_each_more P [] a here there zero b e = rw (some-injective a b e) at here
  at_each_more P [] a here there (suc j) b e = absurd (some-ne-none b (sym e))
  at_each_more P (x ∷ xs) a here there zero b e = there 0 b e
  at_each_more P (x ∷ xs) a here there (suc j) b e = at_each_more (λ k c. P (suc k) c) xs a here (λ k c. there (suc k) c) j b e

module _ {C R : Type 0} where
  pub begin_more : (ts : List (List (Entry C R))) (log zs : List (Entry C R)) → AllBegin ts log → AllBegin ts (log ++ zs)
  begin_more [] log zs h = tt
  begin_more (t ∷ ts) log zs h = (prefix_more t log zs h.0, begin_more ts log zs h.1)

  pub begin_append : (ts us : List (List (Entry C R))) (log : List (Entry C R)) → AllBegin ts log → AllBegin us log → AllBegin (ts ++ us) log
  begin_append [] us log h k = k
  begin_append (t ∷ ts) us log h k = (h.0, begin_append ts us log h.1 k)

pub has_append : (xs ys : List CoreId) (c : CoreId) → has (xs ++ ys) c ≡ has xs c || has ys c
has_append [] ys c = refl
has_append (d ∷ ds) ys c = rw (has_append ds ys c) (sym (or_assoc (c.number == d.number) _ _))

-- the only core in a list of one
pub has_one : (c d : CoreId) → has (d ∷ []) c ≡ true → c ≡ d
has_one c d h = ⊎_elim (λ e. same_core c d (eqb-true _ _ e)) (λ e. absurd (both_ways false refl e)) (or_cases _ _ h)

pub has_same : (cores : List CoreId) (c d : CoreId) → has cores c ≡ true → c.number ≡ d.number → has cores d ≡ true
has_same cores c d h e = rw (same_core c d e) at h

pub apart : (cores : List CoreId) (c d : CoreId) → has cores c ≡ true → has cores d ≡ false → c.number ≢ d.number
apart cores c d h k e = both_ways _ k (has_same cores c d h e)

module _ {C R : Type 0} where
  -- the calls of a core in two histories, one after the other
  pub calls_by-append : (c : CoreId) (xs ys : List (Entry C R)) → calls_by c (xs ++ ys) ≡ calls_by c xs ++ calls_by c ys
  calls_by-append c [] ys = refl
  calls_by-append c (e ∷ es) ys = grind (arith, calls_by-append c es ys)

  pub calls_by-hit : (c : CoreId) (e : Entry C R) → c.number ≡ e.core.number → calls_by c (e ∷ []) ≡ e ∷ []
  calls_by-hit c e h = cond-true _ _ _ (eq-eqb c.number e.core.number h)

  pub calls_by-miss : (c : CoreId) (e : Entry C R) → c.number ≢ e.core.number → calls_by c (e ∷ []) ≡ []
  calls_by-miss c e h = cond-false _ _ _ (ne_eqb c.number e.core.number h)

  pub missed : (c : CoreId) (e : Entry C R) (log : List (Entry C R)) → c.number ≢ e.core.number → calls_by c (log ++ e ∷ []) ≡ calls_by c log
  missed c e log h = calls_by-append c log (e ∷ []) ∙ ap (λ l. calls_by c log ++ l) (calls_by-miss c e h) ∙ append-nil (calls_by c log)

module _ {A S C R : Type 0} (o : Object A S C R) where
  pub after_snoc : (s : S) (log : List (Entry C R)) (e : Entry C R) → state_after o s (log ++ e ∷ []) ≡ o.after e.core e.call (state_after o s log)
  after_snoc s [] e = refl
  after_snoc s (x ∷ xs) e = after_snoc (o.after x.core x.call s) xs e

  pub legal_snoc : (s : S) (log : List (Entry C R)) (e : Entry C R) → IsLegalFrom o s log → e.reply ≡ o.reply e.core e.call (state_after o s log) → IsLegalFrom o s (log ++ e ∷ [])
  legal_snoc s [] e l r = (r, tt)
  legal_snoc s (x ∷ xs) e l r = (l.0, legal_snoc (o.after x.core x.call s) xs e l.1 r)

  -- a call that is answered as the object answers it, and does what it does
  pub continues : (old new : S) (e : Entry C R) → e.reply ≡ o.reply e.core e.call old → o.after e.core e.call old ≡ new → Continues o old e new
  continues old new e reply after = record {
    leads = λ about log l. record {
      legal = legal_snoc (o.first about) log e l.legal (reply ∙ sym (ap (o.reply e.core e.call) l.state));
      state = after_snoc (o.first about) log e ∙ (ap (o.after e.core e.call) l.state ∙ after);
    };
  }

module _ {A C R : Type 0} (plan : Plan A) where
  -- the view after a call
  abbrev pub called : View A C R → List (Entry C R) → Entry C R → View A C R
  called v log e = record v { seen = log ++ e ∷ []; mine = v.mine ++ e ∷ [] }

  -- a seat fits the history, and its cores are its own
  abbrev pub Sits : List (Entry C R) → (CoreId → ℕ) → ℕ → View A C R → Type 0
  Sits log owner id v = Fits plan log v × ((c : CoreId) → has v.cores c ≡ true → owner c ≡ id)

  -- a view still fits after a call of another seat
  fits_other : (log : List (Entry C R)) (e : Entry C R) (v : View A C R) → has v.cores e.core ≡ false → Fits plan log v → Fits plan (log ++ e ∷ []) v
  fits_other log e v out f = record {
    seen = prefix_more v.seen log (e ∷ []) f.seen;
    told = begin_more v.told log (e ∷ []) f.told;
    plan_is = f.plan_is;
    known = f.known;
    mine = λ c h. missed c e log (apart v.cores c e.core h out) ∙ f.mine c h;
    pure = f.pure;
  }

  fits_called : (log : List (Entry C R)) (e : Entry C R) (v : View A C R) → has v.cores e.core ≡ true → Fits plan log v → Fits plan (log ++ e ∷ []) (called v log e)
  fits_called log e v inside f = record {
    seen = prefix_self (log ++ e ∷ []);
    told = begin_more v.told log (e ∷ []) f.told;
    plan_is = f.plan_is;
    known = f.known;
    mine = λ c h. calls_by-append c log (e ∷ []) ∙ ap (λ l. l ++ calls_by c (e ∷ [])) (f.mine c h) ∙ sym (calls_by-append c v.mine (e ∷ []));
    pure = λ c h. missed c e v.mine (λ q. apart v.cores e.core c inside h (sym q)) ∙ f.pure c h;
  }

  -- a step of a core's seat on the word i, which makes f of the number found, is a call of that core
  pub allows : {S : Type 0} (o : Object A S C R) (stands : S → List ℕ → Type 0) (answer : CoreId → C → ℕ → R) (call : C) (asked : Option C)
      (slots id : ℕ) (me : Me (Unit {0}) (View A C R)) (core : CoreId) (i : ℕ) (f : ℕ → ℕ)
      → asked ≡ Some call → IsSeated core me → IsStep o stands answer core call i f
      → Allows (Kept o stands plan) slots id me i f (made o answer asked me)
  allows o stands answer call asked slots id me core i f is seated moves s k homes at small =
      let v : View A C R = me.0 in
      let inside : has v.cores core ≡ true = ap (λ l. has l core) seated.cores ∙ or_left _ _ (eq-eqb core.number core.number refl) in
      let n : ℕ = get_or s.words i 0 in
      let e : Entry C R = entry core call (answer core call n) in
      let log = k.log ++ e ∷ [] in
      let moved = moves (state_after o (o.first plan.about) k.log) s.words k.words small in
      let legal : IsLegal o plan.about log = legal_snoc o (o.first plan.about) k.log e k.legal moved.1 in
      let fits = k.seats id v at in
      let fits' = fits_called k.log e v inside fits in
      let all = at_each (Sits log k.owner) s.views id (called v k.log e) (fits', k.owns id v at)
      (λ j u off h. (fits_other k.log e u (false_from_ne_true _ (λ q. off (sym (k.owns j u h core q) ∙ k.owns id v at core inside))) (k.seats j u h), k.owns j u h)) in
      let told : Calls o v e (called v k.log e) = record {
        between = fits.seen.0;
        seen = ap (λ l. l ++ e ∷ []) (sym fits.seen.1);
        mine = refl;
        live = refl;
        plan_is = refl;
        cores = refl;
        told = refl;
        legal = rw (fits.plan_is seated.live) legal;
        own = fits'.mine;
      } in (
        called v k.log e,
        keeps,
        tt,
        record {
          log = log;
          owner = k.owner;
          words = rw (after_snoc o (o.first plan.about) k.log e) moved.0;
          legal = legal;
          seats = λ j u h. (all j u h).0;
          owns = λ j u h. (all j u h).1;
          others = λ d q. missed d e k.log (λ r. apart plan.cores core d (fits.known core inside) q (sym r)) ∙ k.others d q;
        },
        λ call' is'. rw (ap first_of_cores seated.cores, ← same_Some call call' (sym is ∙ is')) (refl, told),
      )
