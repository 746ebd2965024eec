-- A seat is cut in two, two are joined, and a seat looks at the whole history: each keeps the rule of seats.
use Rattle.std.proofs.Common.{map, take, ◌+◌, ◌≡◌, ◌==◌, ℕ, zero, suc, ◌<◌, true, false, if◌then◌else◌, List, [], ◌∷◌, ◌++◌, length, set, drop, get_or, sym, refl, ap, ◌∙◌, subst, ⊎_elim, ◌≢◌, length-set}
use Rattle.std.proofs.{lemmas.List.append-nil, lemmas.List.set-get_or, lemmas.List.map-append, Math.Numerals.add-one, Math.Seq.drop-cons, Math.Seq.take-suc}
use Rattle.std.proofs.lemmas.Bool.{eq-eqb, ne_eqb, cond-true, cond-false, or_cases, or_parts, or_left, or_right, both_ways, false_from_ne_true}
use mathlib.Core.Option.{some, some-ne-none}
use lib.ListN.{get_elem?}
use Rattle.atomic_table.specs.Table.{State, opening, Me, keeps, Allows, Splits, Joins}
use Rattle.atomic_table.proofs.Lists.{at_set}
use Rattle.osbase.specs.declared.references.CoreId.{CoreId}
use Rattle.osshared.specs.{declared.histories.Entry.Entry, declared.histories.Plan.Plan, declared.histories.View.View}
use Rattle.osshared.specs.Histories.{Object}
use Rattle.osshared.specs.Seats.{has, AllApart, Held, Place, fresh}
use Rattle.osshared.specs.Views.{dealer, held_at, Fits, Kept, Whole, first_seat, seat_without_first, joined, spent}
use Rattle.osshared.proofs.Steps.{Sits, apart, at_each, at_each_more, prefix_self, begin_append, has_append, has_one, calls_by-append}

apart_drop : (i : ℕ) (cs : List CoreId) → AllApart cs → AllApart (drop i cs)
apart_drop zero cs a = a
apart_drop (suc i) [] a = tt
apart_drop (suc i) (c ∷ cs) a = apart_drop i cs a.1

module _ {A C R : Type 0} (plan : Plan A) where
  fits_spent : (log : List (Entry C R)) (nothing : A) → Fits plan log (spent nothing)
  fits_spent log nothing = record {
    seen = (log, refl);
    told = tt;
    plan_is = λ h. absurd (both_ways false refl h);
    known = λ c h. absurd (both_ways false refl h);
    mine = λ c h. absurd (both_ways false refl h);
    pure = λ c h. refl;
  }

  fits_joined : (log : List (Entry C R)) (v w : View A C R) → ((c : CoreId) → has v.cores c ≡ true → has w.cores c ≡ true → ⊥) → Fits plan log v → Fits plan log w → Fits plan log (joined v w)
  fits_joined log v w apart f g = record {
    seen = f.seen;
    told = begin_append w.told (w.seen ∷ v.told) log g.told (g.seen, f.told);
    plan_is = f.plan_is;
    known = λ c h. ⊎_elim (g.known c) (f.known c) (or_cases _ _ (rw (has_append w.cores v.cores c) at h));
    mine = λ c h. ⊎_elim
        (λ q. rw (calls_by-append, f.pure c (false_from_ne_true _ (λ r. apart c r q)), append-nil) (g.mine c q))
        (λ q. rw (calls_by-append, g.pure c (false_from_ne_true _ (λ r. apart c q r))) (f.mine c q))
        (or_cases _ _ (rw (has_append w.cores v.cores c) at h));
    pure = λ c h. let t = or_parts _ _ (rw (has_append w.cores v.cores c) at h) in rw (calls_by-append, g.pure c t.0) (f.pure c t.1);
  }

  -- a seat that has made no call keeps some of its cores
  fits_some : (log : List (Entry C R)) (cores few : List CoreId) → ((c : CoreId) → has few c ≡ true → has cores c ≡ true) → Fits plan log (dealer plan cores) → Fits plan log (dealer plan few)
  fits_some log cores few within f = record {
    seen = f.seen;
    told = f.told;
    plan_is = f.plan_is;
    known = λ c h. f.known c (within c h);
    mine = λ c h. f.mine c (within c h);
    pure = λ c h. refl;
  }

module _ {A S C R : Type 0} (o : Object A S C R) (stands : S → List ℕ → Type 0) (plan : Plan A) where
  -- other views at the same words
  kept_by : (s : State (Unit {0}) (View A C R)) (views : List (View A C R)) (k : Kept o stands plan s) (owner : CoreId → ℕ)
      → ((id : ℕ) (v : View A C R) → get_elem? views id ≡ some v → Sits plan k.log owner id v) → Kept o stands plan (record { words = s.words; homes = s.homes; views = views })
  kept_by s views k owner all = record {
    log = k.log;
    owner = owner;
    words = k.words;
    legal = k.legal;
    seats = λ id v h. (all id v h).0;
    owns = λ id v h. (all id v h).1;
    others = k.others;
  }

  pub joins : (nothing : A) (id : ℕ) (v : View A C R) (other : ℕ) (w : View A C R) → Joins (Kept o stands plan) id v other w (joined v w) (spent nothing)
  joins nothing id v other w s k at ne at' =
      let at_w : get_elem? s.views other ≡ some w = ⊎_elim (λ t. absurd (ne t.0)) (λ t. t.1) (at_set s.views id other (joined v w) w at') in
      let owner : CoreId → ℕ = λ c. if has w.cores c then id else k.owner c in
      let apart : (c : CoreId) → has v.cores c ≡ true → has w.cores c ≡ true → ⊥ = λ c p q. ne (sym (k.owns other w at_w c q) ∙ k.owns id v at c p) in
      let owned : (c : CoreId) → has (w.cores ++ v.cores) c ≡ true → owner c ≡ id = λ c h. ⊎_elim
      (λ q. cond-true _ _ _ q)
      (λ q. cond-false _ _ _ (false_from_ne_true _ (apart c q)) ∙ k.owns id v at c q)
      (or_cases _ _ (rw (has_append w.cores v.cores c) at h)) in
      let but_other : (j : ℕ) (u : View A C R) → get_elem? (set s.views id (joined v w)) j ≡ some u → j ≢ other → Sits plan k.log owner j u
      = at_each (λ j u. j ≢ other → Sits plan k.log owner j u) s.views id (joined v w)
      (λ _. (fits_joined plan k.log v w apart (k.seats id v at) (k.seats other w at_w), owned))
      (λ j u _ h off. (k.seats j u h, λ c q. cond-false _ _ _ (false_from_ne_true _ (λ z. off (sym (k.owns j u h c q) ∙ k.owns other w at_w c z))) ∙ k.owns j u h c q)) in
      kept_by s _ k owner (at_each (Sits plan k.log owner) (set s.views id (joined v w)) other (spent nothing)
      (fits_spent plan k.log nothing, λ c q. absurd (both_ways false refl q))
      (λ j u off h. but_other j u h off))

  -- the first core of a seat that has made no call gets a seat of its own
  splits : (id : ℕ) (c0 : CoreId) (rest : List CoreId) → has rest c0 ≡ false → Splits (Kept o stands plan) id (dealer plan (c0 ∷ rest)) (dealer plan rest) (dealer plan (c0 ∷ []))
  splits id c0 rest new s k at =
      let f = k.seats id (dealer plan (c0 ∷ rest)) at in
      let mine = k.owns id (dealer plan (c0 ∷ rest)) at in
      let owner : CoreId → ℕ = λ c. if c.number == c0.number then length s.views else k.owner c in
      let inside : has (c0 ∷ rest) c0 ≡ true = or_left _ _ (eq-eqb c0.number c0.number refl) in
      let still : (j : ℕ) (cores : List CoreId) → has cores c0 ≡ false → ((c : CoreId) → has cores c ≡ true → k.owner c ≡ j) → (c : CoreId) → has cores c ≡ true → owner c ≡ j
      = λ j cores out owns c q. cond-false _ _ _ (ne_eqb c.number c0.number (apart cores c c0 q out)) ∙ owns c q in
      let others = at_each (Sits plan k.log owner) s.views id (dealer plan rest)
      (fits_some plan k.log (c0 ∷ rest) rest (λ c h. or_right _ _ h) f, still id rest new (λ c h. mine c (or_right _ _ h)))
      (λ j u off h. (k.seats j u h, still j u.cores (false_from_ne_true _ (λ z. off (sym (k.owns j u h c0 z) ∙ mine c0 inside))) (k.owns j u h))) in
      kept_by s _ k owner (at_each_more (Sits plan k.log owner) (set s.views id (dealer plan rest)) (dealer plan (c0 ∷ []))
      (fits_some plan k.log (c0 ∷ rest) (c0 ∷ []) (λ c h. rw (has_one c c0 h) inside) f, λ c h. rw (has_one c c0 h) (cond-true _ _ _ (eq-eqb c0.number c0.number refl) ∙ sym (length-set s.views id (dealer plan rest))))
      others)

  pub looks : (slots id : ℕ) (me : Me (Unit {0}) (View A C R)) (i : ℕ) → Allows (Kept o stands plan) slots id me i (λ n. n) (λ n m. Whole o me.0 m.0)
  looks slots id me i s k homes at small =
      let f = k.seats id me.0 at in
      let v : View A C R = record (me.0) { seen = k.log } in (
        v,
        keeps,
        tt,
        rw (set-get_or s.words i 0) (kept_by s _ k k.owner (at_each (Sits plan k.log k.owner) s.views id v
            (record { seen = prefix_self k.log; told = f.told; plan_is = f.plan_is; known = f.known; mine = f.mine; pure = f.pure }, k.owns id me.0 at)
            (λ j u _ h. (k.seats j u h, k.owns j u h)))),
        record {
          seen = f.seen;
          told = f.told;
          legal = λ live. rw (f.plan_is live) k.legal;
          own = f.mine;
          others = λ live c h. k.others c (ap (λ (p : Plan A). has p.cores c) (sym (f.plan_is live)) ∙ h);
        },
      )

  -- the table at the start keeps the rule
  pub opens : (words : List ℕ) → stands (o.first plan.about) words → Kept o stands plan (opening words [] (dealer plan plan.cores))
  opens words h =
      let all = at_each_more (Sits plan [] (λ c. 0)) [] (dealer plan plan.cores)
      (record { seen = ([], refl); told = tt; plan_is = λ _. refl; known = λ c q. q; mine = λ c q. refl; pure = λ c q. refl }, λ c q. refl)
      (λ id v e. absurd (some-ne-none v (sym e))) in
      record {
        log = [];
        owner = λ c. 0;
        words = h;
        legal = tt;
        seats = λ id v at. (all id v at).0;
        owns = λ id v at. (all id v at).1;
        others = λ c q. refl;
      }

  -- the core at the place i is dealt a seat
  pub deals : (id : ℕ) (v : View A C R) (i : ℕ) (d : CoreId) → i < length plan.cores → AllApart plan.cores → v ≡ dealer plan (drop i plan.cores) → Splits (Kept o stands plan) id v (seat_without_first v) (first_seat v)
  deals id v i d lt apart is =
      let at : drop i plan.cores ≡ get_or plan.cores i d ∷ drop (suc i) plan.cores = drop-cons plan.cores i d lt in
      rw (is, at) (splits id (get_or plan.cores i d) (drop (suc i) plan.cores) (subst AllApart at (apart_drop i plan.cores apart)).0)

-- what is left to deal, and one seat more
module _ {A C R : Type 0} (p : Place A) (cores : List CoreId) (v : View A C R) (i : ℕ) (d : CoreId) (is : v ≡ dealer p.plan (drop i cores)) (lt : i < length cores) where
  pub dealt_next : seat_without_first v ≡ dealer p.plan (drop (i + 1) cores)
  dealt_next = rw (is, drop-cons cores i d lt, add-one) refl

  pub one_more : (me : Me (Unit {0}) (View A C R)) (items : List (Held A C R)) → me ≡ (first_seat v, []) → items ≡ map (λ c. fresh p c) (take i cores)
      → items ++ held_at p.table (get_or cores i d) me ∷ [] ≡ map (λ c. fresh p c) (take (i + 1) cores)
  one_more me items e before = rw (before, e, is, add-one, take-suc cores i d lt, map-append) refl
