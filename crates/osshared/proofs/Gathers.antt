-- What a call says of a core's seat, and of all seats once they are joined into one.
use Rattle.std.proofs.Common.{◌≡◌, ℕ, ◌<◌, Option, true, false, List, [], ◌∷◌, ◌++◌, map, sym, refl, ap, ◌∙◌, ◌≢◌, arith}
use Rattle.std.specs.List.{flat_map}
use Rattle.std.proofs.lemmas.List.{append-nil}
use Rattle.std.proofs.lemmas.Bool.{eqb-true, eq-eqb, or_parts, or_left, or_right, both_ways}
use Rattle.atomic_table.specs.{Table.Allows, Table.Me, Seated.TableId}
use Rattle.osbase.specs.declared.references.CoreId.{CoreId}
use Rattle.osshared.specs.{declared.histories.Entry.Entry, declared.histories.Plan.Plan, declared.histories.View.View}
use Rattle.osshared.specs.{Calls.MayCall, Histories.Object, Histories.calls_by, Histories.entry}
use Rattle.osshared.specs.Seats.{has, Place, AllAt, Held, Extends, cores_of, AllApart, AllStand, IsOneHistory}
use Rattle.osshared.specs.Views.{AllBegin, Kept, Told, Whole, held_at, IsSeated, joined, made, first_of_cores}
use Rattle.osshared.proofs.Steps.{allows, apart, begin_append, calls_by-append, calls_by-hit}

-- the seat that is taken from the end
pub all_at_last : {A C R : Type 0} (p : Place A) (l xs : List (Held A C R)) (x : Held A C R) → l ≡ xs ++ x ∷ [] → AllAt p l → AllAt p xs × (x.place ≡ p)
all_at_last p l [] x is a = let b : AllAt p (x ∷ []) = rw (is) at a in (tt, b.0)
all_at_last p l (y ∷ ys) x is a =
    let b : AllAt p (y ∷ ys ++ x ∷ []) = rw (is) at a in
    let r = all_at_last p (ys ++ x ∷ []) ys x refl b.1 in ((b.0, r.0), r.1)

module _ {C R : Type 0} where
  none_left : (c d : CoreId) (xs : List (Entry C R)) → d.number ≢ c.number → calls_by d (calls_by c xs) ≡ []
  none_left c d [] ne = refl
  none_left c d (x ∷ xs) ne = grind (arith, none_left c d xs ne, eq-eqb, eqb-true)

  -- the calls of one core contain no call of another one
  pure_other : (c d : CoreId) (xs : List (Entry C R)) → calls_by c xs ≡ xs → d.number ≢ c.number → calls_by d xs ≡ []
  pure_other c d xs own ne = ap (calls_by d) (sym own) ∙ none_left c d xs ne

-- a call of a core from its seat, by one step on a word
module _ {A S C R : Type 0} {o : Object A S C R} {stands : S → List ℕ → Type 0} {answer : CoreId → C → ℕ → R} {asked : Option C} {place : Place A} {held : Held A C R} {index : ℕ} {call : C} {f : ℕ → ℕ}
    (may : MayCall o stands answer asked place held index call f) {table : TableId} {core : CoreId} {me : Me (Unit {0}) (View A C R)} (is : held_at table core me ≡ held) (seated : IsSeated core me) where
  -- the step may be made
  pub may_step : (words : Place A) → words ≡ place → (slots id : ℕ) → (table ≡ words.table) × (index < words.table.words) × Allows (Kept o stands words.plan) slots id me index f (made o answer asked me)
  may_step words at slots id = (
    ap (λ (h : Held A C R). h.place.table) is ∙ ap (λ (p : Place A). p.table) (may.place ∙ sym at),
    rw (at) may.word,
    allows words.plan o stands answer call asked slots id me core index f may.asked seated (rw (ap (λ (h : Held A C R). h.core) is) may.step),
  )

  module _ {m : Me (Unit {0}) (View A C R)} {found : ℕ} (step : made o answer asked me found m) where
    step_told : Told o me (entry core call (answer core call found)) m
    step_told = rw (ap first_of_cores seated.cores) at (step call may.asked)

    -- the core still has its seat
    pub still_seated : IsSeated core m
    still_seated = let t = step_told in record {
      live = t.1.live ∙ seated.live;
      cores = t.1.cores ∙ seated.cores;
      told = t.1.told ∙ seated.told;
      mine = rw t.1.mine (calls_by-append core me.0.mine _ ∙ (λ i. seated.mine i ++ calls_by-hit core (entry core call (answer core call found)) refl i));
      slots = t.0 ∙ seated.slots;
    }

    -- what the call's contract says
    pub answers : (new : TableId) → new ≡ table → Extends o held (entry held.core call (answer held.core call found)) (held_at new core m)
    answers new tables = let t = step_told in rw (← is) (record {
      place = λ i. record { table = tables i; plan = t.1.plan_is i };
      core = refl;
      between = t.1.between;
      seen = t.1.seen;
      mine = t.1.mine;
      legal = t.1.legal;
      own = t.1.own core (ap (λ l. has l core) seated.cores ∙ or_left _ _ (eq-eqb core.number core.number refl)) ∙ still_seated.mine;
    })

module _ {A C R : Type 0} where
  abbrev pub mines_of : List (Held A C R) → List (Entry C R)
  mines_of ss = flat_map (λ s. s.mine) ss

  abbrev pub seens_of : List (Held A C R) → List (List (Entry C R))
  seens_of ss = map (λ s. s.seen) ss

  abbrev pub AllPure : List (Held A C R) → Type 0
  AllPure [] = Unit {0}
  AllPure (s ∷ ss) = (calls_by s.core s.mine ≡ s.mine) × AllPure ss

  -- the seats that were joined into one seat, with this one among them
  pub record Gathered (v : View A C R) (done : List (Held A C R)) : Type 0 where
    pub live : v.live ≡ true
    pub cores : v.cores ≡ cores_of done
    pub seens : v.told ++ v.seen ∷ [] ≡ seens_of done
    pub mine : v.mine ≡ mines_of done
    pub pure : AllPure done

  pub gathers_one : (z : TableId) (c : CoreId) (me : Me (Unit {0}) (View A C R)) → IsSeated c me → Gathered me.0 (held_at z c me ∷ [])
  gathers_one z c me h = record {
    live = h.live;
    cores = h.cores;
    seens = ap (λ l. l ++ me.0.seen ∷ []) h.told;
    mine = sym (append-nil me.0.mine);
    pure = (h.mine, tt);
  }

  pub gathers_more : (z : TableId) (c : CoreId) (v : View A C R) (other : Me (Unit {0}) (View A C R)) (done : List (Held A C R)) → Gathered v done → IsSeated c other → Gathered (joined v other.0) (held_at z c other ∷ done)
  gathers_more z c v other done g h = record {
    live = g.live;
    cores = λ i. h.cores i ++ g.cores i;
    seens = ap (λ l. (l ++ other.0.seen ∷ v.told) ++ v.seen ∷ []) h.told ∙ ap (λ l. other.0.seen ∷ l) g.seens;
    mine = ap (λ l. other.0.mine ++ l) g.mine;
    pure = (h.mine, g.pure);
  }

  none_of : (d : CoreId) (ss : List (Held A C R)) → AllPure ss → has (cores_of ss) d ≡ false → calls_by d (mines_of ss) ≡ []
  none_of d [] p h = refl
  none_of d (s ∷ ss) p h = let t = or_parts _ _ h in
      calls_by-append d s.mine (mines_of ss) ∙ (λ i. pure_other s.core d s.mine p.0 (λ e. both_ways _ t.0 (eq-eqb d.number s.core.number e)) i ++ none_of d ss p.1 t.1 i)

  all_stand : (log : List (Entry C R)) (ss : List (Held A C R)) → ((c : CoreId) → has (cores_of ss) c ≡ true → calls_by c log ≡ calls_by c (mines_of ss))
      → AllPure ss → AllApart (cores_of ss) → AllBegin (seens_of ss) log → AllStand log ss
  all_stand log [] own p a b = tt
  all_stand log (s ∷ ss) own p a b = (
    (b.0, own s.core (or_left _ _ (eq-eqb s.core.number s.core.number refl)) ∙ calls_by-append s.core s.mine (mines_of ss) ∙ (λ i. p.0 i ++ none_of s.core ss p.1 a.0 i) ∙ append-nil s.mine),
    all_stand log ss
        (λ c h. own c (or_right _ _ h) ∙ calls_by-append c s.mine (mines_of ss) ∙ ap (λ l. l ++ calls_by c (mines_of ss)) (pure_other s.core c s.mine p.0 (apart (cores_of ss) c s.core h a.0)))
        p.1 a.1 b.1,
  )

  -- after the last look, all seats show one history
  pub finishes : {S : Type 0} (o : Object A S C R) (plan : Plan A) (v w : View A C R) (done : List (Held A C R))
      → Gathered v done → Whole o v w → v.plan ≡ plan → cores_of done ≡ plan.cores → AllApart plan.cores → IsOneHistory o plan done
  finishes o plan v w done g look about is apart = record {
    log = w.seen;
    legal = rw (about) at (look.legal g.live);
    stand = all_stand w.seen done
        (λ c h. look.own c (ap (λ l. has l c) g.cores ∙ h) ∙ ap (calls_by c) g.mine)
        g.pure
        (rw is apart)
        (rw (g.seens) at (begin_append v.told (v.seen ∷ []) w.seen look.told (look.seen, tt)));
    others = λ c h. look.others g.live c (ap (λ (p : Plan A). has p.cores c) about ∙ h);
  }

  -- with no seat there is no call
  pub no_seats : {S : Type 0} (o : Object A S C R) (plan : Plan A) (ss : List (Held A C R)) → ss ≡ [] → IsOneHistory o plan ss
  no_seats o plan ss is = record { log = []; legal = tt; stand = rw is tt; others = λ c h. refl }
