-- The core's own objects of a family. Each has a place in the core's configuration, at which the code keeps its state.
use Rattle.std.proofs.Common.{◌≡◌, ℕ, ◌<◌, ◌&&◌, nat_lt, Bool, true, false, cond, All, Option, Some, None, is_some, option_map, List, get_or, length, map, refl, ap, sym, subst, ◌∙◌, arith}
use Rattle.std.specs.{List.list_all, List.slice_get, List.slice_set, Option.option_map_or}
use Rattle.std.proofs.lemmas.Option.{slice_get-get_or}
use Rattle.osbase.specs.{declared.objects.Place.Place, declared.references.CoreId.CoreId, declared.references.CounterRef.CounterRef, Counting.same_counter, History.same_core, Objects.counter_place, Objects.place_on, Objects.same_place, Sets.numbers_from}
use Rattle.osbase.specs.Families.{Family, IsObjectOf, goes_by, is_place_on, refs_of, those_by}
use Rattle.osbase.proofs.Places.{apart, elsewhere, found-inside, own-at, own-passes, place-inside, place-is, place-of-counter, some-there, there}
use Rattle.osbase.proofs.Tables.{table-at, table-set}
use Rattle.osattached.specs.Attached.{IsMember, all_changed, changed_by}
use Rattle.osattached.proofs.{Members.kept-all, Members.stands, Ranges.table-within}

-- A family of all objects of one kind on a core with this many counters, by their places.
pub record Placed {R X : Type 0} (core : CoreId) (counters : ℕ) (f : Family R X) : Type 0 where
  pub place : R → Place
  pub plans : List X
  pub ref : (r : R) → place r ≡ place_on core (place r).index → r ≡ f.ref (place r).index
  pub at : (n : ℕ) → place (f.ref n) ≡ place_on core n
  pub own : (r : R) → f.own r ≡ cond (same_core (place r).core core) (slice_get plans (place r).index) None
  pub all : f.count ≡ length plans

module _ {R X : Type 0} {core : CoreId} {counters : ℕ} {f : Family R X} (p : Placed core counters f) where
  abbrev pub is_own : R → Bool
  is_own r = is_place_on core f.count (p.place r)

  abbrev is_known : CounterRef → Bool
  is_known c = is_place_on core counters (counter_place c)

  -- an own object is the one at its place
  pub own-ref : (r : R) → is_own r ≡ true → r ≡ f.ref (p.place r).index
  own-ref r own = p.ref r (place-is core f.count (p.place r) own)

  pub own-inside : (r : R) → is_own r ≡ true → (p.place r).index < f.count
  own-inside r own = place-inside core f.count (p.place r) own

  -- the configuration of an own object is the one at its place
  pub own-is : (r : R) → is_own r ≡ true → f.own r ≡ slice_get p.plans (p.place r).index
  own-is r own = p.own r ∙ there core f.count p.plans (p.place r) own

  pub own-some : (r : R) → is_own r ≡ true → is_some (f.own r) ≡ true
  own-some r own = ap (λ (o : Option X). is_some o) (p.own r) ∙ some-there core f.count p.plans (p.place r) p.all own

  -- an object at a place is the core's own
  pub own-there : (n : ℕ) → n < f.count → is_own (f.ref n) ≡ true
  own-there n inside = ap (is_place_on core f.count) (p.at n) ∙ own-at core f.count n inside

  -- an object that is not the core's own is at none of these places
  pub not-own : (r : R) (n : ℕ) → is_own r ≡ false → n < f.count → same_place (p.place r) (p.place (f.ref n)) ≡ false
  not-own r n other inside = apart core f.count (p.place r) (p.place (f.ref n)) other (own-there n inside)

  -- an object is at no place other than its own
  pub not-there : (r : R) (n : ℕ) → (n ≡ (p.place r).index → ⊥) → same_place (p.place r) (p.place (f.ref n)) ≡ false
  not-there r n other = ap (same_place (p.place r)) (p.at n) ∙ elsewhere core (p.place r) n other

  -- an object that uses a counter is the core's own
  pub goes-own : (c : CounterRef) (r : R) → goes_by f c r ≡ true → is_own r ≡ true
  goes-own c r on =
      let s = stands f c r on in
      ap (λ (n : ℕ). same_core (p.place r).core core && nat_lt (p.place r).index n) p.all
      ∙ found-inside (same_core (p.place r).core core) p.plans (p.place r).index s.value (sym (p.own r) ∙ s.is)

  -- so each object that uses a counter has a place in a list of all
  pub those-inside : (c : CounterRef) (n : ℕ) → n ≡ f.count → All (λ (r : R). (p.place r).index < n) (those_by f c)
  those-inside c n long =
      kept-all (goes_by f c) (λ (r : R). (p.place r).index < n) (refs_of f) (λ r on. subst (λ (m : ℕ). (p.place r).index < m) (sym long) (own-inside r (goes-own c r on)))

  -- if each object's counter is one of the core's own, so is the counter of an own object
  pub refers : (r : R) (x : X) → list_all (λ (y : X). is_known (f.counter y)) p.plans ≡ true → f.own r ≡ Some x → is_known (f.counter x) ≡ true
  refers r x all is = own-passes (λ (y : X). is_known (f.counter y)) p.plans (same_core (p.place r).core core) (p.place r).index x all (sym (p.own r) ∙ is)

  -- the object of an index, whose counter is one of the core's
  pub own-object : (xs : List X) (n : ℕ) (x : X) → list_all (λ (y : X). is_known (f.counter y)) p.plans ≡ true → xs ≡ p.plans → n < f.count → x ≡ get_or xs n x → IsObjectOf core counters f n (f.counter x) (f.ref n)
  own-object xs n x all are inside is =
      let known = refers (f.ref n) x all here in
      record { here = refl; refers = ap (option_map f.counter) here; own = known; inside = place-inside core counters (counter_place (f.counter x)) known }
    where
      here : f.own (f.ref n) ≡ Some x
      here =
          own-is (f.ref n) (own-there n inside)
          ∙ ap (λ (q : Place). slice_get p.plans q.index) (p.at n)
          ∙ slice_get-get_or p.plans n x (subst (λ (m : ℕ). n < m) p.all inside)
          ∙ ap (λ (y : X). Some y) (ap (λ (ys : List X). get_or ys n x) (sym are) ∙ sym is)

  -- ---- what is kept for each object, by place

  module _ {A : Type 0} (F : R → A) where
    abbrev pub table : List A
    table = map (λ (n : ℕ). F (f.ref n)) (numbers_from 0 f.count)

    pub kept-there : (r : R) (none : A) → is_own r ≡ true → get_or table (p.place r).index none ≡ F r
    kept-there r none own =
        table-at (λ (n : ℕ). F (f.ref n)) 0 f.count (p.place r).index (p.place r).index none (omega arith) (own-inside r own) ∙ ap F (sym (own-ref r own))

    -- one object changed, and no other
    pub one-changed : (G : R → A) (r : R) (a : A) → is_own r ≡ true → a ≡ G r → ((q : R) → same_place (p.place r) (p.place q) ≡ false → F q ≡ G q)
        → slice_set table (p.place r).index a ≡ map (λ (n : ℕ). G (f.ref n)) (numbers_from 0 f.count)
    one-changed G r a own here others =
        ap (slice_set table (p.place r).index) (here ∙ ap G (own-ref r own))
        ∙ table-set (λ (n : ℕ). F (f.ref n)) (λ (n : ℕ). G (f.ref n)) 0 f.count (p.place r).index (p.place r).index (omega arith) (own-inside r own) (λ m other. others (f.ref m) (not-there r m other))

    -- if only an object that is not the core's own changes, the list stays the same
    pub none-changed : (G : R → A) (r : R) → is_own r ≡ false → ((q : R) → same_place (p.place r) (p.place q) ≡ false → F q ≡ G q) → table ≡ map (λ (n : ℕ). G (f.ref n)) (numbers_from 0 f.count)
    none-changed G r other others =
        table-within (λ (n : ℕ). F (f.ref n)) (λ (n : ℕ). G (f.ref n)) 0 f.count (λ n inside. others (f.ref n) (not-own r n other (omega (arith, inside))))

    -- the objects of a counter changed
    pub those-changed : (G : R → A) (c : CounterRef) (change : R → A → A) (none : A) → ((r : R) → cond (goes_by f c r) (change r (F r)) (F r) ≡ G r)
        → all_changed f c change none table ≡ map (λ (n : ℕ). G (f.ref n)) (numbers_from 0 f.count)
    those-changed G c change none each =
        table-within (λ (n : ℕ). changed_by f c change n (get_or table n none)) (λ (n : ℕ). G (f.ref n)) 0 f.count
        (λ n inside. ap (changed_by f c change n) (table-at (λ (m : ℕ). F (f.ref m)) 0 f.count n n none (omega arith) (omega (arith, inside))) ∙ each (f.ref n))

-- An object whose configuration refers to this counter uses no other counter.
pub member : {R X : Type 0} (core : CoreId) (counters : ℕ) (f : Family R X) (n : ℕ) (counter : CounterRef) (r : R) → IsObjectOf core counters f n counter r → IsMember core (goes_by f) f.ref n counter r
member {R} {X} core counters f n counter r is = record { here = is.here; on = (place-of-counter core counters counter is.own).ref; by = λ c. alone c (f.own (f.ref n)) is.refers }
  where
    alone : (c : CounterRef) (o : Option X) → option_map f.counter o ≡ Some counter → option_map_or (λ (x : X). same_counter c (f.counter x)) o false ≡ same_counter c counter
    alone c None refers = cc
    alone c (Some x) refers = let same : f.counter x ≡ counter = cc in ap (same_counter c) same
