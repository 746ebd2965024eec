-- The named objects of a configuration: each has a name in form that no other has, and is found by it.
use Rattle.std.proofs.Common.{◌≡◌, ℕ, zero, suc, ◌+◌, ◌<◌, ◌≤◌, ◌⊎◌, nat_lt, Bool, true, List, [], ◌∷◌, ◌++◌, length, map, get_or, Option, Some, None, option_map, slice_get, IsTrue, inl, inr, refl, sym, ap, ◌∙◌, arith}
use Rattle.std.specs.List.{AllByRecursion, find, flat_map, list_all, list_any}
use Rattle.std.specs.{Option.option_map_or, Str.bytes_eq}
use Rattle.std.proofs.lemmas.Bool.{and_from, and_parts, cases_eq, lt-ltb, ltb-true}
use Rattle.std.proofs.{lemmas.List.length-map, lemmas.List.map-append, lemmas.List.Folds.list_all-map, lemmas.Option.slice_get-get_or, lemmas.Simd.map-map, lemmas.Slice.Eq.bytes_eq-Decides}
use Rattle.osbase.proofs.{Places.passes-at, Same.same_core-true, Same.same_kind-self, Same.same_kind-true}
use Rattle.osbase.specs.{History.same_core, Names.is_name, declared.objects.TheConstants.NOBODY, Sets.numbers_from, declared.objects.Object.Object, declared.objects.ObjectKind.ObjectKind, declared.references.CoreId.CoreId, declared.references.ModeId.ModeId, declared.references.SpinlockId.SpinlockId}
use Rattle.osbase.specs.Objects.{mode_object, mode_of, place_on, same_kind, spinlock_object, spinlock_of}
use Rattle.ossyntax.proofs.RoundTrip.{chained}
use Rattle.osplan.proofs.{Found.IsFound, Found.each-found, ModeObjects.mode-named, ModeObjects.nobody, ModeObjects.there-mode, SpinlockObjects.there-spinlock}
use Rattle.osplan.proofs.Tests.{all-append, all-flat, all-weaker, find-holds, find-passes}
use Rattle.osplan.proofs.Within.{core-text-parts, few-modes, few-objects, few-spinlocks, fits, limit-parts, names-formed, text-parts}
use Rattle.osplan.specs.Representable.{all_common_names, are_distinct, declared_names, is_core_representable, is_representable, is_mode_representable, object_names}
use Rattle.osplan.specs.Limits.{core_sizes, is_core_within, is_mode, is_object, is_spinlock, is_within_limits, sizes_of}
use Rattle.osplan.specs.Names.{name_of, name_of_mode, spinlock_name}
use Rattle.osplan.specs.Objects.{common_names, is_common, names_in, object_count}
use Rattle.osplan.specs.{View.core_of, declared.plans.Core.Core, declared.plans.Plan.Plan, declared.plans.Spinlock.Spinlock, declared.plans.TheConstants.COMMON, declared.plans.TheConstants.KINDS}
use Rattle.oslog.specs.Naming.{HasFew, HasFewCommon, all_named, common_in, place_of_kind, mode_named, name_of_object, named_by, named_in, object_under, objects_in, objects_under, place_named, spinlock_named}

-- ---- lists by their places

-- if `at` gives the element at each place of a list, mapping it over the places gives the list
by-place : {X : Type 0} (at : ℕ → X) (first : ℕ) (xs : List X) → ((k n : ℕ) (x : X) → n ≡ first + k → slice_get xs k ≡ Some x → at n ≡ x) → map at (numbers_from first (length xs)) ≡ xs
by-place at first [] same = refl
by-place at first (x ∷ xs) same =
    let later = by-place at (first + 1) xs (λ k n y is there. same (suc k) n y (omega (arith, is)) there) in
    rw (same 0 first x (omega arith) refl, later)

-- if the object at each place passes a test, all of them pass it
all-places : (p : Object → Bool) (at : ℕ → Object) (first count : ℕ) → ((n : ℕ) → n < first + count → p (at n) ≡ true) → list_all p (map at (numbers_from first count)) ≡ true
all-places p at first zero each = refl
all-places p at first (suc count) each = and_from _ _ (each first (omega arith)) (all-places p at (first + 1) count (λ n lt. each n (omega (arith, lt))))

flat-each : {X Y : Type 0} (p : Y → Bool) (f : X → List Y) → ((x : X) → list_all p (f x) ≡ true) → (xs : List X) → list_all p (flat_map f xs) ≡ true
flat-each p f each [] = refl
flat-each p f each (x ∷ xs) = all-append p (f x) (flat_map f xs) (each x) (flat-each p f each xs)

-- ---- if no name occurs twice, each object of a list is found by its name

abbrev Stands : List Object → Object → Type 0
Stands [] n = ⊥
Stands (x ∷ xs) n = (x ≡ n) ⊎ Stands xs n

module _ (name : Object → List ℕ) where
  abbrev has : List ℕ → Object → Bool
  has w n = bytes_eq (name n) w

  stands-any : (xs : List Object) (n : Object) → Stands xs n → list_any (λ later. bytes_eq later (name n)) (map name xs) ≡ true
  stands-any [] n among = absurd among
  stands-any (x ∷ xs) n among = grind (arith, (bytes_eq-Decides (name n) (name n)).1, stands-any xs n)

  stands-found : (xs : List Object) (n : Object) → are_distinct (map name xs) ≡ true → Stands xs n → find (has (name n)) xs ≡ Some n
  stands-found [] n distinct among = absurd among
  stands-found (x ∷ xs) n distinct (inl is) = rw (ap (has (name n)) is ∙ (bytes_eq-Decides (name n) (name n)).1 refl) (ap Some is)
  stands-found (x ∷ xs) n distinct (inr later) =
      let again : name x ≡ name n → list_any (λ later. bytes_eq later (name x)) (map name xs) ≡ true = λ is. rw is (stands-any xs n later) in
      grind (arith, again, (bytes_eq-Decides (name x) (name n)).0, stands-found xs n)

stands-front : (front back : List Object) (n : Object) → Stands front n → Stands (front ++ back) n
stands-front [] back n among = absurd among
stands-front (x ∷ front) back n among = grind (arith, stands-front front back n)

stands-back : (front back : List Object) (n : Object) → Stands back n → Stands (front ++ back) n
stands-back [] back n among = among
stands-back (x ∷ front) back n among = inr (stands-back front back n among)

-- if an object's index is below the number of those of its kind, it is among them
stands-at : (at : ℕ → Object) (first count k : ℕ) → first ≤ k → k < first + count → Stands (map at (numbers_from first count)) (at k)
stands-at at first zero k least most = absurd (omega arith)
stands-at at first (suc count) k least most = grind (arith, cases_eq first k, stands-at at (first + 1) count k)

stands-kind : (objects : ObjectKind → List Object) (kinds : List ObjectKind) (kind : ObjectKind) (n : Object) → list_any (λ (k : ObjectKind). same_kind k kind) kinds ≡ true → Stands (objects kind) n → Stands (flat_map objects kinds) n
stands-kind objects [] kind n there among = cc
stands-kind objects (k ∷ kinds) kind n there among =
    grind (arith, same_kind-true k kind, stands-front (objects k) (flat_map objects kinds) n, stands-back (objects k) (flat_map objects kinds) n, stands-kind objects kinds kind n)

stands-under : (object : Object) (id : CoreId) (count : ℕ) → object.place.core ≡ id → object.place.index < count → Stands (objects_under id object.kind count) object
stands-under object id count same lt = rw (← same) (stands-at (object_under object.place.core object.kind) 0 count object.place.index (omega arith) (omega (arith, lt)))

stands-core : (cores : List Core) (id : CoreId) (core : Core) (n : Object) → find (λ (c : Core). same_core c.id id) cores ≡ Some core → Stands (named_in core) n → Stands (flat_map named_in cores) n
stands-core [] id core n found among = cc
stands-core (c ∷ cores) id core n found among =
    grind (arith, stands-front (named_in c) (flat_map named_in cores) n, stands-back (named_in c) (flat_map named_in cores) n, stands-core cores id core n)

-- ---- the names of a core

-- a core has as many names of a kind as objects of that kind
as-many : (core : Core) (kind : ObjectKind) → length (names_in kind core) ≡ object_count kind core
as-many core kind = grind (arith, length-map)

module _ (plan : Plan) where
  -- the objects of a kind have these names, if each has the name at its index
  under-names : (id : CoreId) (kind : ObjectKind) (names : List (List ℕ)) → ((k : ℕ) (name : List ℕ) → slice_get names k ≡ Some name → name_of plan kind (place_on id k) ≡ name) → (count : ℕ) → count ≡ length names → map (name_of_object plan) (objects_under id kind count) ≡ names
  under-names id kind names same count many =
      rw (map-map (name_of_object plan) (object_under id kind), many)
      (by-place (λ i. name_of_object plan (object_under id kind i)) 0 names (λ k n name is there. let here : n ≡ k = omega (arith, is) in rw here (same k name there)))

  -- if this holds of each kind, it holds of all kinds
  kinds-names : (objects : ObjectKind → List Object) (names : ObjectKind → List (List ℕ)) → ((kind : ObjectKind) → map (name_of_object plan) (objects kind) ≡ names kind) → (kinds : List ObjectKind) → map (name_of_object plan) (flat_map objects kinds) ≡ flat_map names kinds
  kinds-names objects names same [] = refl
  kinds-names objects names same (kind ∷ kinds) = rw (map-append, same kind, kinds-names objects names same kinds)

  -- the objects of a core have its names
  core-names : (core : Core) (kind : ObjectKind) → IsFound plan.cores core → map (name_of_object plan) (objects_in core kind) ≡ names_in kind core
  core-names core kind found = under-names core.id kind (names_in kind core) (λ k name is. rw (found, is)) (object_count kind core) (sym (as-many core kind))

  cores-names : (cores : List Core) → AllByRecursion (IsFound plan.cores) cores → map (name_of_object plan) (flat_map named_in cores) ≡ flat_map object_names cores
  cores-names [] found = refl
  cores-names (core ∷ cores) found =
      let here = kinds-names (objects_in core) (λ kind. names_in kind core) (λ kind. core-names core kind found.0) KINDS in
      rw (map-append (name_of_object plan) (named_in core) (flat_map named_in cores), here, cores-names cores found.1)

  -- the objects that all cores have in common have the common names
  common-each : (alone : core_of plan NOBODY ≡ None) (kind : ObjectKind) → map (name_of_object plan) (common_in plan kind) ≡ common_names kind plan
  common-each alone kind = under-names NOBODY kind (common_names kind plan) (λ k name is. rw (alone, is)) (length (common_names kind plan)) refl

  -- if the objects at all places pass a test, the objects of all kinds pass it
  kinds-pass : (p : Object → Bool) (id : CoreId) (count : ObjectKind → ℕ) → ((kind : ObjectKind) (i : ℕ) → i < count kind → p (object_under id kind i) ≡ true) → (kinds : List ObjectKind) → list_all p (flat_map (λ (kind : ObjectKind). objects_under id kind (count kind)) kinds) ≡ true
  kinds-pass p id count each kinds =
      flat-each p (λ (kind : ObjectKind). objects_under id kind (count kind)) (λ kind. all-places p (object_under id kind) 0 (count kind) (λ n lt. each kind n (omega (arith, lt)))) kinds

  cores-pass : (p : Object → Bool) (cores : List Core) → ((core : Core) → IsFound plan.cores core → (kind : ObjectKind) (i : ℕ) → i < object_count kind core → p (object_under core.id kind i) ≡ true) → AllByRecursion (IsFound plan.cores) cores → list_all p (flat_map named_in cores) ≡ true
  cores-pass p [] each found = refl
  cores-pass p (core ∷ cores) each found = all-append p (named_in core) (flat_map named_in cores) (kinds-pass p core.id (λ kind. object_count kind core) (each core found.0) KINDS) (cores-pass p cores each found.1)

-- ---- there are so few objects that a byte holds each index

pub few : (plan : Plan) → IsTrue (is_within_limits plan) → (i : ℕ) (core : Core) → i < length plan.cores → core ≡ get_or plan.cores i core → HasFew core
few plan limits i core within is =
    let at : slice_get plan.cores i ≡ Some core = slice_get-get_or plan.cores i core within ∙ ap Some (sym is) in
    few-objects core (fits plan core (passes-at (λ (c : Core). is_core_within (core_sizes plan c)) plan.cores i core (limit-parts plan limits).cores at))

pub few-common : (plan : Plan) → IsTrue (is_within_limits plan) → HasFewCommon plan
few-common plan limits kind =
    let sizes = (limit-parts plan limits).sizes in
    grind (arith, few-modes (sizes_of plan) sizes, few-spinlocks (sizes_of plan) sizes, length-map plan.spinlocks (λ (spinlock : Spinlock). spinlock.name))

-- ---- all named objects

module _ (plan : Plan) (limits : IsTrue (is_within_limits plan)) (said : IsTrue (is_representable plan)) where
  found : AllByRecursion (IsFound plan.cores) plan.cores
  found = each-found plan.cores (limit-parts plan limits).distinct

  alone : core_of plan NOBODY ≡ None
  alone = nobody plan (limit-parts plan limits).cores

  names-are : map (name_of_object plan) (all_named plan) ≡ declared_names plan
  names-are =
      let common = kinds-names plan (common_in plan) (λ kind. common_names kind plan) (common-each plan alone) COMMON in
      rw (map-append (name_of_object plan) (flat_map (common_in plan) COMMON) (flat_map named_in plan.cores), common, cores-names plan plan.cores found)

  all-formed : list_all is_name (declared_names plan) ≡ true
  all-formed =
      all-append is_name (all_common_names plan) (flat_map object_names plan.cores) (flat-each is_name (λ (kind : ObjectKind). common_names kind plan) common COMMON)
      (all-flat is_name object_names plan.cores (all-weaker is_core_representable (λ (core : Core). list_all is_name (object_names core)) each plan.cores (text-parts plan said).cores))
    where
      common : (kind : ObjectKind) → list_all is_name (common_names kind plan) ≡ true
      common ObjectKind.Mode = all-weaker is_mode_representable is_name (λ name h. (and_parts (is_name name) _ h).0) plan.modes (text-parts plan said).modes
      common ObjectKind.Spinlock = list_all-map is_name (λ (spinlock : Spinlock). spinlock.name) plan.spinlocks ∙ (text-parts plan said).spinlocks
      common kind = refl

      each : (core : Core) → is_core_representable core ≡ true → list_all is_name (object_names core) ≡ true
      each core is = flat-each is_name (λ (kind : ObjectKind). names_in kind core) (names-formed core (core-text-parts core is)) KINDS

  all-there : list_all (is_object plan) (all_named plan) ≡ true
  all-there =
      all-append (is_object plan) (flat_map (common_in plan) COMMON) (flat_map named_in plan.cores)
      (kinds-pass plan (is_object plan) NOBODY (λ kind. length (common_names kind plan)) (λ kind i lt. rw alone (lt-ltb i (length (common_names kind plan)) lt)) COMMON)
      (cores-pass plan (is_object plan) plan.cores (λ core is kind i lt. rw is (lt-ltb i (object_count kind core) lt)) found)

  -- What a name refers to is an object of the configuration, and the name is in form.
  pub named-there : (w : List ℕ) (n : Object) → named_by plan w ≡ Some n → is_object plan n ≡ true
  named-there w n e = find-passes (λ (n : Object). bytes_eq (name_of_object plan n) w) (is_object plan) (all_named plan) n all-there e

  pub named-formed : (w : List ℕ) (n : Object) → named_by plan w ≡ Some n → is_name w ≡ true
  named-formed w n e =
      ap is_name (sym ((bytes_eq-Decides (name_of_object plan n) w).0 (find-holds (λ (n : Object). bytes_eq (name_of_object plan n) w) (all_named plan) n e)))
      ∙ find-passes (λ (n : Object). bytes_eq (name_of_object plan n) w) (λ (n : Object). is_name (name_of_object plan n)) (all_named plan) n
      (sym (list_all-map is_name (name_of_object plan) (all_named plan)) ∙ ap (list_all is_name) names-are ∙ all-formed) e

  -- Each object of the configuration has a name, whether it belongs to one core or all cores have it in common.
  in-kinds : (core : Core) (kind : ObjectKind) (i : ℕ) → i < object_count kind core → list_any (λ (k : ObjectKind). same_kind k kind) KINDS ≡ true
  in-kinds core kind i lt = grind arith

  in-common : (kind : ObjectKind) (i : ℕ) → i < length (common_names kind plan) → list_any (λ (k : ObjectKind). same_kind k kind) COMMON ≡ true
  in-common kind i lt = grind arith

  object-stands : (object : Object) → is_object plan object ≡ true → Stands (all_named plan) object
  object-stands object is = by (core_of plan object.place.core) refl is
    where
      by : (o : Option Core) → core_of plan object.place.core ≡ o → option_map_or (λ (c : Core). nat_lt object.place.index (object_count object.kind c)) o (is_common plan object) ≡ true → Stands (all_named plan) object
      by None none is =
          let count = length (common_names object.kind plan) in
          let parts = and_parts (same_core object.place.core NOBODY) (nat_lt object.place.index count) is in
          let lt = ltb-true object.place.index count parts.1 in
          let under = stands-under object NOBODY count (same_core-true object.place.core NOBODY parts.0) lt in
          stands-front (flat_map (common_in plan) COMMON) (flat_map named_in plan.cores) object (stands-kind (common_in plan) COMMON object.kind object (in-common object.kind object.place.index lt) under)
      by (Some core) here is =
          let same = same_core-true core.id object.place.core (find-holds (λ (c : Core). same_core c.id object.place.core) plan.cores core here) in
          let lt = ltb-true object.place.index (object_count object.kind core) is in
          let under = stands-under object core.id (object_count object.kind core) (sym same) lt in
          let among = stands-kind (objects_in core) KINDS object.kind object (in-kinds core object.kind object.place.index lt) under in
          stands-back (flat_map (common_in plan) COMMON) (flat_map named_in plan.cores) object (stands-core plan.cores object.place.core core object here among)

  -- The name of each object of the configuration refers to that object.
  pub place-found : (object : Object) → is_object plan object ≡ true → place_named plan object.kind (name_of plan object.kind object.place) ≡ Some object.place
  place-found object is =
      let found = stands-found (name_of_object plan) (all_named plan) object (ap are_distinct names-are ∙ (text-parts plan said).names) (object-stands object is) in
      rw (found, same_kind-self object.kind)

  -- So the name of an object of the configuration is in form.
  pub object-formed : (object : Object) → is_object plan object ≡ true → is_name (name_of plan object.kind object.place) ≡ true
  object-formed object is =
      let name = name_of plan object.kind object.place in
      let c = chained (place_of_kind object.kind) (named_by plan name) object.place (place-found object is) in
      named-formed name c.0 c.1

  -- The same holds for a spinlock, and for a mode.
  pub spinlock-found : (spinlock : SpinlockId) → is_spinlock plan spinlock ≡ true → spinlock_named plan (spinlock_name plan spinlock) ≡ Some spinlock
  spinlock-found spinlock is = ap (option_map spinlock_of) (place-found (spinlock_object spinlock) (there-spinlock plan alone spinlock is))

  pub spinlock-formed : (spinlock : SpinlockId) → is_spinlock plan spinlock ≡ true → is_name (spinlock_name plan spinlock) ≡ true
  spinlock-formed spinlock is = object-formed (spinlock_object spinlock) (there-spinlock plan alone spinlock is)

  pub mode-found : (mode : ModeId) → is_mode plan mode ≡ true → mode_named plan (name_of_mode plan mode) ≡ Some mode
  mode-found mode is = ap (mode_named plan) (sym (mode-named plan alone mode)) ∙ ap (option_map mode_of) (place-found (mode_object mode) (there-mode plan alone mode is))
