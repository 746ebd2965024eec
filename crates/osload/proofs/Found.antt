-- If a text's numbers keep their limits, its plan has the same numbers. The text's names refer to objects of the plan.
use Rattle.std.proofs.Common.{◌≡◌, ℕ, ◌≤◌, ◌<◌, Bool, true, eqb, List, [], ◌∷◌, length, map, get_or, Option, Some, None, is_some, option_map, refl, sym, ap, ◌∙◌, subst, arith, zero-add}
use Rattle.std.specs.List.{All, AllByRecursion, enumerate_from, find, flat_map, list_all, slice_get}
use Rattle.std.proofs.lemmas.Bool.{Decides.nat_tests, le-leb, lt-ltb, and_parts, leb-true}
use Rattle.std.proofs.lemmas.List.{length-map, Elements.All-append, Elements.All-from_recursion, Elements.All-head, Elements.All-map, Elements.All-nil, Elements.All-tail, Folds.find_at, Folds.list_all-map, FromFn.get_or-enumerate_from, FromFn.length-enumerate_from}
use Rattle.std.proofs.{lemmas.Option.get_or_from_slice_get, lemmas.Option.slice_get-get_or, lemmas.Option.slice_get-map, lemmas.Option.slice_get_within, lemmas.Simd.map-map}
use Rattle.osbase.specs.{Objects.counter_of, Objects.object_at, Objects.same_kind, declared.objects.TheConstants.NOBODY}
use Rattle.osbase.proofs.{Same.same_kind-true, Places.passes-at}
use Rattle.osplan.specs.Limits as limits
use Rattle.osplan.specs.Limits.{CounterSizes, are_counters_within, is_between, is_core_within, is_counter_within, is_object, is_within, number_of, same_number}
use Rattle.osplan.specs.{Objects.common_names, Objects.object_count, declared.plans.TheConstants.COMMON, declared.plans.TheConstants.KINDS, Representable.are_distinct, View.core_of, View.counter_in}
use Rattle.osplan.proofs.{Found.IsFound, Within.cores-within}
use Rattle.osschema.specs.Declarations.{byte_of, common_of, declarations, declaration, declared_as, declared_by, has_name, place_of, id_of, counter_ref, counter_declared, declared_sizes, names_of}
use Rattle.osschema.specs.Shape.{common_in, objects_in, numbered}
use Rattle.osschema.proofs.{Lists.map-same, Alone.alone_if}
use Rattle.osvalidate.specs.Words.{ConfigText, Core, CoreId, CoreText, CounterRef, Declaration, Named, Object, ObjectKind, Place, Plan}
use Rattle.osvalidate.specs.Check.{core_sizes, sizes_of, numbers_of, counter_sizes}
use Rattle.osload.specs.Meaning.{core_plan, plan_of}

-- ---- numbers within their limits are bytes

abbrev pub IsByte : Option ℕ → Type 0
IsByte number = Some (byte_of number) ≡ number

pub byte-small : (n : ℕ) → n ≤ 255 → byte_of (Some n) ≡ n
byte-small n le = rw (le-leb n 255 le) refl

pub byte-at_most : (n : ℕ) → byte_of (Some n) ≤ n
byte-at_most n = grind (arith, nat_tests)

pub is-byte : (low high : ℕ) (number : Option ℕ) → is_between low high number ≡ true → high ≤ 255 → IsByte number
is-byte low high number h small = grind (arith, nat_tests)

-- ---- the cores of the plan have the text's numbers

abbrev pub is_inside : List Declaration → CoreText → Bool
is_inside objects core = is_core_within (core_sizes objects core)

pub cores-inside : (t : ConfigText) → is_within (sizes_of t) ≡ true → list_all (is_inside (declarations t)) t.cores ≡ true
cores-inside t h = sym (list_all-map is_core_within (core_sizes (declarations t)) t.cores) ∙ cores-within (sizes_of t) h

pub numbers-kept : (t : ConfigText) → is_within (sizes_of t) ≡ true → limits.numbers_of (plan_of t).cores ≡ numbers_of t.cores
numbers-kept t h = map-same (λ (c : Core). number_of c.id) (core_plan (declarations t)) (λ (core : CoreText). core.id) (is_inside (declarations t)) (λ core inside. is-byte 0 15 core.id (grind arith) (omega arith)) t.cores (cores-inside t h)

pub bytes-equal : (a b : Option ℕ) → same_number a b ≡ true → eqb (byte_of a) (byte_of b) ≡ true
bytes-equal a b same = grind (arith, nat_tests)

-- ---- what holds of each object that a text declares

-- If `P` holds of the elements of each list, it holds of the elements of the joined lists.
flat-are : {X Y : Type 0} (P : Y → Type 0) (Q : X → Type 0) (f : X → List Y) → ((x : X) → Q x → All P (f x)) → (xs : List X) → All Q xs → All P (flat_map f xs)
flat-are P Q f each [] has = All-nil P
flat-are P Q f each (x ∷ xs) has = All-append P (f x) (flat_map f xs) (each x (All-head Q x xs has)) (flat-are P Q f each xs (All-tail Q x xs has))

module _ (P : Declaration → Type 0) where
  -- If `P` holds of the object at each index, it holds of all objects of the kind.
  each-is : (id : CoreId) (kind : ObjectKind) (objects : List Named) → ((i : ℕ) (object : Named) → slice_get objects i ≡ Some object → P (declaration id kind (i, object))) → All P (declared_as id kind objects)
  each-is id kind objects each = All-map P (declaration id kind) (enumerate_from 0 objects) (λ i d lt.
      let low : i < length objects = omega (arith, length-enumerate_from 0 objects) in
      rw (get_or-enumerate_from 0 objects i d low, zero-add i) (each i (get_or objects i d.1) (slice_get-get_or objects i d.1 low)))

  -- If `P` holds of the objects of each kind, it holds of the objects of all kinds.
  kinds-are : (id : CoreId) (objects : ObjectKind → List Named) → ((kind : ObjectKind) (i : ℕ) (object : Named) → slice_get (objects kind) i ≡ Some object → P (declaration id kind (i, object))) → (kinds : List ObjectKind)
      → All P (flat_map (λ (kind : ObjectKind). declared_as id kind (objects kind)) kinds)
  kinds-are id objects each kinds = flat-are P (λ _. Unit {0}) (λ (kind : ObjectKind). declared_as id kind (objects kind)) (λ kind _. each-is id kind (objects kind) (each kind)) kinds (λ _ _ _. tt)

  -- If `P` holds of each core's objects and of those that all cores share, it holds of all the text's objects.
  all-are : (Q : CoreText → Type 0) → ((core : CoreText) → Q core → (kind : ObjectKind) (i : ℕ) (object : Named) → slice_get (objects_in kind core) i ≡ Some object → P (declaration (id_of core) kind (i, object))) → (t : ConfigText)
      → ((kind : ObjectKind) (i : ℕ) (object : Named) → slice_get (common_in kind t) i ≡ Some object → P (declaration NOBODY kind (i, object))) → AllByRecursion Q t.cores → All P (declarations t)
  all-are Q each t common has =
      All-append P (flat_map (common_of t) COMMON) (flat_map declared_by t.cores) (kinds-are NOBODY (λ kind. common_in kind t) common COMMON)
      (flat-are P Q declared_by (λ core here. kinds-are (id_of core) (λ kind. objects_in kind core) (each core here) KINDS) t.cores (All-from_recursion Q t.cores has))

  -- So `P` holds of an object that is found.
  found-is : (p : Declaration → Bool) (objects : List Declaration) (d : Declaration) → All P objects → find p objects ≡ Some d → P d
  found-is p objects d all found = let at = sym (find_at p objects) ∙ found in subst P (get_or_from_slice_get objects _ d d at) (all _ d (slice_get_within objects _ d at))

-- ---- each declared object is one of the plan

abbrev object_of : Declaration → Object
object_of d = record { kind = d.kind; place = record { core = d.core; index = byte_of (Some d.index) } }

module _ (t : ConfigText) where
  abbrev IsThere : Declaration → Type 0
  IsThere d = is_object (plan_of t) (object_of d) ≡ true

  abbrev planned : CoreText → Core
  planned core = core_plan (declarations t) core

  as-many : (core : CoreText) (kind : ObjectKind) → length (objects_in kind core) ≡ object_count kind (planned core)
  as-many core kind = grind (arith, length-map)

  common-many : (kind : ObjectKind) → length (common_in kind t) ≡ length (common_names kind (plan_of t))
  common-many kind = grind (arith, length-map)

  -- If a statement holds of each core that is found and is within its limits, it holds of all cores of a list of such.
  pub each-core : (Q : CoreText → Type 0) → ((core : CoreText) → IsFound (plan_of t).cores (planned core) → is_inside (declarations t) core ≡ true → Q core) → (cores : List CoreText)
      → AllByRecursion (IsFound (plan_of t).cores) (map planned cores) → list_all (is_inside (declarations t)) cores ≡ true → AllByRecursion Q cores
  each-core Q each [] found inside = tt
  each-core Q each (core ∷ cores) found inside =
      let parts = and_parts (is_inside (declarations t) core) (list_all (is_inside (declarations t)) cores) inside in
      (each core found.0 parts.0, each-core Q each cores found.1 parts.1)

  all-there : core_of (plan_of t) NOBODY ≡ None → AllByRecursion (λ core. IsFound (plan_of t).cores (planned core)) t.cores → All IsThere (declarations t)
  all-there alone found =
      all-are IsThere _ (λ core here kind i object is. rw here (lt-ltb _ _ (omega (arith, slice_get_within (objects_in kind core) i object is, byte-at_most i, as-many core kind)))) t
      (λ kind i object is. rw alone (lt-ltb _ _ (omega (arith, slice_get_within (common_in kind t) i object is, byte-at_most i, common-many kind)))) found

-- ---- what a name refers to

-- A name that has a place is the name of a declared object.
declared-as : (objects : List Declaration) (kind : ObjectKind) (name : List ℕ) → is_some (place_of objects kind name) ≡ true → (d : Declaration) × (find (has_name name) objects ≡ Some d) × (same_kind d.kind kind ≡ true)
declared-as objects kind name known = grind arith

-- A name that has a place refers to an object of the plan.
pub place-known : (t : ConfigText) → AllByRecursion (λ core. IsFound (plan_of t).cores (core_plan (declarations t) core)) t.cores → core_of (plan_of t) NOBODY ≡ None → (kind : ObjectKind) (name : List ℕ) (place : Place) → place_of (declarations t) kind name ≡ Some place
    → is_object (plan_of t) (record { kind = kind; place = place }) ≡ true
place-known t found alone kind name place is =
    let d = declared-as (declarations t) kind name (ap is_some is) in
    let at : Some (object_of d.0).place ≡ Some place = rw (d.1, d.2) at is in
    let here : (object_of d.0).place ≡ place = cc in
    let same : object_of d.0 ≡ object_at kind place = ap (λ (k : ObjectKind). object_at k (object_of d.0).place) (same_kind-true d.0.kind kind d.2) ∙ ap (object_at kind) here in
    ap (is_object (plan_of t)) (sym same) ∙ found-is (IsThere t) (has_name name) (declarations t) d.0 (all-there t alone found) d.1

-- ---- the counters that a text names are those of a configuration that has the text's counters

-- The text's core is one of the configuration, and has the same counters.
pub record HasCounters (plan : Plan) (text : CoreText) : Type 0 where
  pub core : Core
  pub found : core_of plan (id_of text) ≡ Some core
  pub same : map limits.counter_sizes core.counters ≡ map counter_sizes text.counters
  pub within : are_counters_within (map counter_sizes text.counters) ≡ true

-- A declared counter has the numbers of the configuration's counter at its place. They are within their limits.
abbrev IsSized : Plan → Declaration → ObjectKind → Type 0
IsSized plan d ObjectKind.Counter = (option_map limits.counter_sizes (counter_in plan (counter_of (object_of d).place)) ≡ Some (declared_sizes d)) × (is_counter_within (declared_sizes d) ≡ true)
IsSized plan d kind = Unit {0}

abbrev named_sizes : Named → CounterSizes
named_sizes named = record { max = named.max; min = named.min }

core-sized : (plan : Plan) (text : CoreText) → HasCounters plan text → (kind : ObjectKind) (i : ℕ) (object : Named) → slice_get (objects_in kind text) i ≡ Some object → IsSized plan (declaration (id_of text) kind (i, object)) kind
core-sized plan text has ObjectKind.Counter i object is =
    let here : slice_get (map counter_sizes text.counters) i ≡ Some (named_sizes object) = ap (λ (sizes : List CounterSizes). slice_get sizes i) (sym (map-map named_sizes numbered text.counters)) ∙ slice_get-map named_sizes (map numbered text.counters) i ∙ ap (option_map named_sizes) is in
    let within = and_parts _ (list_all is_counter_within (map counter_sizes text.counters)) has.within in
    let low : i ≤ 255 = omega (arith, leb-true _ 8 within.0, slice_get_within _ i (named_sizes object) here) in (
      rw (byte-small i low, has.found) (sym (slice_get-map limits.counter_sizes has.core.counters i) ∙ ap (λ (sizes : List CounterSizes). slice_get sizes i) has.same ∙ here),
      passes-at is_counter_within (map counter_sizes text.counters) i (named_sizes object) within.1 here,
    )
core-sized plan text has kind i object is = tt

common-sized : (plan : Plan) (t : ConfigText) (kind : ObjectKind) (i : ℕ) (object : Named) → slice_get (common_in kind t) i ≡ Some object → IsSized plan (declaration NOBODY kind (i, object)) kind
common-sized plan t ObjectKind.Counter i object is = cc
common-sized plan t kind i object is = tt

-- ---- the counter of a name

-- The counter of a name, its numbers and its counter in the configuration.
pub record NamedCounter (plan : Plan) (objects : List Declaration) (name : List ℕ) (counter : CounterRef) : Type 0 where
  pub sizes : CounterSizes
  pub declared : option_map declared_sizes (counter_declared objects name) ≡ Some sizes
  pub planned : option_map limits.counter_sizes (counter_in plan counter) ≡ Some sizes
  pub within : is_counter_within sizes ≡ true

pub named-counter : (plan : Plan) (t : ConfigText) (id : CoreId) (name : List ℕ) → are_distinct (names_of (declarations t)) ≡ true → AllByRecursion (HasCounters plan) t.cores → is_some (place_of (declarations t) ObjectKind.Counter name) ≡ true
    → NamedCounter plan (declarations t) name (counter_ref (declarations t) id name)
named-counter plan t id name apart has known =
    let objects = declarations t in
    let d = declared-as objects ObjectKind.Counter name known in
    let once = alone_if objects name apart (ap is_some d.1) in
    let sized = λ (d : Declaration). IsSized plan d d.kind in
    let is_sized = found-is sized (has_name name) objects d.0 (all-are sized (HasCounters plan) (core-sized plan) t (common-sized plan t) has) d.1 in
    let counter : IsSized plan d.0 ObjectKind.Counter = subst (IsSized plan d.0) (same_kind-true d.0.kind ObjectKind.Counter d.2) is_sized in
    record { sizes = declared_sizes d.0; declared = rw (once, d.1, d.2) refl; planned = rw (d.1, d.2) counter.0; within = counter.1 }
