-- An object's name refers to the object, since no other object has the name.
use Rattle.std.proofs.Common.{◌≡◌, ℕ, zero, suc, ◌+◌, ◌≤◌, true, not, List, [], ◌∷◌, length, map, get_or, Option, Some, option_and_then, refl, sym, ap, ◌∙◌, subst, arith, ◌<◌, nat_lt, None, option_map, unwrap_or, IsTrue, is_some}
use Rattle.std.specs.{List.list_any, List.enumerate_from, List.find, List.flat_map, List.slice_get, List.list_all, List.Contains, List.position_or_len, Str.bytes_eq, Option.option_map_or}
use Rattle.std.proofs.lemmas.Bool.{and_parts, not-true, false_from_ne_true, false≢true, eqb-true, ltb-true}
use Rattle.std.proofs.lemmas.{List.length-map, List.map-id, List.get_or-map, Simd.map-map, Slice.Eq.bytes_eq-Decides, List.Folds.flat_map-map, List.Folds.list_all-map, List.Folds.find_at, Option.slice_get-map, Option.slice_get-get_or}
use Rattle.std.proofs.lemmas.{List.Elements.Contains-append_left, List.Elements.Contains-append_right, List.FromFn.get_or-enumerate_from, List.FromFn.length-enumerate_from, Option.get_or_from_slice_get, Option.slice_get_within}
use Rattle.osvalidate.specs.Words.{Core, CoreId, Declaration, Named, ObjectKind, Plan, Object, Spinlock}
use Rattle.osbase.specs.{History.same_core, Objects.same_kind, declared.objects.TheConstants.NOBODY, Names.is_name}
use Rattle.osbase.proofs.{Same.same_core-true, Same.same_kind-self, Places.passes-at}
use Rattle.ossyntax.proofs.Operations.{IsNamed}
use Rattle.osplan.specs.{declared.plans.TheConstants.COMMON, declared.plans.TheConstants.KINDS, View.core_of, Limits.is_object, Limits.is_within_limits, Limits.sizes_of, Names.name_of}
use Rattle.osplan.specs.Representable.{are_distinct, declared_names, is_core_representable, is_representable, is_mode_representable}
use Rattle.osplan.specs.Objects.{common_names, is_common, names_in, object_count}
use Rattle.osplan.proofs.{Tests.all-weaker, Tests.find-holds, Tests.find-passes, Within.core-fits, Within.core-text-parts, Within.few-modes, Within.few-objects, Within.few-spinlocks, Within.limit-parts, Within.names-formed, Within.text-parts}
use Rattle.osschema.specs.Declarations.{common_of, id_of, declaration, declarations, declared_as, declared_by, has_name, names_of, place_in, place_of}
use Rattle.osschema.specs.Shape.{common_in, objects_in, unnumbered}
use Rattle.osschema.proofs.{Indexing.among, Naming.names-text}
use Rattle.osload.proofs.Found.{byte-small}
use Rattle.oswrite.proofs.Said.{config_as_text, core_as_text}

-- If no name occurs twice, each object is found by its name.
stands-found : (objects : List Declaration) (d : Declaration) → are_distinct (names_of objects) ≡ true → Contains objects d → find (has_name d.name) objects ≡ Some d
stands-found [] d distinct here = absurd (omega (arith, here.1))
stands-found (x ∷ xs) d distinct (zero, within, is) = rw (ap (has_name d.name) is ∙ (bytes_eq-Decides d.name d.name).1 refl) (ap Some is)
stands-found (x ∷ xs) d distinct (suc k, within, is) =
    let parts = and_parts (not (list_any (λ later. bytes_eq later x.name) (names_of xs))) _ distinct in
    let rest = stands-found xs d parts.1 (k, omega arith, is) in
    let other = false_from_ne_true (has_name d.name x) (λ same. false≢true (sym (not-true _ parts.0) ∙ among x.name xs ∙ ap (λ n. is_some (find (has_name n) xs)) ((bytes_eq-Decides x.name d.name).0 same) ∙ ap is_some rest)) in
    rw other rest

-- ---- what is among all that a text declares

-- what `f` makes of one element of a list is among what it makes of all elements
flat-has : {X Y : Type 0} (f : X → List Y) (xs : List X) (i : ℕ) (x : X) (y : Y) → slice_get xs i ≡ Some x → Contains (f x) y → Contains (flat_map f xs) y
flat-has f [] i x y is has = cc
flat-has f (first ∷ xs) zero x y is has = let same : x ≡ first = cc in Contains-append_left (f first) (flat_map f xs) y (subst (λ x. Contains (f x) y) same has)
flat-has f (first ∷ xs) (suc i) x y is has = Contains-append_right (f first) (flat_map f xs) y (flat-has f xs i x y is has)

-- an object is among those of its kind at its index, and among those of all kinds
kind-has : (id : CoreId) (objects : ObjectKind → List Named) (kinds : List ObjectKind) (kind : ObjectKind) (i : ℕ) (object : Named) → find (λ k. same_kind k kind) kinds ≡ Some kind → slice_get (objects kind) i ≡ Some object
    → Contains (flat_map (λ kind. declared_as id kind (objects kind)) kinds) (declaration id kind (i, object))
kind-has id objects kinds kind i object there is =
    let within = slice_get_within (objects kind) i object is in
    let indexed = enumerate_from 0 (objects kind) in
    let many : length indexed ≡ length (objects kind) = length-enumerate_from 0 (objects kind) in
    let index : 0 + i ≡ i = omega arith in
    let here : get_or indexed i (i, object) ≡ (i, object) = get_or-enumerate_from 0 (objects kind) i (i, object) within ∙ rw (index, get_or_from_slice_get (objects kind) i object object is) refl in
    flat-has (λ kind. declared_as id kind (objects kind)) kinds (position_or_len (λ k. same_kind k kind) kinds) kind _ (sym (find_at (λ k. same_kind k kind) kinds) ∙ there)
    (i, omega (arith, within, many, length-map indexed (declaration id kind)), get_or-map (declaration id kind) indexed i (i, object) _ (omega arith) ∙ ap (declaration id kind) here)

module _ (plan : Plan) where
  core-has : (core : Core) (kind : ObjectKind) (i : ℕ) (object : Named) → slice_get (objects_in kind (core_as_text plan core)) i ≡ Some object → Contains (declared_by (core_as_text plan core)) (declaration (id_of (core_as_text plan core)) kind (i, object))
  core-has core ObjectKind.Mode i object is = cc
  core-has core ObjectKind.Spinlock i object is = cc
  core-has core kind i object is = kind-has (id_of (core_as_text plan core)) (λ kind. objects_in kind (core_as_text plan core)) KINDS kind i object refl is

  common-has : (kind : ObjectKind) (i : ℕ) (object : Named) → slice_get (common_in kind (config_as_text plan)) i ≡ Some object → Contains (flat_map (common_of (config_as_text plan)) COMMON) (declaration NOBODY kind (i, object))
  common-has ObjectKind.Mode i object is = kind-has NOBODY (λ kind. common_in kind (config_as_text plan)) COMMON ObjectKind.Mode i object refl is
  common-has ObjectKind.Spinlock i object is = kind-has NOBODY (λ kind. common_in kind (config_as_text plan)) COMMON ObjectKind.Spinlock i object refl is
  common-has kind i object is = cc

  -- ---- the names that a text declares are the configuration's

  kind-named : (core : Core) (kind : ObjectKind) → names_in kind core ≡ map (λ (named : Named). named.name) (objects_in kind (core_as_text plan core))
  kind-named core kind = grind (arith, map-map)

  common-said : (kind : ObjectKind) → common_names kind plan ≡ map (λ (named : Named). named.name) (common_in kind (config_as_text plan))
  common-said ObjectKind.Mode = simp (map-map, map-id)
  common-said kind = grind (arith, map-map)

  names-said : declared_names plan ≡ names_of (declarations (config_as_text plan))
  names-said = (simp (map-map, map-id, flat_map-map)) ∙ sym (names-text (config_as_text plan))

  kind-many : (core : Core) (kind : ObjectKind) → length (names_in kind core) ≡ object_count kind core
  kind-many core kind = grind (arith, length-map)

-- ---- what the name of an object refers to

module _ (plan : Plan) (inside : IsTrue (is_within_limits plan)) (sayable : IsTrue (is_representable plan)) where
  abbrev declared : List Declaration
  declared = declarations (config_as_text plan)

  -- No name occurs twice.
  pub apart : are_distinct (names_of declared) ≡ true
  apart = ap are_distinct (sym (names-said plan)) ∙ (text-parts plan sayable).names

  -- If the objects of a kind have these names and are all declared, the name of each is in form and refers to it.
  named-by : (object : Object) (id : CoreId) (names : List (List ℕ)) (objects : List Named) → id ≡ object.place.core → name_of plan object.kind object.place ≡ unwrap_or (slice_get names object.place.index) []
      → names ≡ map (λ (o : Named). o.name) objects → list_all is_name names ≡ true → object.place.index < length names → object.place.index ≤ 255
      → ((o : Named) → slice_get objects object.place.index ≡ Some o → Contains declared (declaration id object.kind (object.place.index, o))) → IsNamed (place_of declared) (name_of plan) object
  named-by object id names objects on is named formed within low stands =
      let i = object.place.index in
      let o = get_or objects i (unnumbered []) in
      let here : slice_get objects i ≡ Some o = slice_get-get_or objects i (unnumbered []) (omega (arith, within, ap length named ∙ length-map objects (λ (o : Named). o.name))) in
      let name : slice_get names i ≡ Some o.name = ap (λ (names : List (List ℕ)). slice_get names i) named ∙ slice_get-map (λ (o : Named). o.name) objects i ∙ ap (option_map (λ (o : Named). o.name)) here in
      let called : name_of plan object.kind object.place ≡ o.name = is ∙ ap (λ (o : Option (List ℕ)). unwrap_or o []) name in
      record {
        in_form = ap is_name called ∙ passes-at is_name names i o.name formed name;
        found = ap (place_of declared object.kind) called ∙ ap (option_and_then (place_in object.kind)) (stands-found declared _ apart (stands o here)) ∙ rw (same_kind-self object.kind, byte-small i low, on) refl;
      }

  common-fits : (kind : ObjectKind) → (list_all is_name (common_names kind plan) ≡ true) × (length (common_names kind plan) ≤ 255)
  common-fits ObjectKind.Mode =
      let few = few-modes (sizes_of plan) (limit-parts plan inside).sizes in
      (all-weaker is_mode_representable is_name (λ name h. (and_parts (is_name name) _ h).0) plan.modes (text-parts plan sayable).modes, omega (arith, few))
  common-fits ObjectKind.Spinlock =
      let few = few-spinlocks (sizes_of plan) (limit-parts plan inside).sizes in
      let name = λ (spinlock : Spinlock). spinlock.name in
      (list_all-map is_name name plan.spinlocks ∙ (text-parts plan sayable).spinlocks, omega (arith, few, length-map plan.spinlocks name))
  common-fits kind = (refl, omega arith)

  named-if : (object : Object) (o : Option Core) → core_of plan object.place.core ≡ o → option_map_or (λ (c : Core). nat_lt object.place.index (object_count object.kind c)) o (is_common plan object) ≡ true → IsNamed (place_of declared) (name_of plan) object
  named-if object None is known =
      let kind = object.kind in
      let index = object.place.index in
      let t = config_as_text plan in
      let names = common_names kind plan in
      let parts = and_parts (same_core object.place.core NOBODY) (nat_lt index (length names)) known in
      let within = ltb-true index (length names) parts.1 in
      let fits = common-fits kind in
      named-by object NOBODY names (common_in kind t) (sym (same_core-true object.place.core NOBODY parts.0)) (rw (is, parts.0) refl) (common-said plan kind) fits.0 within (omega (arith, within, fits.1))
      (λ o here. Contains-append_left (flat_map (common_of t) COMMON) (flat_map declared_by t.cores) _ (common-has plan kind index o here))
  named-if object (Some core) is known =
      let kind = object.kind in
      let index = object.place.index in
      let t = config_as_text plan in
      let text = core_as_text plan core in
      let test = λ (c : Core). same_core c.id object.place.core in
      let parts = core-text-parts core (find-passes test is_core_representable plan.cores core (text-parts plan sayable).cores is) in
      let fits = core-fits plan object.place.core core inside is in
      let within = ltb-true index (object_count kind core) known in
      let number = byte-small core.id.number (omega (arith, ltb-true core.id.number 16 fits.number)) ∙ eqb-true core.id.number object.place.core.number (find-holds test plan.cores core is) in
      named-by object (id_of text) (names_in kind core) (objects_in kind text) (ap (λ (n : ℕ). let id : CoreId = record { number = n } in id) number) (rw is refl) (kind-named plan core kind)
      (names-formed core parts kind) (omega (arith, within, kind-many plan core kind)) (omega (arith, within, few-objects core fits kind, kind-many plan core kind))
      (λ o here. Contains-append_right (flat_map (common_of t) COMMON) (flat_map declared_by t.cores) _ (rw (flat_map-map declared_by (core_as_text plan) plan.cores)
      (flat-has (λ core. declared_by (core_as_text plan core)) plan.cores (position_or_len test plan.cores) core _ (sym (find_at test plan.cores) ∙ is) (core-has plan core kind index o here))))

  -- The name of each object of the configuration is in form, and refers to that object.
  pub object-named : (object : Object) → is_object plan object ≡ true → IsNamed (place_of declared) (name_of plan) object
  object-named object known = named-if object (core_of plan object.place.core) refl known
