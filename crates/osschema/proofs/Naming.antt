-- The names that a text declares are those of its objects. They are in form, and so is each name that has a place.
use Rattle.std.proofs.Common.{◌≡◌, ℕ, ◌+◌, true, List, [], ◌∷◌, ◌++◌, map, Option, Some, None, refl, sym, ap, ◌∙◌}
use Rattle.std.specs.List.{list_all, enumerate_from, find, flat_map}
use Rattle.std.specs.Option.{IfSome}
use Rattle.std.proofs.lemmas.{Bool.and_parts, List.map-append, List.Folds.list_all-map, Slice.Eq.bytes_eq-Decides}
use Rattle.osbase.specs.{declared.objects.ObjectKind.ObjectKind, declared.objects.Place.Place, declared.objects.TheConstants.NOBODY, declared.references.CoreId.CoreId, Names.is_name}
use Rattle.osplan.specs.declared.plans.TheConstants.{COMMON, KINDS}
use Rattle.osplan.proofs.Tests.{all-append, all-flat, all-weaker, find-holds, find-passes}
use Rattle.osschema.specs.{declared.shapes.ConfigText.ConfigText, declared.shapes.CoreText.CoreText, declared.shapes.Named.Named, declared.declarations.Declaration.Declaration}
use Rattle.osschema.specs.Shape.{common_in, has_named_common, has_named_objects, is_named, objects_in}
use Rattle.osschema.specs.Declarations.{common_of, declaration, declarations, declared_as, declared_by, has_name, id_of, names_of}

-- The names of the objects of these kinds.
abbrev names_by : (ObjectKind → List Named) → List ObjectKind → List (List ℕ)
names_by objects kinds = flat_map (λ kind. map (λ (named : Named). named.name) (objects kind)) kinds

-- The names of all objects in a text.
abbrev pub text_names : ConfigText → List (List ℕ)
text_names t = names_by (λ kind. common_in kind t) COMMON ++ flat_map (λ (core : CoreText). names_by (λ kind. objects_in kind core) KINDS) t.cores

each-name : (id : CoreId) (kind : ObjectKind) (n : ℕ) (objects : List Named) → map (λ (d : Declaration). d.name) (map (declaration id kind) (enumerate_from n objects)) ≡ map (λ (named : Named). named.name) objects
each-name id kind n [] = refl
each-name id kind n (object ∷ objects) = rw (each-name id kind (n + 1) objects) refl

kinds-name : (id : CoreId) (objects : ObjectKind → List Named) (kinds : List ObjectKind) → map (λ (d : Declaration). d.name) (flat_map (λ (kind : ObjectKind). declared_as id kind (objects kind)) kinds) ≡ names_by objects kinds
kinds-name id objects [] = refl
kinds-name id objects (kind ∷ kinds) =
    map-append (λ (d : Declaration). d.name) (declared_as id kind (objects kind)) (flat_map (λ (kind : ObjectKind). declared_as id kind (objects kind)) kinds) ∙ rw (each-name id kind 0 (objects kind), kinds-name id objects kinds) refl

cores-name : (cores : List CoreText) → map (λ (d : Declaration). d.name) (flat_map declared_by cores) ≡ flat_map (λ (core : CoreText). names_by (λ kind. objects_in kind core) KINDS) cores
cores-name [] = refl
cores-name (core ∷ cores) =
    map-append (λ (d : Declaration). d.name) (declared_by core) (flat_map declared_by cores) ∙ rw (kinds-name (id_of core) (λ kind. objects_in kind core) KINDS, cores-name cores) refl

pub names-text : (t : ConfigText) → names_of (declarations t) ≡ text_names t
names-text t = map-append (λ (d : Declaration). d.name) (flat_map (common_of t) COMMON) (flat_map declared_by t.cores) ∙ rw (kinds-name NOBODY (λ kind. common_in kind t) COMMON, cores-name t.cores) refl

-- Each declared object has a name in form.
pub declared-named : (t : ConfigText) → is_named t ≡ true → list_all (λ (d : Declaration). is_name d.name) (declarations t) ≡ true
declared-named t named =
    let parts = and_parts (has_named_common t) (list_all has_named_objects t.cores) named in
    let common = all-flat is_name (λ kind. map (λ (named : Named). named.name) (common_in kind t)) COMMON (simp list_all-map (simp list_all-map at parts.0)) in
    let core = λ (core : CoreText) (h : has_named_objects core ≡ true). all-flat is_name (λ kind. map (λ (named : Named). named.name) (objects_in kind core)) KINDS (simp list_all-map (simp list_all-map at h)) in
    let cores = all-flat is_name (λ (core : CoreText). names_by (λ kind. objects_in kind core) KINDS) t.cores (all-weaker has_named_objects _ core t.cores parts.1) in
    sym (list_all-map is_name (λ (d : Declaration). d.name) (declarations t)) ∙ ap (list_all is_name) (names-text t) ∙ all-append is_name (names_by (λ kind. common_in kind t) COMMON) (flat_map (λ (core : CoreText). names_by (λ kind. objects_in kind core) KINDS) t.cores) common cores

-- A name by which an object is found is in form.
pub if-named : (objects : List Declaration) (name : List ℕ) (d : Declaration) (found : Option Place) → list_all (λ (d : Declaration). is_name d.name) objects ≡ true → find (has_name name) objects ≡ Some d → IfSome found (λ place. is_name name ≡ true)
if-named objects name d None named is = tt
if-named objects name d (Some place) named is =
    ap is_name (sym ((bytes_eq-Decides d.name name).0 (find-holds (has_name name) objects d is))) ∙ find-passes (has_name name) (λ (d : Declaration). is_name d.name) objects d named is
