-- Making an index, from the last object on.
use Rattle.std.proofs.Common.{◌≡◌, ℕ, ◌+◌, ◌<◌, ◌&&◌, Bool, not, List, ◌∷◌, length, map, drop, get_or, Some, is_some, sym, ap, ◌∙◌, arith}
use Rattle.std.specs.{List.find, List.list_any, List.slice_get, Borrow.Bor, HashMap.HashMap, Map.update, Str.bytes_eq}
use Rattle.std.proofs.lemmas.Option.{slice_get-get_or}
use Rattle.osplan.proofs.Tests.{any-find, any-mapped}
use Rattle.osjson.proofs.Each.{drop-here}
use Rattle.osschema.specs.{declared.declarations.Declaration.Declaration, Declarations.has_name, Index.index_in, Index.Indexes}

-- whether a name is among the names of objects
pub among : (name : List ℕ) (objects : List Declaration) → list_any (λ later. bytes_eq later name) (map (λ (d : Declaration). d.name) objects) ≡ is_some (find (has_name name) objects)
among name objects = any-mapped (λ later. bytes_eq later name) (λ (d : Declaration). d.name) objects ∙ any-find (has_name name) objects

-- one more object in front of those that are indexed
module _ {S : Type 0} (d : Declaration) (place : ℕ) (first more : HashMap (Bor (List ℕ)) ℕ S) (are_apart is_new : Bool) (stood : is_some (index_in first d.name) ≡ not is_new)
    (updates : (name : List ℕ) → index_in more name ≡ update bytes_eq (index_in first) d.name (Some place) name) where
  in-front : (whole objects : List Declaration) → slice_get whole place ≡ Some d → Indexes whole first are_apart objects → Indexes whole more (are_apart && is_new) (d ∷ objects)
  in-front whole objects here so_far = record {
    found = λ name. grind (arith, updates name, so_far.found name);
    known = λ name. grind (arith, updates name, so_far.known name);
    apart = grind (arith, among d.name objects, so_far.known d.name);
  }

  -- the same, if that object comes from a place of the list
  pub one_more : (objects : List Declaration) (next : ℕ) → next ≡ place + 1 → place < length objects → d ≡ get_or objects place d → Indexes objects first are_apart (drop next objects) → Indexes objects more (are_apart && is_new) (drop place objects)
  one_more objects next behind within is so_far =
      rw (drop-here objects place d within is) (in-front objects (drop (place + 1) objects) (slice_get-get_or objects place d within ∙ ap Some (sym is)) (rw behind at so_far))
