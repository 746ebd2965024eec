-- What an index over a list of objects must provide. [own]
use Rattle.std.specs.Prelude.{◌≡◌, ℕ, Bool, Option, option_and_then, is_some, List, map, find, slice_get}
use Rattle.std.specs.{Borrow.Bor, HashMap.HashMap, HashMap.get_by, Str.bytes_eq}
use Rattle.osplan.specs.Representable.{are_distinct}
use Rattle.osschema.specs.{declared.declarations.Declaration.Declaration, Declarations.has_name}

-- The place that the index `first` has for this name. It is a place in a list of objects.
abbrev pub index_in : {S : Type 0} → HashMap (Bor (List ℕ)) ℕ S → List ℕ → Option ℕ
index_in first name = get_by (λ k. bytes_eq name k.now) first

-- For each name, the index `first` has the place in the list `whole` of the first of `objects` with that name. It has
-- none if none of `objects` has the name. `are_apart` says whether the names of `objects` all differ.
pub record Indexes {S : Type 0} (whole : List Declaration) (first : HashMap (Bor (List ℕ)) ℕ S) (are_apart : Bool) (objects : List Declaration) : Type 0 where
  pub found : (name : List ℕ) → option_and_then (slice_get whole) (index_in first name) ≡ find (has_name name) objects
  pub known : (name : List ℕ) → is_some (index_in first name) ≡ is_some (find (has_name name) objects)
  pub apart : are_apart ≡ are_distinct (map (λ (d : Declaration). d.name) objects)
