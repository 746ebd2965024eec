-- How JSON data is read: values, lists of them, and members of objects.
use Rattle.std.specs.Prelude.{ℕ, Bool, false, Option, Some, None, is_some, option_and_then, option_map, if◌then◌else◌, List, [], ◌∷◌, map}
use Rattle.std.specs.{Borrow.Bor, Option.option_map_or, List.list_all, List.list_any, Str.bytes_eq}
use Rattle.serde_json.specs.Data.{Num, unsigned, negative, float, Data, Items, no_items, item, Members, no_members, member}
use Rattle.serde_json.specs.Find.{get, as_null, as_number, as_str, as_array, as_object}
use Rattle.osbase.specs.Names.{is_name}
use Rattle.osjson.specs.Reading.{◌>>=◌, value_if, each}

-- The elements of an array, as a list.
abbrev pub elements : Items → List Data
elements no_items = []
elements (item d ds) = d ∷ elements ds

-- The members of an object, as a list: the name and the data of each.
abbrev pub entries : Members → List (List ℕ × Data)
entries no_members = []
entries (member k d ms) = (k, d) ∷ entries ms

-- The whole number that a JSON number is: `Some None` if it is below 0. None if the number has a point or an exponent,
-- is `-0`, or is past 64 bits. [own]
abbrev pub whole_number : Num → Option (Option ℕ)
whole_number (unsigned n) = Some (Some n)
whole_number (negative z) = Some None
whole_number (float x) = None

-- The whole number that the data are: `Some None` if it is below 0. None if the data are no whole number.
abbrev pub whole_of : Data → Option (Option ℕ)
whole_of d = option_and_then whole_number (as_number d)

-- The text, if it has the form of a name; else None. [own]
abbrev pub if_name : List ℕ → Option (List ℕ)
if_name text = if is_name text then Some text else None

-- The text that the data are, if they are one that has the form of a name.
abbrev pub name_of : Data → Option (List ℕ)
name_of d = option_and_then if_name (as_str d)

-- The elements of the data, if they are an array.
abbrev pub values_of : Data → Option (List Data)
values_of d = option_map elements (as_array d)

-- The elements of the data, each as `read` reads it. None if the data are no array, or one element is not read.
abbrev pub each_of : {X : Type 0} → (Data → Option X) → Data → Option (List X)
each_of read d = values_of d >>= each read

-- Data that may be null: null is read as `Some None`, and all other data as `read` reads them, under one more `Some`.
-- [own]
abbrev pub or_null : {X : Type 0} → (Data → Option X) → Data → Option (Option X)
or_null read d = if is_some (as_null d) then Some None else option_map (λ x. Some x) (read d)

-- The member with this name, as `read` reads it. None if the data are no object, if there is no such member, or if
-- `read` does not read it. [own]
abbrev pub member_of : {X : Type 0} → (Data → Option X) → List ℕ → Data → Option X
member_of read key d = option_and_then read (get key d)

-- The member with this name, as `read` reads it. The default if there is no such member, or the data are no object.
-- None if `read` does not read the member.
abbrev pub member_or : {X : Type 0} → (Data → Option X) → X → List ℕ → Data → Option X
member_or read default key d = option_map_or read (get key d) (Some default)

-- The bytes of each borrowed text.
abbrev pub texts_of : List (Bor (List ℕ)) → List (List ℕ)
texts_of texts = map (λ text. text.now) texts

-- The key is one of these names.
abbrev pub is_one_of : List (List ℕ) → List ℕ → Bool
is_one_of names key = list_any (λ name. bytes_eq name key) names

-- The data are an object, and the name of each of its members passes the test `is_known`. [own]
abbrev pub is_object_of : (List ℕ → Bool) → Data → Bool
is_object_of is_known d = option_map_or (λ ms. list_all (λ (entry : List ℕ × Data). is_known entry.0) (entries ms)) (as_object d) false

-- The unit value, if the data are an object all of whose members have one of these names; else None.
abbrev pub only_members : List (List ℕ) → Data → Option (Unit {0})
only_members names d = value_if (is_object_of (is_one_of names) d) tt
