-- What arrays and objects hold, as lists.
use Rattle.std.proofs.Common.{◌≡◌, ℕ, List, [], ◌∷◌, map, Bool, String, Global, string_bytes, refl}
use Rattle.std.specs.{List.list_all, List.list_any, Borrow.Bor, Str.bytes_eq, Map.keys_of, Map.values_of}
use Rattle.std.proofs.lemmas.List.Folds.{list_all-map}
use Rattle.serde_json.specs.{Data.Data, View.view, View.items_of, View.members_view, declared.value.Value.Value}
use Rattle.osjson.specs.Json.{elements, entries, texts_of, is_one_of}

pub elements-items_of : (ds : List Data) → elements (items_of ds) ≡ ds
elements-items_of [] = refl
elements-items_of (d ∷ ds) = rw (elements-items_of ds) refl

-- an entry as its name and the data of its value
abbrev pub entry_view : String Global × Value → List ℕ × Data
entry_view e = (string_bytes e.0, view e.1)

pub entries-members_view : (es : List (String Global × Value)) → entries (members_view es) ≡ map entry_view es
entries-members_view [] = refl
entries-members_view (e ∷ es) = rw (entries-members_view es) refl

-- a test of each name, and of each value
pub list_all-names : (p : List ℕ → Bool) (es : List (String Global × Value)) → list_all (λ (key : String Global). p (string_bytes key)) (keys_of es) ≡ list_all (λ (entry : List ℕ × Data). p entry.0) (entries (members_view es))
list_all-names p es = simp (entries-members_view, list_all-map)

pub list_all-values : (p : Data → Bool) (es : List (String Global × Value)) → list_all (λ (value : Value). p (view value)) (values_of es) ≡ list_all (λ (entry : List ℕ × Data). p entry.1) (entries (members_view es))
list_all-values p es = simp (entries-members_view, list_all-map)

-- a test of borrowed texts
pub any_texts : (key : List ℕ) (names : List (Bor (List ℕ))) → list_any (λ (name : Bor (List ℕ)). bytes_eq name.now key) names ≡ is_one_of (texts_of names) key
any_texts key [] = refl
any_texts key (name ∷ names) = rw (any_texts key names) refl
