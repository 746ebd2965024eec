-- Names that occur once.
use Rattle.std.proofs.Common.{◌≡◌, ℕ, zero, suc, ◌+◌, Bool, true, false, not, cond, count_by, List, [], ◌∷◌, Option, Some, is_some, slice_get, refl, ap, ◌∙◌, arith}
use Rattle.std.specs.{List.find, List.list_any, Str.bytes_eq}
use Rattle.std.proofs.lemmas.{Bool.and_parts, Bool.false≢true, Option.same_Some, List.Sums.sum_by-cons, Slice.Eq.bytes_eq-Decides}
use Rattle.osplan.specs.Representable.{are_distinct}
use Rattle.osschema.specs.{declared.declarations.Declaration.Declaration, Declarations.has_name, Declarations.is_alone, Declarations.names_of}
use Rattle.osschema.proofs.Indexing.{among}

one-more : (here later : Bool) (x : Declaration) (found : Option Declaration) → (here ≡ true → later ≡ is_some found) → not later ≡ true → cond here 1 0 + cond (is_some found) 1 0 ≡ cond (is_some (cond here (Some x) found)) 1 0
one-more here later x found same none = grind arith

-- If no name occurs twice, at most one object has a given name.
count-one : (name : List ℕ) (objects : List Declaration) → are_distinct (names_of objects) ≡ true → count_by (has_name name) objects ≡ cond (is_some (find (has_name name) objects)) 1 0
count-one name [] apart = refl
count-one name (x ∷ xs) apart =
    let parts = and_parts (not (list_any (λ later. bytes_eq later x.name) (names_of xs))) (are_distinct (names_of xs)) apart in
    let same = λ (here : has_name name x ≡ true). among x.name xs ∙ ap (λ n. is_some (find (has_name n) xs)) ((bytes_eq-Decides x.name name).0 here) in
    sum_by-cons (λ d. cond (has_name name d) 1 0) x xs ∙ rw (count-one name xs parts.1) (one-more (has_name name x) _ x (find (has_name name) xs) same parts.0)

-- So if an object has a name, exactly one object has it.
pub alone_if : (objects : List Declaration) (name : List ℕ) → are_distinct (names_of objects) ≡ true → is_some (find (has_name name) objects) ≡ true → is_alone objects name ≡ true
alone_if objects name apart some = rw (count-one name objects apart, some) refl

-- If no name occurs twice, the object at any place is the first with its name.
not-before : (here later : Bool) (x : Declaration) (found : Option Declaration) (d : Declaration) → (here ≡ true → later ≡ is_some found) → not later ≡ true → found ≡ Some d → cond here (Some x) found ≡ Some d
not-before true later x found d same none is = absurd (false≢true (rw (same refl, is) at none))
not-before false later x found d same none is = is

pub found-at : (name : List ℕ) (objects : List Declaration) (place : ℕ) (d : Declaration) → are_distinct (names_of objects) ≡ true → slice_get objects place ≡ Some d → has_name name d ≡ true → find (has_name name) objects ≡ Some d
found-at name [] zero d apart here named = cc
found-at name [] (suc place) d apart here named = cc
found-at name (x ∷ xs) zero d apart here named = rw (same_Some x d here, named) refl
found-at name (x ∷ xs) (suc place) d apart here named =
    let parts = and_parts (not (list_any (λ later. bytes_eq later x.name) (names_of xs))) (are_distinct (names_of xs)) apart in
    let same = λ (one : has_name name x ≡ true). among x.name xs ∙ ap (λ n. is_some (find (has_name n) xs)) ((bytes_eq-Decides x.name name).0 one) in
    not-before (has_name name x) _ x (find (has_name name) xs) d same parts.0 (found-at name xs place d parts.1 here named)
