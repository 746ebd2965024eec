-- Lists that are prefixes of other lists.
use mathlib.Core.List.{IsPrefix}
use Rattle.std.proofs.Common.{◌≡◌, Bool, true, Some, None, List, [], ◌∷◌, ◌++◌, length, refl, sym, ap, ◌∙◌, append_assoc, append-nil}
use Rattle.std.specs.List.{flat_map, list_all, slice_get}
use Rattle.std.proofs.{lemmas.Bool.and_parts, lemmas.Grind.flat_map-append, lemmas.List.Folds.list_all-append, lemmas.Option.same_Some}

-- Each list is a prefix of itself, and of itself followed by a rest; and a prefix of a prefix is a prefix of the whole.
pub begins-itself : {A : Type 0} (xs : List A) → IsPrefix xs xs
begins-itself xs = ([], append-nil xs)

pub begins-longer : {A : Type 0} (xs rest : List A) → IsPrefix xs (xs ++ rest)
begins-longer xs rest = (rest, refl)

pub begins-through : {A : Type 0} (xs ys zs : List A) → IsPrefix xs ys → IsPrefix ys zs → IsPrefix xs zs
begins-through {A} xs ys zs first second =
    (first.0 ++ second.0, sym (append_assoc xs first.0 second.0) ∙ ap (λ (front : List A). front ++ second.0) first.1 ∙ second.1)

-- If a list is a prefix, so is the list of its elements' parts, behind the same front.
pub begins-flat_map : {A B : Type 0} (f : A → List B) (front : List B) (xs ys : List A) → IsPrefix xs ys → IsPrefix (front ++ flat_map f xs) (front ++ flat_map f ys)
begins-flat_map {A} {B} f front xs ys begins = (
  flat_map f begins.0,
  append_assoc front (flat_map f xs) (flat_map f begins.0)
      ∙ ap (λ (text : List B). front ++ text) (sym (flat_map-append f xs begins.0) ∙ ap (flat_map f) begins.1),
)

-- If all elements of the whole pass a test, all elements of a prefix pass it.
pub begins-all_pass : {A : Type 0} (test : A → Bool) (xs ys : List A) → IsPrefix xs ys → list_all test ys ≡ true → list_all test xs ≡ true
begins-all_pass test xs ys begins all =
    (and_parts (list_all test xs) (list_all test begins.0) (sym (list_all-append test xs begins.0) ∙ ap (list_all test) begins.1 ∙ all)).0

-- A prefix with the next element of the whole is a prefix; if there is no next element, the prefix is the whole.
seam : {A : Type 0} (xs rest : List A) → slice_get (xs ++ rest) (length xs) ≡ slice_get rest 0
seam [] rest = refl
seam (x ∷ xs) rest = seam xs rest

pub begins-next : {A : Type 0} (xs ys : List A) (y : A) → IsPrefix xs ys → slice_get ys (length xs) ≡ Some y → IsPrefix (xs ++ y ∷ []) ys
begins-next {A} xs ys y begins next = by begins.0 begins.1 (sym (seam xs begins.0) ∙ ap (λ (zs : List A). slice_get zs (length xs)) begins.1 ∙ next)
  where
    by : (rest : List A) → xs ++ rest ≡ ys → slice_get rest 0 ≡ Some y → IsPrefix (xs ++ y ∷ []) ys
    by [] e front = cc
    by (r ∷ rs) e front = (rs, append_assoc xs (y ∷ []) rs ∙ ap (λ (z : A). xs ++ z ∷ rs) (sym (same_Some _ _ front)) ∙ e)

pub begins-whole : {A : Type 0} (xs ys : List A) → IsPrefix xs ys → slice_get ys (length xs) ≡ None → xs ≡ ys
begins-whole {A} xs ys begins none = by begins.0 begins.1 (sym (seam xs begins.0) ∙ ap (λ (zs : List A). slice_get zs (length xs)) begins.1 ∙ none)
  where
    by : (rest : List A) → xs ++ rest ≡ ys → slice_get rest 0 ≡ None → xs ≡ ys
    by [] e front = sym (append-nil xs) ∙ e
    by (r ∷ rs) e front = cc
