-- Names, each once.
use Rattle.std.proofs.Common.{◌≡◌, ℕ, Bool, true, false, not, List, [], ◌∷◌, ◌++◌, refl, sym, ◌∙◌}
use Rattle.std.specs.{List.list_any, Str.bytes_eq}
use Rattle.std.proofs.{lemmas.Bool.and_parts, lemmas.Bool.and_from, lemmas.Bool.or_from, lemmas.Bool.or_parts, lemmas.Bool.not-true, lemmas.Bool.not_from_false, lemmas.List.append-nil, lemmas.List.Folds.list_any-append}
use Rattle.osplan.specs.Representable.{are_distinct}

-- Names stay distinct if those at the end are replaced by distinct names among them.
pub distinct-kept : (front whole part : List (List ℕ)) → ((p : List ℕ → Bool) → list_any p whole ≡ false → list_any p part ≡ false) → are_distinct part ≡ true → are_distinct (front ++ whole) ≡ true → are_distinct (front ++ part) ≡ true
distinct-kept [] whole part none distinct h = distinct
distinct-kept (name ∷ front) whole part none distinct h =
    let same : List ℕ → Bool = λ later. bytes_eq later name in
    let parts = and_parts (not (list_any same (front ++ whole))) (are_distinct (front ++ whole)) h in
    let absent = or_parts (list_any same front) (list_any same whole) (sym (list_any-append same front whole) ∙ not-true _ parts.0) in
    and_from _ _ (not_from_false _ (list_any-append same front part ∙ or_from _ _ absent.0 (none same absent.1))) (distinct-kept front whole part none distinct parts.1)

pub distinct-front : (front back : List (List ℕ)) → are_distinct (front ++ back) ≡ true → are_distinct front ≡ true
distinct-front front back h = rw (append-nil front) at (distinct-kept front back [] (λ p none. refl) refl h)

pub distinct-back : (front back : List (List ℕ)) → are_distinct (front ++ back) ≡ true → are_distinct back ≡ true
distinct-back [] back h = h
distinct-back (name ∷ front) back h = distinct-back front back (and_parts _ (are_distinct (front ++ back)) h).1
