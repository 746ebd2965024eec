-- What several calls gathered is one text.
use Rattle.std.proofs.Common.{map, ◌≡◌, ◌+◌, ℕ, List, [], ◌∷◌, ◌++◌, Option, Result, Ok, Err, take, drop, refl, sym, ap, ◌∙◌, append_assoc, append-nil, take-append-drop, arith}
use Rattle.std.proofs.lemmas.{Grind.flat_map-append, List.Folds.flat_map-map}
use Rattle.std.specs.{List.flat_map, Result.IsErr}
use Rattle.ostrace_text.specs.Trace.{after_spaces, spaced}
use Rattle.ostrace.specs.{Gathers.Gathers, Pieces.text_after_spaces, Pieces.word_text, Taken.Writes, declared.words.Word.Word}
use Rattle.ostrace.proofs.Writing.{Appends-then}

-- the text of the first elements, followed by that of the others, is the text of all
pub flat_whole : {X : Type 0} (f : X → List ℕ) (xs : List X) (i : ℕ) → flat_map f (take i xs) ++ flat_map f (drop i xs) ≡ flat_map f xs
flat_whole f xs i = sym (flat_map-append f (take i xs) (drop i xs)) ∙ ap (flat_map f) (take-append-drop i xs)

-- the words of texts that are joined
pub ruleset joining = (append_assoc, append-nil, flat_map-append, flat_map-map)

pub after_spaces-cons : (word : List ℕ) (words : List (List ℕ)) → after_spaces (word ∷ []) ++ after_spaces words ≡ after_spaces (word ∷ words)
after_spaces-cons word words = simp joining

pub spaced-more : (word : List ℕ) (us : List (List ℕ)) (v : List ℕ) → spaced (word ∷ us) ++ after_spaces (v ∷ []) ≡ spaced (word ∷ (us ++ v ∷ []))
spaced-more word us v = simp joining

pub spaced-rest : (word : List ℕ) (us : List (List ℕ)) (v : List ℕ) (words : List Word) → spaced (word ∷ us) ++ (after_spaces (v ∷ []) ++ text_after_spaces words) ≡ spaced (word ∷ (us ++ v ∷ map word_text words))
spaced-rest word us v words = simp joining

pub spaced-append : (word : List ℕ) (us : List (List ℕ)) (words : List Word) → spaced (word ∷ us) ++ text_after_spaces words ≡ spaced (word ∷ (us ++ map word_text words))
spaced-append word us words = simp joining

-- what is sent of both texts, and what is left
both : (a b after during t before s text : List ℕ) → a ++ during ≡ before ++ s → b ++ after ≡ during ++ t → s ++ t ≡ text → (a ++ b) ++ after ≡ before ++ text
both a b after during t before s text first last is = cc (append_assoc a b after, append_assoc a during t, append_assoc before s t)

-- one text after the other
pub Gathers-then : {S E : Type 0} {taken : S → Option (List ℕ)} {failed : S → ℕ} {old mid new : S} {before during after s t text : List ℕ} {done : Unit {0}} (result : Result Unit E)
    → Gathers {E = E} taken failed old mid before during s (Ok done) → Gathers taken failed mid new during after t result → s ++ t ≡ text → Gathers taken failed old new before after text result
Gathers-then {S} {E} {taken} {failed} {old} {mid} {new} (Ok all) first last is = record {
  ok = record { sent = first.ok.sent ++ last.ok.sent; is = both _ _ _ _ _ _ _ _ first.ok.is last.ok.is is; takes = Appends-then (taken old) (taken mid) (taken new) _ _ first.ok.takes last.ok.takes };
  err = tt;
  count = omega (arith, first.count, last.count);
}
Gathers-then {S} {E} {taken} {failed} {old} {mid} {new} (Err e) first last is = record {
  ok = tt;
  err = record { begun = first.ok.sent ++ last.err.begun; rest = last.err.rest; is = both _ _ _ _ _ _ _ _ first.ok.is last.err.is is; takes = Appends-then (taken old) (taken mid) (taken new) _ _ first.ok.takes last.err.takes };
  count = omega (arith, first.count, last.count);
}

-- the first part of a text failed
pub Gathers-stop : {S E : Type 0} {taken : S → Option (List ℕ)} {failed : S → ℕ} {old new : S} {before after part text : List ℕ} {e : E} (rest : List ℕ) (result : Result Unit E)
    → IsErr result → Gathers taken failed old new before after part (Err e) → part ++ rest ≡ text → Gathers taken failed old new before after text result
Gathers-stop rest (Ok done) is_err broken is = cc
Gathers-stop {before = before} {part = part} rest (Err f) is_err broken is = record {
  ok = tt;
  err = record { begun = broken.err.begun; rest = broken.err.rest ++ rest; is = cc (append_assoc broken.err.begun broken.err.rest rest, append_assoc before part rest, broken.err.is); takes = broken.err.takes };
  count = broken.count;
}

-- a part of a list of parts, after those before it
module _ {X : Type 0} (f : X → List ℕ) (xs : List X) (i : ℕ) {x : X} (more : take (i + 1) xs ≡ take i xs ++ x ∷ []) {S E : Type 0} {taken : S → Option (List ℕ)} {failed : S → ℕ} {old mid new : S} {before during after : List ℕ} {done : Unit {0}} (result : Result Unit E)
    (all : Gathers {E = E} taken failed old mid before during (flat_map f (take i xs)) (Ok done)) where
  pub Gathers-next : Gathers taken failed mid new during after (f x) result → Gathers taken failed old new before after (flat_map f (take (i + 1) xs)) result
  Gathers-next part = Gathers-then result all part (simp (more, joining))

  pub Gathers-broken : {e : E} → IsErr result → Gathers taken failed mid new during after (f x) (Err e) → Gathers taken failed old new before after (flat_map f xs) result
  Gathers-broken {e} is_err broken =
      Gathers-stop (flat_map f (drop (i + 1) xs)) result is_err (Gathers-then (Err e) all broken (simp (more, joining))) (flat_whole f xs (i + 1))

-- ---- from a sink, and to it

module _ {S E : Type 0} {taken : S → Option (List ℕ)} {failed : S → ℕ} where
  -- both are written to the sink
  pub Gathers-written : {old new : S} {before after text : List ℕ} (result : Result Unit E) → after ≡ [] → Writes taken failed old new (before ++ text) result → Gathers taken failed old new before after text result
  Gathers-written {before = before} {text = text} (Ok done) empty wrote = record { ok = record { sent = before ++ text; is = simp (empty, append-nil); takes = wrote.ok }; err = tt; count = wrote.count }
  Gathers-written (Err e) empty wrote = record { ok = tt; err = wrote.err; count = wrote.count }

  -- what is gathered from nothing is written once it is sent
  pub Writes-gathered : {old mid new : S} {held text : List ℕ} {done : Unit {0}} (result : Result Unit E) → Gathers {E = E} taken failed old mid [] held text (Ok done) → Writes taken failed mid new held result → Writes taken failed old new text result
  Writes-gathered {old} {mid} {new} {held} {text} result all sent = written result (Gathers-then result all (Gathers-written {after = []} result refl (rw append-nil sent)) (append-nil text))
    where
      written : (result : Result Unit E) → Gathers taken failed old new [] [] text result → Writes taken failed old new text result
      written (Ok done) all = record { ok = rw (sym (append-nil all.ok.sent) ∙ all.ok.is) at all.ok.takes; err = tt; count = all.count }
      written (Err e) all = record { ok = tt; err = all.err; count = all.count }

  pub Writes-not_gathered : {old new : S} {held text : List ℕ} {e : E} (result : Result Unit E) → IsErr result → Gathers taken failed old new [] held text (Err e) → Writes taken failed old new text result
  Writes-not_gathered (Ok done) is_err broken = cc
  Writes-not_gathered (Err f) is_err broken = record { ok = tt; err = broken.err; count = broken.count }
