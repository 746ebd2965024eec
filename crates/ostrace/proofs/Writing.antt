-- What a sink took of a text, write by write.
use Rattle.std.proofs.Common.{◌≡◌, ◌≢◌, ◌+◌, ◌-◌, ◌<◌, ℕ, List, [], ◌++◌, Option, Some, Result, Ok, Err, length, take, drop, refl, ap, ◌∙◌, append_assoc, append-nil, arith, take-append-drop}
use Rattle.std.proofs.{Math.Seq.take-add, lemmas.List.take_rest, lemmas.List.length-drop, lemmas.Bool.Decides.nat_tests}
use Rattle.std.specs.{Io.KnownBytes.Appends, Result.IsErr}
use Rattle.ostrace.specs.Taken.{Writes, count_after}

-- nothing was written
pub Appends-nothing : (a : Option (List ℕ)) → Appends a a []
Appends-nothing a = grind (arith, append-nil)

-- one text after the other
pub Appends-then : (a b c : Option (List ℕ)) (s t : List ℕ) → Appends a b s → Appends b c t → Appends a c (s ++ t)
Appends-then a b c s t p q = grind (arith, append_assoc)

-- a write that takes nothing of a text counts, and one that takes some does not
pub count_after-nothing : (failed count : ℕ) (rest : List ℕ) → count ≡ 0 → 0 < length rest → count_after failed (Some count) rest ≡ failed + 1
count_after-nothing failed count rest none some = grind (arith, nat_tests)

pub count_after-some : (failed count : ℕ) (rest : List ℕ) → count ≢ 0 → count_after failed (Some count) rest ≡ failed
count_after-some failed count rest some = grind (arith, nat_tests)

-- the rest of the bytes, and what a write took of them
module _ (bytes : List ℕ) (at : ℕ) where
  pub rest_length : length (take (length bytes - at) (drop at bytes)) ≡ length bytes - at
  rest_length = rw (take_rest bytes at, length-drop at bytes) refl

  pub take_further : (count : ℕ) → take (at + count) bytes ≡ take at bytes ++ take count (take (length bytes - at) (drop at bytes))
  take_further count = rw (take_rest bytes at) (take-add at count bytes)

  -- a write failed after a prefix of the bytes
  pub Writes-stopped : {S E : Type 0} (taken : S → Option (List ℕ)) (failed : S → ℕ) (old mid new : S) (e : E) → Appends (taken old) (taken mid) (take at bytes) → failed mid ≡ failed old → Appends (taken mid) (taken new) [] → failed new ≡ failed mid + 1
      → Writes taken failed old new bytes (Err e)
  Writes-stopped taken failed old mid new e wrote same nothing counted = record {
    ok = tt;
    err = record { begun = take at bytes ++ []; rest = drop at bytes; is = simp (append-nil, take-append-drop); takes = Appends-then (taken old) (taken mid) (taken new) (take at bytes) [] wrote nothing };
    count = omega arith;
  }

-- a text was written, and no write failed
pub record Wrote {S : Type 0} (taken : S → Option (List ℕ)) (failed : S → ℕ) (old new : S) (text : List ℕ) : Type 0 where
  pub appends : Appends (taken old) (taken new) text
  pub same : failed new ≡ failed old

module _ {S : Type 0} (taken : S → Option (List ℕ)) (failed : S → ℕ) where
  pub Wrote-then : (old mid new : S) (s t : List ℕ) → Wrote taken failed old mid s → Wrote taken failed mid new t → Wrote taken failed old new (s ++ t)
  Wrote-then old mid new s t first second = record {
    appends = Appends-then (taken old) (taken mid) (taken new) s t first.appends second.appends;
    same = second.same ∙ first.same;
  }

  pub Wrote-all : {E : Type 0} (old new : S) (text : List ℕ) (done : Unit {0}) → Writes {E = E} taken failed old new text (Ok done) → Wrote taken failed old new text
  Wrote-all old new text done wrote = record { appends = wrote.ok; same = omega (arith, wrote.count) }

  -- a part of the text failed after the parts before it
  pub Writes-broken : {E : Type 0} (old mid new : S) (text begun part rest : List ℕ) (e : E) (result : Result Unit E) → IsErr result → begun ++ (part ++ rest) ≡ text → Wrote taken failed old mid begun → Writes taken failed mid new part (Err e) → Writes taken failed old new text result
  Writes-broken old mid new text begun part rest e (Ok done) is_err is before broken = cc
  Writes-broken old mid new text begun part rest e (Err f) is_err is before broken = record {
    ok = tt;
    err = record {
      begun = begun ++ broken.err.begun;
      rest = broken.err.rest ++ rest;
      is = cc (append_assoc begun broken.err.begun (broken.err.rest ++ rest), append_assoc broken.err.begun broken.err.rest rest, broken.err.is, is);
      takes = Appends-then (taken old) (taken mid) (taken new) begun broken.err.begun before.appends broken.err.takes;
    };
    count = omega (arith, broken.count, before.same);
  }

  -- the last part of a text
  pub Writes-then : {E : Type 0} (old mid new : S) (s t : List ℕ) (result : Result Unit E) → Wrote taken failed old mid s → Writes taken failed mid new t result → Writes taken failed old new (s ++ t) result
  Writes-then old mid new s t (Ok done) first last = record { ok = Appends-then (taken old) (taken mid) (taken new) s t first.appends last.ok; err = tt; count = omega (arith, first.same, last.count) }
  Writes-then old mid new s t (Err e) first last = Writes-broken old mid new (s ++ t) s t [] e (Err e) refl (ap (λ l. s ++ l) (append-nil t)) first last

  -- the first part of a text failed
  pub Writes-begun : {E : Type 0} (old new : S) (part rest : List ℕ) (e : E) (result : Result Unit E) → IsErr result → Writes taken failed old new part (Err e) → Writes taken failed old new (part ++ rest) result
  Writes-begun old new part rest e result is_err broken = Writes-broken old old new (part ++ rest) [] part rest e result is_err refl (record { appends = Appends-nothing (taken old); same = refl }) broken
