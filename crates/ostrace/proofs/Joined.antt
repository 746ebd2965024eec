-- The texts of parts of blocks, one after another.
use Rattle.std.proofs.Common.{◌≡◌, ◌+◌, ◌*◌, ℕ, List, [], ◌∷◌, ◌++◌, Option, Result, Ok, Err, take, drop, ap, sym, ◌∙◌, append_assoc, arith, take-add}
use Rattle.std.proofs.lemmas.Grind.{flat_map-append}
use Rattle.std.specs.Result.{IsErr}
use Rattle.ostrace.specs.{Parts.part_text, Parts.parts_text, Taken.Writes, declared.parts.Part.Part}
use Rattle.ostrace.proofs.Gathering.{flat_whole, joining}
use Rattle.ostrace.proofs.Writing.{Wrote, Wrote-all, Wrote-then, Writes-broken}

-- the parts before the next round
pub next_round : (at size : ℕ) → (at + 1) * size ≡ at * size + size
next_round at size = omega arith

-- a part behind others, and what follows it
pub part-rest : (parts : List Part) (i : ℕ) (part : Part) → take (i + 1) parts ≡ take i parts ++ part ∷ [] → parts_text (take i parts) ++ (part_text part ++ parts_text (drop (i + 1) parts)) ≡ parts_text parts
part-rest parts i part more =
    let upto : parts_text (take (i + 1) parts) ≡ parts_text (take i parts) ++ part_text part = simp (more, joining) in
    sym (append_assoc (parts_text (take i parts)) (part_text part) (parts_text (drop (i + 1) parts))) ∙ ap (λ text. text ++ parts_text (drop (i + 1) parts)) (sym upto) ∙ flat_whole part_text parts (i + 1)

module _ (parts : List Part) (at size : ℕ) where
  -- the parts of one more round
  parts-more : parts_text (take (at + size) parts) ≡ parts_text (take at parts) ++ parts_text (take size (drop at parts))
  parts-more = ap parts_text (take-add at size parts) ∙ flat_map-append part_text (take at parts) (take size (drop at parts))

  -- the parts up to the end of one more round, and the parts after it
  parts-rest : parts_text (take at parts) ++ (parts_text (take size (drop at parts)) ++ parts_text (drop size (drop at parts))) ≡ parts_text parts
  parts-rest = ap (λ text. parts_text (take at parts) ++ text) (flat_whole part_text (drop at parts) size) ∙ flat_whole part_text parts at

  module _ {S E : Type 0} (taken : S → Option (List ℕ)) (failed : S → ℕ) (old mid new : S) (before : Wrote taken failed old mid (parts_text (take at parts))) where
    -- the parts of the round were written
    pub Wrote-more : (done : Unit {0}) → Writes {E = E} taken failed mid new (parts_text (take size (drop at parts))) (Ok done) → Wrote taken failed old new (parts_text (take (at + size) parts))
    Wrote-more done wrote = rw parts-more (Wrote-then taken failed old mid new _ _ before (Wrote-all taken failed mid new _ done wrote))

    -- a write of the parts of the round failed
    pub Writes-part_broken : (e : E) (result : Result Unit E) → IsErr result → Writes taken failed mid new (parts_text (take size (drop at parts))) (Err e) → Writes taken failed old new (parts_text parts) result
    Writes-part_broken e result is_err broken = Writes-broken taken failed old mid new _ _ _ (parts_text (drop size (drop at parts))) e result is_err parts-rest before broken
