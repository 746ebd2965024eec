-- Steps of reading: after each step, reading what is left still gives the result of the whole.
use Rattle.std.proofs.Common.{◌≡◌, ℕ, zero, suc, ◌<◌, false, Option, Some, None, is_none, List, [], ◌∷◌, length, drop, refl, sym, arith}
use Rattle.std.specs.Borrow.{Bor}
use Rattle.ossyntax.specs.ParsedOp.{rest_words, words_of}
use Rattle.ossyntax.proofs.Wording.{some-word}
use Rattle.osplan.specs.declared.plans.Plan.{Plan}
use Rattle.oslog.specs.{Words.read_words, Words.with_tail, declared.forms.Parts.Parts, declared.rows.Kind.Kind, declared.rows.Tail.Tail}
use Rattle.oslog.specs.declared.rows.Tail.TheVariants as T

-- ---- the words of a row

-- a row with parts left to read needs another word
pub no-word : (plan : Plan) (kinds : List Kind) (i : ℕ) (parts : Parts) → i < length kinds → read_words plan (drop i kinds) [] parts ≡ None
no-word plan [] i parts within = absurd (omega (arith, within))
no-word plan (k ∷ kinds) zero parts within = refl
no-word plan (k ∷ kinds) (suc i) parts within = no-word plan kinds i parts (omega (arith, within))

-- if text is left after a row without a tail, the line has a word too many
pub no-tail : (plan : Plan) (tail : Tail) (text : Option (Bor (List ℕ))) (parts : Parts) → tail ≡ T.Nothing → is_none text ≡ false → None ≡ with_tail plan tail (rest_words text) parts
no-tail plan tail None parts is some = cc
no-tail plan tail (Some text) parts is some = let none = some-word text.now in rw is (sym (left (words_of text.now) none))
  where
    left : (words : List (List ℕ)) → (words ≡ [] → ⊥) → with_tail plan T.Nothing words parts ≡ None
    left words some = grind arith
