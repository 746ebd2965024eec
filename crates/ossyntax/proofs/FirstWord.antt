-- Whether a text begins with a word, without a search for the end of its first word.
use Rattle.std.proofs.Common.{◌≡◌, ℕ, ◌==◌, Bool, true, false, not, List, [], ◌∷◌, ◌++◌, cond, find, Option, option_map, length, Some, None, refl, sym, ap, ◌∙◌, arith}
use Rattle.std.specs.{List.join_with_byte, Option.option_map_or, Option.option_or, Str.bytes_eq}
use Rattle.std.proofs.{lemmas.Bool.and_parts, lemmas.List.append-nil, lemmas.List.append_cancel_left, lemmas.List.Splits.join_with_byte-slice_split, lemmas.Slice.Eq.bytes_eq-Decides}
use Rattle.osbase.specs.Names.{is_name_part}
use Rattle.oscript.specs.{declared.rows.TheConstants.VERBS, declared.rows.Verb.Verb, Rows.word_of}
use Rattle.ossyntax.specs.{Operation.of_first, ParsedOp.first_read, ParsedOp.words_behind, ParsedOp.words_of}
use Rattle.ossyntax.proofs.Joining.{all-none, has_none, split-cut, split-lone}
use Rattle.ossyntax.proofs.Rows.{is-row}

-- If a text is neither the word nor the word, a space and more, it begins with another word.
module _ (word text : List ℕ) (alone : text ≡ word → ⊥) (more : (rest : List ℕ) → text ≡ word ++ 32 ∷ rest → ⊥) where
  starts : (first : List ℕ) (words : List (List ℕ)) → word ≡ first → join_with_byte 32 (first ∷ words) ≡ text → ⊥
  starts first [] same e = alone (sym e ∙ sym same)
  starts first (next ∷ words) same e = more (join_with_byte 32 (next ∷ words)) (sym e ∙ ap (λ w. w ++ 32 ∷ join_with_byte 32 (next ∷ words)) (sym same))

  by-words : (words : List (List ℕ)) → join_with_byte 32 words ≡ text → words_behind word words ≡ None
  by-words [] e = refl
  by-words (first ∷ words) e = grind (arith, starts first words, (bytes_eq-Decides word first).0, e)

  another : words_behind word (words_of text) ≡ None
  another = by-words (words_of text) (join_with_byte-slice_split 32 text)

pub lacks : (word text : List ℕ) → ((rest : List ℕ) → text ≡ word ++ rest → ⊥) → words_behind word (words_of text) ≡ None
lacks word text none = another word text (λ e. none [] (e ∙ sym (append-nil word))) (λ rest e. none (32 ∷ rest) e)

pub goes_astray : (word text rest : List ℕ) → text ≡ word ++ rest → (length rest == 0) ≡ false → ((more : List ℕ) → rest ≡ 32 ∷ more → ⊥) → words_behind word (words_of text) ≡ None
goes_astray word text rest is some no_space =
    another word text
    (λ e. let none = append_cancel_left word rest [] (sym is ∙ e ∙ sym (append-nil word)) in grind (arith, none))
    (λ more e. no_space more (append_cancel_left word rest (32 ∷ more) (sym is ∙ e)))

-- An operation's word has no space, and is the same as itself.
no-space : (verb : Verb) → has_none 32 (word_of verb) ≡ true
no-space verb = all-none is_name_part 32 (word_of verb) refl (and_parts (not (length (word_of verb) == 0)) _ (is-row verb).1).1

same-word : (verb : Verb) → bytes_eq (word_of verb) (word_of verb) ≡ true
same-word verb = (bytes_eq-Decides (word_of verb) (word_of verb)).1 refl

-- A text that is only an operation's word has no words behind that word.
pub goes_no_further : (verb : Verb) (text : List ℕ) → text ≡ word_of verb ++ [] → words_behind (word_of verb) (words_of text) ≡ Some []
goes_no_further verb text is = rw (is, append-nil, split-lone 32 (word_of verb) (no-space verb), same-word verb)

-- If a text is an operation's word, a space and a rest, the words behind its first word are those of the rest.
pub goes_on : (verb : Verb) (text rest : List ℕ) → text ≡ word_of verb ++ 32 ∷ rest → words_behind (word_of verb) (words_of text) ≡ Some (words_of rest)
goes_on verb text rest is = rw (is, split-cut 32 (word_of verb) rest refl (no-space verb), same-word verb)

-- Asking about the first verb that is read and the words behind it is asking about the first word and those behind it.
module _ {X : Type 0} (ask : List (List ℕ) → Verb → X) (none : X) where
  step : (here : Bool) (v : Verb) (words : List (List ℕ)) (found : Option Verb) (read : Option (Verb × List (List ℕ))) → option_map_or (ask words) found none ≡ option_map_or (λ r. ask r.1 r.0) read none
      → option_map_or (ask words) (cond here (Some v) found) none ≡ option_map_or (λ r. ask r.1 r.0) (option_or (option_map (λ behind. (v, behind)) (cond here (Some words) None)) read) none
  step here v words found read later = grind arith

  among : (word : List ℕ) (words : List (List ℕ)) (verbs : List Verb) → option_map_or (ask words) (find (λ v. bytes_eq (word_of v) word) verbs) none ≡ option_map_or (λ r. ask r.1 r.0) (first_read (word ∷ words) verbs) none
  among word words [] = refl
  among word words (v ∷ verbs) = step (bytes_eq (word_of v) word) v words _ _ (among word words verbs)

  pub first-asked : (words : List (List ℕ)) → of_first ask none words ≡ option_map_or (λ r. ask r.1 r.0) (first_read words VERBS) none
  first-asked [] = refl
  first-asked (word ∷ words) = among word words VERBS
