-- The words of a row, one after another: each word that is read is the text of the value read from it.
use Rattle.std.proofs.Common.{◌≡◌, ◌&&◌, Bool, true, Some, List, [], ◌∷◌, ◌++◌, map, ℕ, IsTrue, refl, sym, ap, ◌∙◌}
use Rattle.std.specs.List.{list_all}
use Rattle.std.proofs.lemmas.{Bool.and_parts, Bool.and_from, Option.some_pair_parts}
use Rattle.ossyntax.proofs.RoundTrip.{chained}
use Rattle.osplan.specs.{Representable.is_representable, Limits.is_within_limits, declared.plans.Plan.Plan}
use Rattle.oslog.specs.{Words.read_words, Words.with_word, Words.word_text, declared.forms.Parts.Parts, declared.rows.Kind.Kind}
use Rattle.oslog.proofs.WordKinds.{apart, is_part_representable, part_view, word-back, word-stays}

-- No kind occurs twice, except for keywords.
abbrev pub are_apart : List Kind → Bool
are_apart [] = true
are_apart (k ∷ ks) = list_all (λ later. apart later k) ks && are_apart ks

-- The words are the texts of the kinds, and then the rest. Each value is representable; those of other kinds are kept.
pub record ReadsBack (plan : Plan) (kinds : List Kind) (words : List (List ℕ)) (p q : Parts) (rest : List (List ℕ)) : Type 0 where
  pub words_are : map (word_text plan q) kinds ++ rest ≡ words
  pub representable : list_all (is_part_representable plan q) kinds ≡ true
  pub stays : (other : Kind) → list_all (λ k. apart k other) kinds ≡ true → part_view plan q other ≡ part_view plan p other

module _ (plan : Plan) (limits : IsTrue (is_within_limits plan)) (config_representable : IsTrue (is_representable plan)) where
  pub reads-back : (kinds : List Kind) (words : List (List ℕ)) (p q : Parts) (rest : List (List ℕ)) → are_apart kinds ≡ true → read_words plan kinds words p ≡ Some (q, rest) → ReadsBack plan kinds words p q rest
  reads-back [] words p q rest away e =
      let same = some_pair_parts p q words rest e in
      record { words_are = sym same.1; representable = refl; stays = λ other none. rw (← same.0) }
  reads-back (k ∷ kinds) [] p q rest away e = cc
  reads-back (k ∷ kinds) (w ∷ words) p q rest away e =
      let c = chained (read_words plan kinds words) (with_word plan k w p) (q, rest) e in
      let parts = and_parts (list_all (λ later. apart later k) kinds) (are_apart kinds) away in
      let later = reads-back kinds words c.0 q rest parts.1 c.2 in
      let kept = later.stays k parts.0 in
      let back = word-back plan limits config_representable k w p c.0 c.1 in
      let text : word_text plan q k ≡ w = ap (λ (s : List ℕ × Bool). s.0) kept ∙ back.0 in
      record {
        words_are = rw (text, later.words_are);
        representable = and_from _ _ (ap (λ (s : List ℕ × Bool). s.1) kept ∙ back.1) later.representable;
        stays = λ other all.
            let each = and_parts (apart k other) (list_all (λ k. apart k other) kinds) all in
            later.stays other each.1 ∙ word-stays plan p other w c.0 k each.0 c.1;
      }
