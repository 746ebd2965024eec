-- The text of items, and the items of a text.
use Rattle.std.proofs.{lemmas.Option.same_Some, lemmas.List.append-nil, lemmas.List.append_assoc, lemmas.Grind.common_steps, lemmas.List.Folds.flat_map-map, lemmas.List.Folds.list_all-append, lemmas.List.Folds.list_all-map, lemmas.List.Splits.join_with_byte-slice_split, lemmas.List.Splits.length-slice_split, lemmas.List.Sums.count_by-le-length}
use Rattle.std.proofs.Common.{◌≡◌, ◌≢◌, ◌⊎◌, ℕ, ◌≤◌, ◌==◌, true, not, nat_le, Some, None, option_map, List, [], ◌∷◌, ◌++◌, ◌+◌, length, map, IsTrue, inl, inr, refl, sym, ap, ◌∙◌, arith}
use Rattle.std.specs.List.{flat_map, join_with_byte, list_all, slice_split}
use Rattle.std.proofs.lemmas.Bool.{and_from, and_parts, le-leb}
use Rattle.osbase.specs.declared.items.Item.{Item}
use Rattle.ossyntax.proofs.{Joining.has_none, Joining.some-more, Joining.split-joined, KindTexts.mapped, RoundTrip.chained}
use Rattle.osplan.proofs.Tests.{all-weaker}
use Rattle.osplan.specs.{Representable.is_representable, Limits.is_within_limits, declared.plans.Plan.Plan}
use Rattle.osjson.specs.Reading.{each, each_of_few, parts_of}
use Rattle.oslog.specs.{Items.item_of_text, Items.line_of}
use Rattle.oslog.specs.Logs.{IsLog, IsTextOf, before_end, is_item_representable, log_of_text, log_text, without_last_end}
use Rattle.oslog.proofs.{Complete.line-none, Complete.line-read, Complete.line-some, Sound.line-back}

-- ---- lines with their ends

ends-joined : (line : List ℕ) (lines : List (List ℕ)) → flat_map (λ text. text ++ 10 ∷ []) (line ∷ lines) ≡ join_with_byte 10 (line ∷ lines) ++ 10 ∷ []
ends-joined line [] = append-nil (line ++ 10 ∷ [])
ends-joined line (next ∷ lines) = rw (ends-joined next lines, append_assoc, append_assoc)

text-joined : (plan : Plan) (item : Item) (items : List Item) → log_text plan (item ∷ items) ≡ join_with_byte 10 (map (line_of plan) (item ∷ items)) ++ 10 ∷ []
text-joined plan item items = sym (flat_map-map (λ text. text ++ 10 ∷ []) (line_of plan) (item ∷ items)) ∙ ends-joined (line_of plan item) (map (line_of plan) items)

-- ---- the end of the last line

end-kept : (text : List ℕ) → (before_end text ≡ text) ⊎ (before_end text ++ 10 ∷ [] ≡ text)
end-kept [] = inl refl
end-kept (c ∷ []) = grind (arith, common_steps)
end-kept (c ∷ d ∷ text) = grind (arith, end-kept (d ∷ text))

-- a line end at the end is taken away
before-end : (text : List ℕ) → before_end (text ++ 10 ∷ []) ≡ text
before-end [] = refl
before-end (c ∷ []) = refl
before-end (c ∷ d ∷ text) = ap (λ rest. c ∷ rest) (before-end (d ∷ text))

-- if the first line is not empty, neither is the text that begins with it
joined-some : (line : List ℕ) (lines : List (List ℕ)) → not (length line == 0) ≡ true → not (length (join_with_byte 10 (line ∷ lines)) == 0) ≡ true
joined-some line lines some = grind (arith, some-more)

-- if `before_end` takes nothing away, neither does `without_last_end`
last-kept : (text : List ℕ) → before_end text ≡ text → without_last_end text ≡ text
last-kept text same = grind arith

pub last-goes : (text : List ℕ) → not (length text == 0) ≡ true → without_last_end (text ++ 10 ∷ []) ≡ text
last-goes [] some = cc
last-goes (c ∷ []) some = refl
last-goes (c ∷ d ∷ text) some = ap (λ rest. c ∷ rest) (before-end (d ∷ text))

-- a text that does not end in a line end stays as it is
pub last-stays : (text : List ℕ) → ((front : List ℕ) → text ≢ front ++ 10 ∷ []) → without_last_end text ≡ text
last-stays text none = grind (arith, end-kept text, last-kept text, none (before_end text))

-- a text that ends in a line end has an empty last line
split-ended : (front : List ℕ) → slice_split (λ b. b == 10) (front ++ 10 ∷ []) ≡ slice_split (λ b. b == 10) front ++ [] ∷ []
split-ended [] = refl
split-ended (c ∷ front) = grind (arith, split-ended front, length-slice_split (λ b. b == 10) front)

last-empty : (front lines : List (List ℕ)) → lines ≡ front ++ [] ∷ [] → list_all (λ (text : List ℕ). not (length text == 0)) lines ≡ true → ⊥
last-empty front lines is some = grind (arith, list_all-append {X = List ℕ})

-- so joined lines that are not empty stay as they are
joined-stays : (line : List ℕ) (lines : List (List ℕ)) → list_all (has_none 10) (line ∷ lines) ≡ true → list_all (λ (text : List ℕ). not (length text == 0)) (line ∷ lines) ≡ true → without_last_end (join_with_byte 10 (line ∷ lines)) ≡ join_with_byte 10 (line ∷ lines)
joined-stays line lines none some =
    last-stays (join_with_byte 10 (line ∷ lines)) (λ front is.
    let ended : line ∷ lines ≡ slice_split (λ b. b == 10) front ++ [] ∷ [] = sym (split-joined 10 line lines refl none) ∙ rw is (split-ended front) in
    last-empty (slice_split (λ b. b == 10) front) (line ∷ lines) ended some)

body-some : (c : ℕ) (text : List ℕ) → not (length (without_last_end (c ∷ text)) == 0) ≡ true
body-some c text = grind arith

-- A text that is not empty is what precedes the end of its last line, with or without that end.
body-whole : (c : ℕ) (text : List ℕ) → (c ∷ text ≡ without_last_end (c ∷ text)) ⊎ (c ∷ text ≡ without_last_end (c ∷ text) ++ 10 ∷ [])
body-whole c text = grind (arith, end-kept text)

some-parts : (byte : ℕ) (body : List ℕ) → not (length body == 0) ≡ true → parts_of byte body ≡ slice_split (λ b. b == byte) body
some-parts byte body some = grind arith

-- a text has at most one part more than it has bytes
few-lines : (byte : ℕ) (text : List ℕ) → length (parts_of byte text) ≤ length text + 1
few-lines byte text = grind (arith, length-slice_split (λ b. b == byte) text, count_by-le-length (λ b. b == byte) text)

-- if not every line is an item, the text means no items
pub none-meant : (plan : Plan) (text body : List ℕ) → body ≡ without_last_end text → each_of_few (length body + 1) (item_of_text plan) (parts_of 10 body) ≡ None → log_of_text plan text ≡ None
none-meant plan text body is none =
    let few : nat_le (length (parts_of 10 body)) (length body + 1) ≡ true = le-leb (length (parts_of 10 body)) (length body + 1) (few-lines 10 body) in
    rw (← is) (rw few at none)

-- ---- from a text to its items

module _ (plan : Plan) (limits : IsTrue (is_within_limits plan)) (config_representable : IsTrue (is_representable plan)) where
  lines-back : (lines : List (List ℕ)) (items : List Item) → each (item_of_text plan) lines ≡ Some items → (map (line_of plan) items ≡ lines) × (list_all (is_item_representable plan) items ≡ true)
  lines-back [] items e = grind arith
  lines-back (line ∷ lines) items e =
      let c = chained (λ (item : Item). option_map (λ (rest : List Item). item ∷ rest) (each (item_of_text plan) lines)) (item_of_text plan line) items e in
      let m = mapped (λ (rest : List Item). c.0 ∷ rest) (each (item_of_text plan) lines) items c.2 in
      let here = line-back plan limits config_representable line c.0 c.1 in
      let later = lines-back lines m.0 m.1 in
      rw (← m.2) (cc (here.0, later.0), and_from _ _ here.1 later.1)

  body-text : (body : List ℕ) (items : List Item) → map (line_of plan) items ≡ slice_split (λ b. b == 10) body → log_text plan items ≡ body ++ 10 ∷ []
  body-text body [] lines = let none = ap length lines in absurd (omega (arith, length-slice_split (λ b. b == 10) body))
  body-text body (item ∷ items) lines = text-joined plan item items ∙ ap (λ (texts : List (List ℕ)). join_with_byte 10 texts ++ 10 ∷ []) lines ∙ rw (join_with_byte-slice_split 10 body)

  -- A text is a log of the items that it means.
  pub log-back : (text : List ℕ) (items : List Item) → log_of_text plan text ≡ Some items → IsLog plan text items
  log-back [] items e =
      let none : [] ≡ items = cc in
      rw (← none) (record { representable = refl; text_is = inl refl })
  log-back (c ∷ text) items e =
      let body = without_last_end (c ∷ text) in
      let parts : each (item_of_text plan) (slice_split (λ b. b == 10) body) ≡ Some items = rw (← some-parts 10 body (body-some c text)) e in
      let back = lines-back (slice_split (λ b. b == 10) body) items parts in
      record { representable = back.1; text_is = grind (arith, body-text body items back.0, body-whole c text) }

  -- ---- from items to their text and back

  lines-read : (items : List Item) → list_all (is_item_representable plan) items ≡ true → each (item_of_text plan) (map (line_of plan) items) ≡ Some items
  lines-read [] representable = refl
  lines-read (item ∷ items) representable =
      let parts = and_parts (is_item_representable plan item) (list_all (is_item_representable plan) items) representable in
      rw (line-read plan limits config_representable item parts.0, lines-read items parts.1)

  lines-none : (items : List Item) → list_all (is_item_representable plan) items ≡ true → list_all (has_none 10) (map (line_of plan) items) ≡ true
  lines-none items representable =
      list_all-map (has_none 10) (line_of plan) items ∙ all-weaker (is_item_representable plan) (λ item. has_none 10 (line_of plan item)) (line-none plan limits config_representable) items representable

  lines-some : (items : List Item) → list_all (λ (text : List ℕ). not (length text == 0)) (map (line_of plan) items) ≡ true
  lines-some [] = refl
  lines-some (item ∷ items) = and_from _ _ (line-some plan item) (lines-some items)

  body-read : (text : List ℕ) (item : Item) (items : List Item) → list_all (is_item_representable plan) (item ∷ items) ≡ true → IsTextOf plan text (item ∷ items) → without_last_end text ≡ join_with_byte 10 (map (line_of plan) (item ∷ items))
  body-read text item items representable (inl is) = ap without_last_end (is ∙ text-joined plan item items) ∙ last-goes (join_with_byte 10 (map (line_of plan) (item ∷ items))) (joined-some (line_of plan item) (map (line_of plan) items) (line-some plan item))
  body-read text item items representable (inr is) =
      let whole = join_with_byte 10 (map (line_of plan) (item ∷ items)) in
      let same : text ≡ whole = sym (before-end text) ∙ ap before_end (is ∙ text-joined plan item items) ∙ before-end whole in
      rw same (joined-stays (line_of plan item) (map (line_of plan) items) (lines-none (item ∷ items) representable) (lines-some (item ∷ items)))

  no-items : (text : List ℕ) → IsTextOf plan text [] → log_of_text plan text ≡ Some []
  no-items [] is = refl
  no-items (c ∷ text) is = grind arith

  -- A log of items means these items.
  pub log-read : (text : List ℕ) (items : List Item) → IsLog plan text items → log_of_text plan text ≡ Some items
  log-read text [] log = no-items text log.text_is
  log-read text (item ∷ items) log =
      let whole = join_with_byte 10 (map (line_of plan) (item ∷ items)) in
      let parts = some-parts 10 whole (joined-some (line_of plan item) (map (line_of plan) items) (line-some plan item)) in
      let lines = split-joined 10 (line_of plan item) (map (line_of plan) items) refl (lines-none (item ∷ items) log.representable) in
      rw (body-read text item items log.representable log.text_is, parts, lines) (lines-read (item ∷ items) log.representable)

-- A text that means no items is no log. A text that means items is the log of no others.
pub no-log : (plan : Plan) → IsTrue (is_within_limits plan) → IsTrue (is_representable plan) → (text : List ℕ) → log_of_text plan text ≡ None → (items : List Item) → IsLog plan text items → ⊥
no-log plan limits config_representable text none items log = let both : Some items ≡ None = sym (log-read plan limits config_representable text items log) ∙ none in cc

pub only-log : (plan : Plan) → IsTrue (is_within_limits plan) → IsTrue (is_representable plan) → (text : List ℕ) (items : List Item) → log_of_text plan text ≡ Some items → (others : List Item) → IsLog plan text others → others ≡ items
only-log plan limits config_representable text items e others log = same_Some _ _ (sym (log-read plan limits config_representable text others log) ∙ e)
