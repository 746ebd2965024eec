-- The item that is read from a line has that line, and is representable.
use Rattle.std.proofs.Common.{◌≡◌, ℕ, ◌==◌, Bool, true, Option, Some, option_and_then, List, [], ◌∷◌, ◌++◌, length, map, IsTrue, refl, ap, ◌∙◌, arith}
use Rattle.std.specs.{List.list_all, Str.bytes_eq}
use Rattle.std.proofs.{lemmas.Bool.eq-eqb, lemmas.Slice.Eq.bytes_eq-Decides}
use mathlib.Core.Path.{fun_ext}
use Rattle.osbase.specs.{History.no_cores, declared.items.Item.Item, declared.limits.TheConstants.CORES}
use Rattle.ossyntax.specs.ParsedOp.{words_of}
use Rattle.ossyntax.proofs.{KindTexts.cond-some, KindTexts.mapped, RoundTrip.chained}
use Rattle.osplan.specs.{Representable.is_representable, Limits.is_within_limits, declared.plans.Plan.Plan}
use Rattle.oslog.specs.{Forms.form_of, Forms.item_of, Forms.no_parts, Logs.is_call_representable, Logs.is_item_representable, Rows.keyword_text, Rows.row_of, declared.forms.Parts.Parts, declared.rows.Kind.Kind, declared.rows.Line.Line, declared.rows.Tail.Tail, declared.rows.TheConstants.LINES}
use Rattle.oslog.specs.Items.{first_item, item_as, item_behind, item_of_text, later_words, line_of}
use Rattle.oslog.specs.Words.{call_of, cores_from, read_words, tail_words, with_tail, word_text}
use Rattle.oslog.specs.declared.rows.Line.TheVariants as L
use Rattle.oslog.specs.declared.rows.Tail.TheVariants as T
use Rattle.oslog.proofs.{Calls.call-back, Cores.cores-back, Joining.text-of-words, ReadWords.are_apart, ReadWords.reads-back, WordKinds.is_part_representable, WordKinds.part_view}

-- ---- statements about every row, which the checker proves case by case

row-apart : (l : Line) → are_apart (row_of l).1 ≡ true
row-apart l = grind arith

-- The item of a form is written with the words of this form.
first-kept : (l : Line) (q : Parts) → (row_of (form_of (item_of l q)).0).0 ≡ (row_of l).0
first-kept l q = grind arith

later-kept : (plan : Plan) (l : Line) (q : Parts) → later_words plan (form_of (item_of l q)) ≡ map (word_text plan q) (row_of l).1 ++ tail_words plan q (row_of l).2
later-kept plan l q = grind arith

-- ---- the tail

abbrev pub is_tail_representable : Plan → Parts → Tail → Bool
is_tail_representable plan q T.Nothing = true
is_tail_representable plan q T.Call = is_call_representable plan q.call
is_tail_representable plan q T.Cores = length q.cores.members == CORES

record TailBack (plan : Plan) (tail : Tail) (words : List (List ℕ)) (p q : Parts) : Type 0 where
  words_are : tail_words plan q tail ≡ words
  representable : is_tail_representable plan q tail ≡ true
  stays : part_view plan q ≡ part_view plan p

-- ---- what is read is representable

-- the first clause only splits the forms into cases
item-representable : (plan : Plan) (l : Line) (q : Parts) → list_all (is_part_representable plan q) (row_of l).1 ≡ true → is_tail_representable plan q (row_of l).2 ≡ true → is_item_representable plan (item_of l q) ≡ true
item-representable plan L.Op q parts tail = refl
item-representable plan l q parts tail = grind arith

module _ (plan : Plan) (limits : IsTrue (is_within_limits plan)) (config_representable : IsTrue (is_representable plan)) where
  -- A tail is read back, and leaves the values of all words of the row as they are.
  tail-back : (tail : Tail) (words : List (List ℕ)) (p q : Parts) → with_tail plan tail words p ≡ Some q → TailBack plan tail words p q
  tail-back T.Nothing [] p q e = let same : p ≡ q = cc in rw (← same) (record { words_are = refl; representable = refl; stays = refl })
  tail-back T.Nothing (w ∷ words) p q e = cc
  tail-back T.Call words p q e =
      let m = mapped (λ call. record p { call = call }) (call_of plan words) q e in
      let back = call-back plan limits config_representable words m.0 m.1 in
      rw (← m.2) (record { words_are = back.0; representable = back.1; stays = fun_ext (λ k. grind arith) })
  tail-back T.Cores words p q e =
      let m = mapped (λ cores. record p { cores = cores }) (cores_from 0 no_cores words) q e in
      let back = cores-back words m.0 m.1 in
      rw (← m.2) (record { words_are = back.0; representable = eq-eqb (length m.0.members) 16 back.1; stays = fun_ext (λ k. grind arith) })

  -- ---- a line

  as-line : (text : List ℕ) (words : List (List ℕ)) (l : Line) (item : Item) → words_of text ≡ words → item_as plan words l ≡ Some item → (line_of plan item ≡ text) × (is_item_representable plan item ≡ true)
  as-line text [] l item are e = cc
  as-line text (first ∷ words) l item are e =
      let c = cond-some (bytes_eq first (keyword_text (row_of l).0)) (item_behind plan words l) item e in
      let here = (bytes_eq-Decides first (keyword_text (row_of l).0)).0 c.0 in
      let m = mapped (item_of l) (option_and_then (λ (p : Parts × List (List ℕ)). with_tail plan (row_of l).2 p.1 p.0) (read_words plan (row_of l).1 words no_parts)) item c.1 in
      let r = chained (λ (p : Parts × List (List ℕ)). with_tail plan (row_of l).2 p.1 p.0) (read_words plan (row_of l).1 words no_parts) m.0 m.1 in
      let read = reads-back plan limits config_representable (row_of l).1 words no_parts r.0.0 r.0.1 (row-apart l) r.1 in
      let tail = tail-back (row_of l).2 r.0.1 r.0.0 m.0 r.2 in
      let parts = ap (λ (view : Kind → List ℕ × Bool). list_all (λ k. (view k).1) (row_of l).1) tail.stays ∙ read.representable in
      let texts = ap (λ (view : Kind → List ℕ × Bool). map (λ k. (view k).0) (row_of l).1) tail.stays in (
        rw (← m.2, first-kept l m.0, later-kept plan l m.0, texts, tail.words_are, read.words_are, ← here) (text-of-words text first words are),
        rw (← m.2) (item-representable plan l m.0 parts tail.representable),
      )

first-found : (f : Line → Option Item) (ls : List Line) (item : Item) (P : Type 0) → ((l : Line) → f l ≡ Some item → P) → first_item f ls ≡ Some item → P
first-found f [] item P each e = cc
first-found f (l ∷ ls) item P each e = grind (arith, each l, first-found f ls item P each)

-- The item that is read from a line has this line, and is representable.
pub line-back : (plan : Plan) → IsTrue (is_within_limits plan) → IsTrue (is_representable plan) → (text : List ℕ) (item : Item) → item_of_text plan text ≡ Some item → (line_of plan item ≡ text) × (is_item_representable plan item ≡ true)
line-back plan limits config_representable text item e =
    first-found (item_as plan (words_of text)) LINES item _ (λ l is. as-line plan limits config_representable text (words_of text) l item refl is) e
