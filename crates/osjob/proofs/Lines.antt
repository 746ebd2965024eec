-- The lines or words of the cores that pass a test, as far as they are written.
use Rattle.std.proofs.Common.{◌≡◌, ◌∙◌, ◌+◌, ◌<◌, ◌++◌, ℕ, Bool, true, false, cond, if◌then◌else◌, List, [], ◌∷◌, Option, Result, Ok, Err, refl, ap, sym, append-nil, append_assoc, take, drop, filter, take-append-drop}
use Rattle.std.specs.{List.flat_map, Result.IsErr}
use Rattle.std.proofs.{lemmas.Grind.flat_map-append, lemmas.List.Elements.filter-append}
use Rattle.osbase.specs.{declared.references.CoreId.CoreId, Sets.core_ids}
use Rattle.ostrace.specs.Taken.{Writes}
use Rattle.ostrace.proofs.Writing.{Writes-broken, Wrote, Wrote-all, Wrote-then}
use Rattle.osrun.proofs.Configured.{id_at, one_more_id}

module _ (holds : CoreId → Bool) (line : CoreId → List ℕ) where
  -- the lines of the cores with a number below n
  abbrev pub lines_below : ℕ → List ℕ
  lines_below n = flat_map line (filter holds (take n core_ids))

  -- the line of a core, if it has one
  abbrev pub line_at : CoreId → List ℕ
  line_at id = if holds id then line id else []

  abbrev pub all_lines : List ℕ
  all_lines = flat_map line (filter holds core_ids)

  one_line : (id : CoreId) (b : Bool) → flat_map line (cond b (id ∷ []) []) ≡ (if b then line id else [])
  one_line id true = append-nil (line id)
  one_line id false = refl

  lines_below-more : (n : ℕ) → n < 16 → lines_below (n + 1) ≡ lines_below n ++ line_at (id_at n)
  lines_below-more n lt =
      ap (λ (ids : List CoreId). flat_map line (filter holds ids)) (one_more_id n lt)
      ∙ ap (flat_map line) (filter-append holds (take n core_ids) (id_at n ∷ []))
      ∙ flat_map-append line (filter holds (take n core_ids)) (cond (holds (id_at n)) (id_at n ∷ []) [])
      ∙ ap (λ l. lines_below n ++ l) (one_line (id_at n) (holds (id_at n)))

  -- the lines of the other cores
  lines_rest : (n : ℕ) → (rest : List ℕ) × (lines_below n ++ rest ≡ all_lines)
  lines_rest n =
      let ids : filter holds (take n core_ids) ++ filter holds (drop n core_ids) ≡ filter holds core_ids =
      sym (filter-append holds (take n core_ids) (drop n core_ids)) ∙ ap (filter holds) (take-append-drop n core_ids) in (
        flat_map line (filter holds (drop n core_ids)),
        sym (flat_map-append line (filter holds (take n core_ids)) (filter holds (drop n core_ids))) ∙ ap (flat_map line) ids,
      )

  -- all lines are the lines before a core's line, that line, and the lines after it
  lines_at : (n : ℕ) → n < 16 → (rest : List ℕ) × (lines_below n ++ (line_at (id_at n) ++ rest) ≡ all_lines)
  lines_at n lt =
      let after = lines_rest (n + 1) in
      (after.0, sym (append_assoc (lines_below n) (line_at (id_at n)) after.0) ∙ ap (λ l. l ++ after.0) (sym (lines_below-more n lt)) ∙ after.1)

  module _ {S E : Type 0} (taken : S → Option (List ℕ)) (failed : S → ℕ) (old mid new : S) (n : ℕ) (lt : n < 16) (before : Wrote taken failed old mid (lines_below n)) where
    -- one more line was written
    pub Wrote-line : (done : Unit {0}) → Writes {E = E} taken failed mid new (line_at (id_at n)) (Ok done) → Wrote taken failed old new (lines_below (n + 1))
    Wrote-line done wrote =
        rw (lines_below-more n lt) (Wrote-then taken failed old mid new (lines_below n) (line_at (id_at n)) before (Wrote-all taken failed mid new (line_at (id_at n)) done wrote))

    -- if the write of a line failed, so did the write of all lines
    pub Writes-no_line : (e : E) (result : Result Unit E) → IsErr result → Writes taken failed mid new (line_at (id_at n)) (Err e) → Writes taken failed old new all_lines result
    Writes-no_line e result is_err broken =
        let parts = lines_at n lt in
        Writes-broken taken failed old mid new all_lines (lines_below n) (line_at (id_at n)) parts.0 e result is_err parts.1 before broken
