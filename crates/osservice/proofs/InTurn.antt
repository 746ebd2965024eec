-- What is done for each element of a list in turn, and how much that adds up to so far.
use Rattle.std.proofs.Common.{◌≡◌, ◌<◌, ◌≤◌, ◌+◌, ◌*◌, ℕ, Bool, true, false, cond, List, [], ◌∷◌, ◌++◌, length, take, drop, filter, get_or, sum_by, Vec, Global, refl, ap, sym, ◌∙◌, arith, length-append}
use Rattle.std.specs.List.{list_all}
use Rattle.std.proofs.{lemmas.Bool.and_parts, lemmas.List.append-nil, lemmas.List.take-append-drop, lemmas.List.take_more, lemmas.List.Elements.filter-append, lemmas.List.Elements.filter_more, lemmas.List.Folds.list_all-append, lemmas.List.Sums.sum_by-append, lemmas.List.Sums.sum_by_push, lemmas.Nat.column_fits}
use Rattle.osbase.specs.declared.marks.Mark.{Mark}
use Rattle.osplan.specs.declared.plans.Core.{Core}
use Rattle.osstate.specs.{Does.HasRoom, State.KernelState}
use Rattle.osacts.specs.{Acts.Acts, Acts.for_each, Runs.runs, Runs.says, Steps.Steps}
use Rattle.osacts.proofs.Each.{as_steps, runs-append, says-append, then, unmoved}

-- ---- how far a loop over a list has come

-- The elements before the next one, those up to it, and all.
pub record IsNext {X : Type 0} (before after all : List X) (x : X) : Type 0 where
  pub more : after ≡ before ++ x ∷ []
  pub rest : List X
  pub is : all ≡ after ++ rest

pub next-at : {X : Type 0} (xs : List X) (i : ℕ) (d : X) → i < length xs → IsNext (take i xs) (take (i + 1) xs) xs (get_or xs i d)
next-at xs i d within = record { more = take_more xs i d within; rest = drop (i + 1) xs; is = sym (take-append-drop (i + 1) xs) }

-- The same of those that pass a test: the next one of all is the next of these, or is left out.
module _ {X : Type 0} (p : X → Bool) (xs : List X) (i : ℕ) (d : X) (within : i < length xs) where
  kept : (b : Bool) → p (get_or xs i d) ≡ b → filter p (take (i + 1) xs) ≡ filter p (take i xs) ++ cond b (get_or xs i d ∷ []) []
  kept b test = filter_more p xs i d within ∙ ap (λ (c : Bool). filter p (take i xs) ++ cond c (get_or xs i d ∷ []) []) test

  pub next-kept : p (get_or xs i d) ≡ true → IsNext (filter p (take i xs)) (filter p (take (i + 1) xs)) (filter p xs) (get_or xs i d)
  next-kept on = record {
    more = kept true on;
    rest = filter p (drop (i + 1) xs);
    is = ap (filter p) (sym (take-append-drop (i + 1) xs)) ∙ filter-append p (take (i + 1) xs) (drop (i + 1) xs);
  }

  pub left-out : p (get_or xs i d) ≡ false → filter p (take (i + 1) xs) ≡ filter p (take i xs)
  left-out off = kept false off ∙ append-nil (filter p (take i xs))

-- ---- a loop that acts for each element

-- Each of these acted, with at most `entries` entries and `marks` marks, and no more letters joined the outbox than
-- they post in all.
pub record InTurn {X : Type 0} (f : X → Acts) (posted : Core → X → ℕ) (entries marks : ℕ) (done : List X) (old now : KernelState) (old_vec vec : Vec Mark Global) : Type 0 where
  pub steps : Steps (entries * length done) (marks * length done) (for_each f done) old now old_vec vec
  pub outbox : length now.border.outbox ≤ length old.border.outbox + sum_by (posted old.view.own) done

pub none-acted : {X : Type 0} {f : X → Acts} {posted : Core → X → ℕ} {entries marks : ℕ} {old : KernelState} {old_vec : Vec Mark Global} → InTurn f posted entries marks [] old old old_vec old_vec
none-acted = record { steps = as_steps refl refl (omega arith) (omega arith) unmoved; outbox = omega arith }

module _ {X : Type 0} {f : X → Acts} {posted : Core → X → ℕ} {entries marks : ℕ} {before after all : List X} {x : X} {old now : KernelState} {old_vec vec : Vec Mark Global} (next : IsNext before after all x) (done : InTurn f posted entries marks before old now old_vec vec) where
  longer : length after ≡ length before + 1
  longer = ap length next.more ∙ length-append before (x ∷ [])

  -- There is room for one more, and there are places for what it adds to the outbox.
  pub room-left : HasRoom (entries * length all) (marks * length all) old old_vec → HasRoom entries marks now vec
  room-left room =
      let within : length before < length all = omega (arith, longer, ap length next.is, length-append after next.rest) in
      record {
        count = omega (arith, column_fits entries (length before) entries (length all) within (omega arith), room.count, done.steps.count);
        place = omega (arith, column_fits marks (length before) marks (length all) within (omega arith), room.place, done.steps.len, done.steps.capacity);
      }

  summed : sum_by (posted old.view.own) after ≡ sum_by (posted old.view.own) before + posted old.view.own x
  summed = ap (sum_by (posted old.view.own)) next.more ∙ sum_by_push (posted old.view.own) before x

  pub places-left : {most : ℕ} → length old.border.outbox + sum_by (posted old.view.own) all ≤ most → length now.border.outbox + posted now.view.own x ≤ most
  places-left places =
      rw (done.steps.view) (omega (arith, summed, ap (sum_by (posted old.view.own)) next.is, sum_by-append (posted old.view.own) after next.rest, done.outbox, places))

  -- If all elements pass a test, the next one passes it.
  pub still-passes : (p : Core → X → Bool) → list_all (p old.view.own) all ≡ true → p now.view.own x ≡ true
  still-passes p each =
      let q = p old.view.own in
      let first = and_parts (list_all q after) (list_all q next.rest) (sym (list_all-append q after next.rest) ∙ ap (list_all q) (sym next.is) ∙ each) in
      let last = and_parts (list_all q before) (list_all q (x ∷ [])) (sym (list_all-append q before (x ∷ [])) ∙ ap (list_all q) (sym next.more) ∙ first.0) in
      rw (done.steps.view) ((and_parts (q x) true last.1).0)

  -- Then the next element acts, too.
  pub one-acted : {then_now : KernelState} {then_vec : Vec Mark Global} → Steps entries marks (f x) now then_now vec then_vec → length then_now.border.outbox ≤ length now.border.outbox + posted now.view.own x → InTurn f posted entries marks after old then_now old_vec then_vec
  one-acted one joined =
      let within : length before < length after = omega (arith, longer) in
      record {
        steps =
            as_steps (ap (λ (ys : List X). runs (for_each f ys) old) next.more ∙ runs-append f before x old) (ap (λ (ys : List X). says (for_each f ys) old) next.more ∙ says-append f before x old)
            (column_fits entries (length before) entries (length after) within (omega arith)) (column_fits marks (length before) marks (length after) within (omega arith)) (then done.steps one);
        outbox = omega (arith, rw (done.steps.view) at joined, done.outbox, summed);
      }
