-- How steps compose: one after the other, the same in other words, and one for each of a list.
use Rattle.std.proofs.Common.{◌≡◌, ◌≤◌, ◌+◌, ℕ, List, [], ◌∷◌, ◌++◌, Bool, true, false, refl, ap, sym, subst, ◌∙◌, arith, append_assoc, Vec, Global}
use Rattle.std.proofs.lemmas.List.{append-nil}
use Rattle.osbase.specs.{declared.marks.Mark.Mark, History.Note, History.Noted, History.Printed}
use Rattle.osprogress.specs.Progress.{Joins}
use Rattle.osstate.specs.{State.KernelState, Steps.state_after}
use Rattle.osacts.specs.Acts.{Acts, both, for_each, look, nothing, notes, prints, when}
use Rattle.osacts.specs.{Runs.runs, Runs.says, Runs.seen_in, Seen.Seen, Steps.QuietSteps, Steps.Steps}

-- Nothing is done.
pub unmoved : {s : KernelState} {vec : Vec Mark Global} → Steps 0 0 nothing s s vec vec
unmoved {vec = vec} = record { state = refl; prints = sym (append-nil vec.items); view = refl; phase = refl; count = omega arith; len = omega arith; capacity = refl }

-- A line is printed.
pub printed : {m : Mark} {s s' : KernelState} {vec vec' : Vec Mark Global} → s' ≡ state_after (Printed m) s → Joins m vec vec' → Steps 1 1 (prints m) s s' vec vec'
printed same joins = record {
  state = same;
  prints = joins.items;
  view = ap (λ (q : KernelState). q.view) same;
  phase = ap (λ (q : KernelState). q.progress.phase) same;
  count = omega (arith, ap (λ (q : KernelState). q.progress.entries) same);
  len = joins.len;
  capacity = joins.capacity;
}

-- Something happens without a line.
pub noted : (n : Note) (s : KernelState) {s' : KernelState} → s' ≡ state_after (Noted n) s → QuietSteps 1 (notes n) s s'
noted n s same = record {
  state = same;
  silent = refl;
  view = ap (λ (q : KernelState). q.view) same;
  phase = ap (λ (q : KernelState). q.progress.phase) same;
  count = omega (arith, ap (λ (q : KernelState). q.progress.entries) same);
}

-- Acts without a line leave the vector as it is.
pub unprinted : {most : ℕ} {x : Acts} {s s' : KernelState} {vec : Vec Mark Global} → QuietSteps most x s s' → Steps most 0 x s s' vec vec
unprinted {vec = vec} e = record {
  state = e.state;
  prints = sym (append-nil vec.items) ∙ ap (λ (ms : List Mark). vec.items ++ ms) (sym e.silent);
  view = e.view;
  phase = e.phase;
  count = e.count;
  len = omega arith;
  capacity = refl;
}

-- Some acts, and then others.
pub then : {a b m n : ℕ} {x y : Acts} {s s' s'' : KernelState} {vec vec' vec'' : Vec Mark Global} → Steps a m x s s' vec vec' → Steps b n y s' s'' vec' vec'' → Steps (a + b) (m + n) (both x y) s s'' vec vec''
then {x = x} {y = y} {s = s} {s' = s'} {vec = vec} e d = record {
  state = d.state ∙ ap (runs y) e.state;
  prints =
      d.prints
      ∙ ap (λ (ms : List Mark). ms ++ says y s') e.prints
      ∙ append_assoc vec.items (says x s) (says y s')
      ∙ ap (λ (q : KernelState). vec.items ++ (says x s ++ says y q)) e.state;
  view = d.view ∙ e.view;
  phase = d.phase ∙ e.phase;
  count = omega (arith, e.count, d.count);
  len = omega (arith, e.len, d.len);
  capacity = d.capacity ∙ e.capacity;
}

-- The same acts in other words, within the same bounds or greater ones.
pub as_steps : {a b m n : ℕ} {x y : Acts} {s s' : KernelState} {vec vec' : Vec Mark Global} → runs y s ≡ runs x s → says y s ≡ says x s → a ≤ b → m ≤ n → Steps a m x s s' vec vec' → Steps b n y s s' vec vec'
as_steps {vec = vec} same told few short e = record {
  state = e.state ∙ sym same;
  prints = e.prints ∙ ap (λ (ms : List Mark). vec.items ++ ms) (sym told);
  view = e.view;
  phase = e.phase;
  count = omega (arith, few, e.count);
  len = omega (arith, short, e.len);
  capacity = e.capacity;
}

-- ---- the same in other words

module _ {a m : ℕ} {s s' : KernelState} {vec vec' : Vec Mark Global} where
  -- By other acts that are equal to these.
  pub in-words : {x y : Acts} → y ≡ x → Steps a m x s s' vec vec' → Steps a m y s s' vec vec'
  in-words same e = subst (λ (z : Acts). Steps a m z s s' vec vec') (sym same) e

  -- By acts that are chosen by what is read now.
  pub looked : {f : Seen → Acts} → Steps a m (f (seen_in s)) s s' vec vec' → Steps a m (look f) s s' vec vec'
  looked e = record { state = e.state; prints = e.prints; view = e.view; phase = e.phase; count = e.count; len = e.len; capacity = e.capacity }

  -- By the acts on the side of a test that holds.
  pub where-holds : {b : Bool} {x y : Acts} → b ≡ true → Steps a m x s s' vec vec' → Steps a m (when b x y) s s' vec vec'
  where-holds {b} {x} {y} is e =
      subst (λ (c : Bool). Steps a m (when c x y) s s' vec vec') (sym is)
      (record { state = e.state; prints = e.prints; view = e.view; phase = e.phase; count = e.count; len = e.len; capacity = e.capacity })

  pub where-fails : {b : Bool} {x y : Acts} → b ≡ false → Steps a m y s s' vec vec' → Steps a m (when b x y) s s' vec vec'
  where-fails {b} {x} {y} is e =
      subst (λ (c : Bool). Steps a m (when c x y) s s' vec vec') (sym is)
      (record { state = e.state; prints = e.prints; view = e.view; phase = e.phase; count = e.count; len = e.len; capacity = e.capacity })

  -- With room for more.
  pub wider : {b n : ℕ} {x : Acts} → a ≤ b → m ≤ n → Steps a m x s s' vec vec' → Steps b n x s s' vec vec'
  wider few short e = record { state = e.state; prints = e.prints; view = e.view; phase = e.phase; count = omega (arith, few, e.count); len = omega (arith, short, e.len); capacity = e.capacity }

-- ---- for each of a list

-- One more element acts after those before it.
pub runs-append : {A : Type 0} (f : A → Acts) (xs : List A) (x : A) (s : KernelState) → runs (for_each f (xs ++ x ∷ [])) s ≡ runs (f x) (runs (for_each f xs) s)
runs-append f [] x s = refl
runs-append f (y ∷ ys) x s = runs-append f ys x (runs (f y) s)

pub says-append : {A : Type 0} (f : A → Acts) (xs : List A) (x : A) (s : KernelState) → says (for_each f (xs ++ x ∷ [])) s ≡ says (for_each f xs) s ++ says (f x) (runs (for_each f xs) s)
says-append f [] x s = append-nil (says (f x) s)
says-append f (y ∷ ys) x s =
    ap (λ (ms : List Mark). says (f y) s ++ ms) (says-append f ys x (runs (f y) s))
    ∙ sym (append_assoc (says (f y) s) (says (for_each f ys) (runs (f y) s)) (says (f x) (runs (for_each f ys) (runs (f y) s))))

-- ---- what has no line

pub quiet-then : {a b : ℕ} {x y : Acts} {s s' s'' : KernelState} → QuietSteps a x s s' → QuietSteps b y s' s'' → QuietSteps (a + b) (both x y) s s''
quiet-then {x = x} {y = y} {s = s} e d = record {
  state = d.state ∙ ap (runs y) e.state;
  silent = ap (λ (ms : List Mark). ms ++ says y (runs x s)) e.silent ∙ ap (says y) (sym e.state) ∙ d.silent;
  view = d.view ∙ e.view;
  phase = d.phase ∙ e.phase;
  count = omega (arith, e.count, d.count);
}

pub quiet-as : {a b : ℕ} {x y : Acts} {s s' : KernelState} → runs y s ≡ runs x s → says y s ≡ says x s → a ≤ b → QuietSteps a x s s' → QuietSteps b y s s'
quiet-as same told few e = record { state = e.state ∙ sym same; silent = told ∙ e.silent; view = e.view; phase = e.phase; count = omega (arith, few, e.count) }
