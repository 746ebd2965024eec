-- A loop over a core's objects of one kind, in index order: those before a place have acted.
use Rattle.std.proofs.Common.{◌≡◌, ℕ, ◌+◌, ◌<◌, ◌≤◌, Some, List, [], ◌∷◌, ◌++◌, length, take, ap, sym, subst, ◌∙◌, arith, get_or, Vec, Global}
use Rattle.std.specs.List.{enumerate_from, slice_get}
use Rattle.std.proofs.{lemmas.List.take_all, lemmas.List.take_more, lemmas.List.FromFn.get_or-enumerate_from, lemmas.List.FromFn.length-enumerate_from, lemmas.Option.slice_get-get_or}
use Rattle.osbase.specs.declared.marks.Mark.{Mark}
use Rattle.osplan.specs.{declared.plans.Core.Core, View.View}
use Rattle.osstate.specs.State.{KernelState}
use Rattle.osacts.specs.{Acts.Acts, Acts.for_each, Acts.in_turn, Runs.runs, Runs.says, Steps.QuietSteps, Steps.Steps}
use Rattle.osacts.proofs.Each.{as_steps, quiet-as, quiet-then, runs-append, says-append, then, in-words, wider}

module _ {A : Type 0} (acts : Core → ℕ → A → Acts) (objects : Core → List A) where
  abbrev pub acted : Core → ℕ → Acts
  acted core place = for_each (λ (p : ℕ × A). acts core p.0 p.1) (take place (enumerate_from 0 (objects core)))

  abbrev pub act_all : Core → Acts
  act_all core = in_turn (acts core) (objects core)

  -- The next object is at its place.
  pub object-at : (old now : KernelState) (xs : List A) (index place : ℕ) (x : A) → xs ≡ objects old.view.own → now.view ≡ old.view → index ≡ place → place < length xs → x ≡ get_or xs place x → slice_get (objects now.view.own) index ≡ Some x
  object-at old now xs index place x same view at within is =
      (λ i. slice_get (objects (view i).own) (at i)) ∙ ap (λ (ys : List A). slice_get ys place) (sym same) ∙ slice_get-get_or xs place x within ∙ ap (λ (y : A). Some y) (sym is)

  -- In a loop over a list of the objects, at a place.
  module _ (core : Core) (xs : List A) (place : ℕ) (same : xs ≡ objects core) where
    objects-length : length (enumerate_from 0 (objects core)) ≡ length xs
    objects-length = length-enumerate_from 0 (objects core) ∙ ap length (sym same)

    -- Past the last one all have acted.
    past-last : length xs ≤ place → act_all core ≡ acted core place
    past-last past =
        ap (λ (ps : List (ℕ × A)). for_each (λ (p : ℕ × A). acts core p.0 p.1) ps)
        (sym (take_all place (enumerate_from 0 (objects core)) (omega (arith, past, objects-length))))

    -- The next object acts, too.
    module _ (x : A) (within : place < length xs) (is : x ≡ get_or xs place x) where
      one-longer : take (place + 1) (enumerate_from 0 (objects core)) ≡ take place (enumerate_from 0 (objects core)) ++ (place, x) ∷ []
      one-longer =
          let inside : place < length (objects core) = omega (arith, within, ap length same) in
          let zero : 0 + place ≡ place = omega arith in
          let found : get_or (enumerate_from 0 (objects core)) place (place, x) ≡ (place, x) = get_or-enumerate_from 0 (objects core) place (place, x) inside ∙ λ i. (zero i, (sym (is ∙ ap (λ (ys : List A). get_or ys place x) same)) i) in
          take_more (enumerate_from 0 (objects core)) place (place, x) (omega (arith, within, objects-length)) ∙ ap (λ (p : ℕ × A). take place (enumerate_from 0 (objects core)) ++ p ∷ []) found

      more-runs : (s : KernelState) → runs (acted core (place + 1)) s ≡ runs (acts core place x) (runs (acted core place) s)
      more-runs s = ap (λ (ps : List (ℕ × A)). runs (for_each (λ (p : ℕ × A). acts core p.0 p.1) ps) s) one-longer ∙ runs-append (λ (p : ℕ × A). acts core p.0 p.1) (take place (enumerate_from 0 (objects core))) (place, x) s

      more-says : (s : KernelState) → says (acted core (place + 1)) s ≡ says (acted core place) s ++ says (acts core place x) (runs (acted core place) s)
      more-says s = ap (λ (ps : List (ℕ × A)). says (for_each (λ (p : ℕ × A). acts core p.0 p.1) ps) s) one-longer ∙ says-append (λ (p : ℕ × A). acts core p.0 p.1) (take place (enumerate_from 0 (objects core))) (place, x) s

  module _ {old : KernelState} (xs : List A) (place : ℕ) (same : xs ≡ objects old.view.own) where
    pub all-acted : {now : KernelState} {vec vec' : Vec Mark Global} {m n m' n' : ℕ} → length xs ≤ place → m ≤ m' → n ≤ n' → Steps m n (acted old.view.own place) old now vec vec' → Steps m' n' (act_all old.view.own) old now vec vec'
    all-acted past few short before =
        let all = past-last old.view.own xs place same past in
        wider few short (in-words all before)

    pub all-noted : {now : KernelState} {m m' : ℕ} → length xs ≤ place → m ≤ m' → QuietSteps m (acted old.view.own place) old now → QuietSteps m' (act_all old.view.own) old now
    all-noted past few before =
        let all = past-last old.view.own xs place same past in
        quiet-as (ap (λ (x : Acts). runs x old) all) (ap (λ (x : Acts). says x old) all) few before

    module _ (x : A) (within : place < length xs) (is : x ≡ get_or xs place x) where
      pub one-more : {now next : KernelState} {vec vec' vec'' : Vec Mark Global} {a b m n m' n' : ℕ} → m + a ≤ m' → n + b ≤ n' → Steps m n (acted old.view.own place) old now vec vec' → Steps a b (acts now.view.own place x) now next vec' vec'' → Steps m' n' (acted old.view.own (place + 1)) old next vec vec''
      one-more {now = now} {next = next} {vec' = vec'} {vec'' = vec''} {a = a} {b = b} few short before one =
          as_steps (more-runs old.view.own xs place same x within is old) (more-says old.view.own xs place same x within is old) few short
          (then before (subst (λ (core : Core). Steps a b (acts core place x) now next vec' vec'') (ap (λ (v : View). v.own) before.view) one))

      pub one-noted : {now next : KernelState} {a m m' : ℕ} → m + a ≤ m' → QuietSteps m (acted old.view.own place) old now → QuietSteps a (acts now.view.own place x) now next → QuietSteps m' (acted old.view.own (place + 1)) old next
      one-noted {now = now} {next = next} {a = a} few before one =
          quiet-as (more-runs old.view.own xs place same x within is old) (more-says old.view.own xs place same x within is old) few
          (quiet-then before (subst (λ (core : Core). QuietSteps a (acts core place x) now next) (ap (λ (v : View). v.own) before.view) one))
