-- A change of only a counter's objects is the same as a pass over all objects that leaves the others unchanged.
use Rattle.std.proofs.Common.{◌≡◌, ℕ, zero, suc, ◌+◌, Bool, true, false, cond, filter, List, ◌∷◌, length, map, refl, ap, sym, ◌∙◌, arith, get_or}
use Rattle.std.specs.List.{slice_set}
use Rattle.std.proofs.lemmas.List.{set-get_or}
use Rattle.osbase.specs.{declared.references.CounterRef.CounterRef, Sets.numbers_from, Families.Family, Families.goes_by, Families.those_by}
use Rattle.osattached.specs.Attached.{all_changed, changed_by, each_changed}
use Rattle.osattached.proofs.Filling.{filled, filled-none, filled-on, filled-table}

module _ {R X A : Type 0} (f : Family R X) (c : CounterRef) (index : R → ℕ) (at : (n : ℕ) → index (f.ref n) ≡ n) (change : R → A → A) (none : A) where
  abbrev step : ℕ → A → A
  step = changed_by f c change

  -- one more place
  place-on : (n : ℕ) (ys : List A) (b : Bool) → goes_by f c (f.ref n) ≡ b → cond b (slice_set ys (index (f.ref n)) (change (f.ref n) (get_or ys (index (f.ref n)) none))) ys ≡ slice_set ys n (step n (get_or ys n none))
  place-on n ys true on =
      ap (λ k. slice_set ys k (change (f.ref n) (get_or ys k none))) (at n)
      ∙ ap (λ b. slice_set ys n (cond b (change (f.ref n) (get_or ys n none)) (get_or ys n none))) (sym on)
  place-on n ys false off = sym (ap (λ b. slice_set ys n (cond b (change (f.ref n) (get_or ys n none)) (get_or ys n none))) off ∙ set-get_or ys n none)

  next-on : (xs ys : List A) (first : ℕ) (others : List R) (b : Bool) → goes_by f c (f.ref first) ≡ b → ys ≡ filled step 0 first xs → (end : List A)
      → ((zs : List A) → zs ≡ filled step 0 (first + 1) xs → each_changed index change none others zs ≡ end)
      → each_changed index change none (cond b (f.ref first ∷ others) others) ys ≡ end
  next-on xs ys first others true on is end rest =
      rest (slice_set ys (index (f.ref first)) (change (f.ref first) (get_or ys (index (f.ref first)) none))) (place-on first ys true on ∙ filled-on step first xs ys none is)
  next-on xs ys first others false off is end rest = rest ys (place-on first ys false off ∙ filled-on step first xs ys none is)

  all-on : (xs ys : List A) (first count : ℕ) → ys ≡ filled step 0 first xs
      → each_changed index change none (filter (goes_by f c) (map f.ref (numbers_from first count))) ys ≡ filled step 0 (first + count) xs
  all-on xs ys first zero is = is ∙ ap (λ n. filled step 0 n xs) (let same : first ≡ first + 0 = omega arith in same)
  all-on xs ys first (suc count) is =
      next-on xs ys first (filter (goes_by f c) (map f.ref (numbers_from (first + 1) count))) (goes_by f c (f.ref first)) refl is (filled step 0 (first + 1 + count) xs) (λ zs next. all-on xs zs (first + 1) count next)
      ∙ ap (λ n. filled step 0 n xs) (let one : first + 1 + count ≡ first + suc count = omega arith in one)

  pub each-all : (xs : List A) → length xs ≡ f.count → each_changed index change none (those_by f c) xs ≡ all_changed f c change none xs
  each-all xs long =
      all-on xs xs 0 f.count (sym (filled-none step 0 xs))
      ∙ ap (λ n. filled step 0 n xs) (let all : 0 + f.count ≡ length xs = omega (arith, long) in all)
      ∙ filled-table step xs none
      ∙ ap (λ (n : ℕ). map (λ (k : ℕ). step k (get_or xs k none)) (numbers_from 0 n)) long
