-- The first of an ISR's places, and the list without it.
use Rattle.std.proofs.Common.{◌≡◌, ℕ, suc, ◌<◌, true, List, ◌∷◌, ◌++◌, ap, sym, ◌∙◌, length, take, drop, get_or, drop-cons}
use Rattle.std.specs.List.{remove}
use Rattle.osbase.specs.{declared.references.IsrRef.IsrRef, History.same_isr, Interrupts.without_isr}

pub isr-removed : (i : IsrRef) (xs : List IsrRef) (n : ℕ) (x : IsrRef) → n < length xs → x ≡ get_or xs n x → same_isr x i ≡ true → without_isr i xs ≡ take n xs ++ without_isr i (drop n xs) → remove xs n ≡ without_isr i xs
isr-removed i xs n x h e same first =
    let rest : drop n xs ≡ x ∷ drop (suc n) xs = drop-cons xs n x h ∙ ap (λ (y : IsrRef). y ∷ drop (suc n) xs) (sym e) in
    sym (first ∙ ap (λ (ds : List IsrRef). take n xs ++ without_isr i ds) rest ∙ rw same)
