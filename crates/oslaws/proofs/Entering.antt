-- Which ISRs were entered and have not left.
use Rattle.std.proofs.Common.{◌≡◌, ◌≢◌, ◌⊎◌, true, false, List, [], ◌∷◌, refl, ap, sym, ◌∙◌, arith}
use Rattle.std.specs.Option.{option_or}
use Rattle.std.proofs.lemmas.List.{map-id}
use Rattle.osbase.specs.{declared.references.IsrRef.IsrRef, History.Entry, History.History, History.current_job, History.same_isr, Interrupts.entered_isrs, Interrupts.isr_jobs, Interrupts.oldest_entered, Interrupts.without_isr}
use Rattle.osbase.proofs.Same.{same_isr-true}
use Rattle.oslaws.specs.Entered.{RunsTheLastEntered, unleft}
use Rattle.oslaws.proofs.Once.{Apart, Keyed, apart-without, in-without, outside, outside-none, outside-without}

isr-tells : (a b : IsrRef) → ((same_isr a b ≡ true) × (a ≡ b)) ⊎ ((same_isr a b ≡ false) × (a ≢ b))
isr-tells a b = grind (arith, same_isr-true a b)

abbrev isrs : Keyed IsrRef IsrRef
isrs = record { key = λ i. i; same = same_isr; tells = isr-tells; without = without_isr; without_none = λ i. refl; without_front = λ i x xs. refl }

-- Each entered ISR is in the list once, and without the `later` ones the list is that of the ISRs that have not left.
record Right (h : History) : Type 0 where
  pub apart : Apart isrs (entered_isrs h)
  pub order : (later : List IsrRef) → outside isrs later (entered_isrs h) ≡ unleft later h

step : (e : Entry) (h : History) → Right h → Right (e ∷ h)
step e h p = record {
  apart = grind (arith, p.apart, apart-without isrs, in-without isrs, isr-tells);
  order = λ later. grind (arith, p.apart, p.order, outside-without isrs);
}

always : (h : History) → Right h
always [] = record { apart = tt; order = λ later. refl }
always (e ∷ h) = step e h (always h)

pub runs-last : (h : History) → RunsTheLastEntered h
runs-last h =
    let same : entered_isrs h ≡ unleft [] h = sym (outside-none isrs (entered_isrs h) ∙ map-id (entered_isrs h)) ∙ (always h).order [] in
    record { isrs = same; running = ap (λ (isrs : List IsrRef). option_or (oldest_entered isrs (isr_jobs h)) (current_job h)) same }
