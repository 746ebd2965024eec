-- The ISRs of a core, one after the other.
use Rattle.std.proofs.Common.{◌≡◌, ℕ, suc, ◌+◌, ◌-◌, ◌<◌, ◌≤◌, true, false, List, ◌∷◌, map, Some, None, refl, ap, ◌∙◌, arith}
use Rattle.std.specs.Prelude.{find}
use Rattle.osbase.specs.{Sets.numbers_from, declared.references.IsrRef.IsrRef}
use Rattle.osplan.specs.declared.plans.Core.{Core}
use Rattle.osinput.specs.Given.{is_isr_named}

abbrev pub ref_at : Core → ℕ → IsrRef
ref_at core index = record { core = core.id; index = index }

-- The ISRs of a core from an index on.
abbrev pub refs_from : Core → ℕ → List IsrRef
refs_from core first = map (ref_at core) (numbers_from first (16 - first))

first-ref : (core : Core) (n : ℕ) → n < 16 → refs_from core n ≡ ref_at core n ∷ refs_from core (n + 1)
first-ref core n low = let left : 16 - n ≡ suc (16 - (n + 1)) = omega arith in ap (λ (count : ℕ). map (ref_at core) (numbers_from n count)) left

-- Among these, the ISR of a name is the first, or one of the others, or does not exist.
module _ (core : Core) (name : List ℕ) where
  pub found-here : (n : ℕ) → n < 16 → is_isr_named core name (ref_at core n) ≡ true → find (is_isr_named core name) (refs_from core n) ≡ Some (ref_at core n)
  found-here n low is = ap (find (is_isr_named core name)) (first-ref core n low) ∙ rw is refl

  pub found-later : (n : ℕ) → n < 16 → is_isr_named core name (ref_at core n) ≡ false → find (is_isr_named core name) (refs_from core n) ≡ find (is_isr_named core name) (refs_from core (n + 1))
  found-later n low other = ap (find (is_isr_named core name)) (first-ref core n low) ∙ rw other refl

  pub none-left : (n : ℕ) → 16 ≤ n → find (is_isr_named core name) (refs_from core n) ≡ None
  none-left n past = let none : 16 - n ≡ 0 = omega arith in ap (λ (count : ℕ). find (is_isr_named core name) (map (ref_at core) (numbers_from n count))) none
