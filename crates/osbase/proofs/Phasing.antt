-- Two phases that test as the same phase are equal.
use Rattle.std.proofs.Common.{◌≡◌, Bool, true, refl, ap, ◌∙◌}
use Rattle.std.proofs.lemmas.Bool.{false≢true}
use Rattle.osbase.specs.{declared.histories.Phase.Phase, Phases.same_phase}
use Rattle.osbase.specs.declared.histories.Phase.TheVariants.{Off, Boot, FirstGate, BetweenGates, SecondGate, Live, Drained, Closing, Ended}

pub same_phase-is : (asked p : Phase) → same_phase asked p ≡ true → p ≡ asked
same_phase-is Off Off e = refl
same_phase-is Boot Boot e = refl
same_phase-is FirstGate FirstGate e = refl
same_phase-is BetweenGates BetweenGates e = refl
same_phase-is SecondGate SecondGate e = refl
same_phase-is Live Live e = refl
same_phase-is Drained Drained e = refl
same_phase-is Closing Closing e = refl
same_phase-is Ended Ended e = refl
same_phase-is asked p e = absurd (false≢true e)

-- If a core is in the asked phase, a test of its phase has the answer for the asked phase.
pub in_phase : {b : Bool} (asked p : Phase) (test : Phase → Bool) → same_phase asked p ≡ true → test asked ≡ b → test p ≡ b
in_phase asked p test stands is = ap test (same_phase-is asked p stands) ∙ is
