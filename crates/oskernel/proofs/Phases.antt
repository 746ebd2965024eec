-- From which phases an item may lead on.
use Rattle.std.proofs.Common.{◌≡◌, ◌||◌, ℕ, true, arith}
use Rattle.osbase.specs.{declared.items.Item.Item, History.Took, History.phase_after}
use Rattle.osbase.specs.Phases.{is_before_live, is_past_first_gate}
use Rattle.osstate.specs.{State.KernelState, Sound.is_first_gate}
use Rattle.osadmit.specs.Admission.{admits}

-- no admitted item leads back before the second gate
pub forward : (places : ℕ) (s : KernelState) (item : Item) → admits places s item ≡ true → is_before_live (phase_after (Took item) s.progress.phase) ≡ true → is_before_live s.progress.phase ≡ true
forward places s item a b = grind (arith, a, b)

-- the first gate's item is the only admitted one that leads past the gate
pub onward : (places : ℕ) (s : KernelState) (item : Item) → admits places s item ≡ true → is_past_first_gate (phase_after (Took item) s.progress.phase) ≡ true → (is_first_gate item || is_past_first_gate s.progress.phase) ≡ true
onward places s item a b = grind (arith, a, b)
