-- Readings that depend on the items alone: no mark and no note changes them.
use Rattle.std.proofs.Common.{◌≡◌, suc, ◌∷◌, refl, ◌∙◌, add-one}
use Rattle.osbase.specs.{declared.items.Item.Item, History.History, History.Took, History.began_count, History.item_count, History.started_cores}
use Rattle.osplan.specs.View.{View}
use Rattle.osstate.specs.Readings.{phase_at}
use Rattle.oskernel.specs.Step.{after}
use Rattle.oskernel.proofs.Holding.{quiet_after}

module _ (v : View) (h : History) (i : Item) where
  pub phase-after : phase_at v (after v h i) ≡ phase_at v (Took i ∷ h)
  phase-after = quiet_after (phase_at v) (λ m k. refl) (λ n k. refl) v h i

  pub count-after : item_count (after v h i) ≡ suc (item_count h)
  count-after = quiet_after item_count (λ m k. refl) (λ n k. refl) v h i ∙ add-one (item_count h)

  pub began-after : began_count (after v h i) ≡ began_count (Took i ∷ h)
  began-after = quiet_after began_count (λ m k. refl) (λ n k. refl) v h i

  pub started-after : started_cores (after v h i) ≡ started_cores (Took i ∷ h)
  started-after = quiet_after started_cores (λ m k. refl) (λ n k. refl) v h i
