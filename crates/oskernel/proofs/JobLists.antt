-- If all jobs of a list pass a test, the oldest and the greatest pass it, and all still do if one ends or is restamped.
use native.Mathlib.Omega.{arith}
use Rattle.std.proofs.Common.{◌≡◌, ℕ, Bool, true, List, [], ◌∷◌, refl}
use Rattle.std.specs.{List.list_all, Option.option_map_or}
use Rattle.std.proofs.lemmas.List.Folds.{list_all-append}
use Rattle.osbase.specs.{declared.references.Runner.Runner, declared.histories.Job.Job}
use Rattle.osbase.specs.History.{first_greatest, oldest, stamped_anew, without_oldest}

module _ (p : Job → Bool) where
  pub without-all : (r : Runner) (js : List Job) → list_all p js ≡ true → list_all p (without_oldest r js) ≡ true
  without-all r [] all = refl
  without-all r (j ∷ js) all = grind (arith, without-all r js, all)

  pub oldest-passes : (r : Runner) (js : List Job) → list_all p js ≡ true → option_map_or p (oldest r js) true ≡ true
  oldest-passes r [] all = refl
  oldest-passes r (j ∷ js) all = grind (arith, oldest-passes r js, all)

  pub anew-all : (r : Runner) (n : ℕ) (js : List Job) → ((j : Job) → p j ≡ true → p (record j { stamp = n }) ≡ true) → list_all p js ≡ true → list_all p (stamped_anew r n js) ≡ true
  anew-all r n js still all = grind (arith, list_all-append p (without_oldest r js), oldest-passes r js all, without-all r js all, still, all)

  pub greatest-passes : (q : Job → ℕ) (js : List Job) → list_all p js ≡ true → option_map_or p (first_greatest q js) true ≡ true
  greatest-passes q [] all = refl
  greatest-passes q (j ∷ js) all = grind (arith, greatest-passes q js, all)
