-- How often a job has suspended interrupts.
use Rattle.std.proofs.Common.{◌≡◌, ◌≤◌, ◌+◌, true, List, [], ◌∷◌, refl, arith}
use Rattle.std.proofs.lemmas.Bool.Decides.{nat_tests}
use Rattle.osbase.specs.{declared.references.Runner.Runner, History.History}
use Rattle.oscript.specs.{declared.Op.Op, Runners.row_of}
use Rattle.oslaws.specs.{Jobs.how_many, Jobs.since_end, Depth.resumes, Depth.suspends, Depth.were_balanced}

module _ (script : List Op) (r : Runner) where
  pub at-most : (h : History) → (row_of script r h).depth ≤ 255
  at-most [] = omega arith
  at-most (e ∷ h) = grind (arith, nat_tests, at-most h)

  pub counted : (h : History) → were_balanced r (since_end r h) ≡ true → (row_of script r h).depth + how_many (resumes r) (since_end r h) ≡ how_many (suspends r) (since_end r h)
  counted [] was = refl
  counted (e ∷ h) was = grind (arith, nat_tests, counted h, was)
