-- Whether a job holds a resource.
use Rattle.std.proofs.Common.{◌≡◌, ℕ, ◌==◌, ◌&&◌, true, not, List, [], ◌∷◌, refl, nat_eq, arith}
use Rattle.std.proofs.lemmas.Bool.Decides.{eqb_tells, nat_tests}
use Rattle.osbase.specs.{declared.references.Runner.Runner, declared.histories.HeldResource.HeldResource}
use Rattle.osbase.specs.History.{History, is_held, without_resource}
use Rattle.oscript.specs.{declared.Op.Op, Runners.row_of}
use Rattle.oslaws.specs.Taken.{is_taken, takes_none_again}
use Rattle.oslaws.proofs.Once.{Apart, Keyed, apart-without, in-without}

abbrev resources : Keyed HeldResource ℕ
resources = record { key = λ x. x.index; same = nat_eq; tells = eqb_tells; without = without_resource; without_none = λ n. refl; without_front = λ n x held. refl }

held-without : (k n : ℕ) (held : List HeldResource) → Apart resources held → is_held n (without_resource k held) ≡ (not (k == n) && is_held n held)
held-without = in-without resources

module _ (script : List Op) (r : Runner) where
  -- A job holds each resource at most once, and exactly those that are taken.
  record AsSaid (h : History) : Type 0 where
    pub apart : Apart resources (row_of script r h).held
    pub each : (n : ℕ) → is_held n (row_of script r h).held ≡ is_taken r n h

  as-said : (h : History) → takes_none_again r h ≡ true → AsSaid h
  as-said [] none = record { apart = tt; each = λ n. refl }
  as-said (e ∷ h) none = record { apart = grind (arith, as-said h, apart-without resources, none); each = λ n. grind (arith, nat_tests, as-said h, held-without, none) }

  pub held-as-said : (h : History) → takes_none_again r h ≡ true → (n : ℕ) → is_held n (row_of script r h).held ≡ is_taken r n h
  held-as-said h none n = (as-said h none).each n
