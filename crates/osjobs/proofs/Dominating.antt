-- In a list of jobs by ascending stamps, the first job of the greatest priority is the one that no other beats.
use Rattle.std.proofs.Common.{◌≡◌, ◌⊎◌, inl, inr, ℕ, ◌<◌, nat_lt, Bool, true, false, cond, Option, Some, None, List, [], ◌∷◌, refl, ap, subst, ◌∙◌, arith}
use Rattle.std.proofs.lemmas.Bool.{lt-ltb, le-ltb}
use Rattle.osbase.specs.{declared.histories.Job.Job, History.better_of, History.first_greatest}
use Rattle.osjobs.specs.{Jobs.Ascending, Jobs.Each, Queue.Beats, Queue.OneOf}

at : (P : Job → Type 0) (js : List Job) (b : Job) → Each P js → OneOf b js → P b
at P [] b all one = absurd one
at P (j ∷ js) b all (inl same) = subst P same all.0
at P (j ∷ js) b all (inr later) = at P js b all.1 later

module _ (priority : Job → ℕ) where
  -- the best of some jobs is one of them
  best-of : (js : List Job) (k : Job) → first_greatest priority js ≡ Some k → OneOf k js
  best-of [] k e = cc
  best-of (j ∷ js) k e = by (first_greatest priority js) refl e (λ m f. best-of js m f)
    where
      chosen : (m : Job) (t : Bool) → OneOf m js → cond t m j ≡ k → (j ≡ k) ⊎ OneOf k js
      chosen m true one same = inr (subst (λ (x : Job). OneOf x js) same one)
      chosen m false one same = inl same

      by : (o : Option Job) → first_greatest priority js ≡ o → Some (better_of priority j o) ≡ Some k → ((m : Job) → first_greatest priority js ≡ Some m → OneOf m js) → (j ≡ k) ⊎ OneOf k js
      by None f e rest = inl (let same : j ≡ k = cc in same)
      by (Some m) f e rest = chosen m (nat_lt (priority j) (priority m)) (rest m f) (let same : cond (nat_lt (priority j) (priority m)) m j ≡ k = cc in same)

  pub dominating : (js : List Job) (b : Job) → Ascending js → OneOf b js → Each (Beats priority b) js → first_greatest priority js ≡ Some b
  dominating [] b up one all = absurd one
  dominating (j ∷ js) b up (inl same) all = by (first_greatest priority js) refl
    where
      none-better : (m : Job) → OneOf m js → nat_lt (priority j) (priority m) ≡ false
      none-better m one = beaten (at (Beats priority b) js m all.1 one)
        where
          beaten : Beats priority b m → nat_lt (priority j) (priority m) ≡ false
          beaten (inl below) = le-ltb (priority j) (priority m) (omega (arith, below, ap priority same))
          beaten (inr equal) = le-ltb (priority j) (priority m) (omega (arith, equal.0, ap priority same))

      by : (o : Option Job) → first_greatest priority js ≡ o → Some (better_of priority j o) ≡ Some b
      by None e = ap (λ (x : Job). Some x) same
      by (Some m) e = ap (λ (t : Bool). Some (cond t m j)) (none-better m (best-of js m e)) ∙ ap (λ (x : Job). Some x) same
  dominating (j ∷ js) b up (inr later) all =
      ap (λ (o : Option Job). Some (better_of priority j o)) (dominating js b up.1 later all.1) ∙ ap (λ (t : Bool). Some (cond t b j)) (worse all.0)
    where
      newer : j.stamp < b.stamp
      newer = at (λ (k : Job). j.stamp < k.stamp) js b up.0 later

      worse : Beats priority b j → nat_lt (priority j) (priority b) ≡ true
      worse (inl below) = lt-ltb (priority j) (priority b) below
      worse (inr equal) = absurd (omega (arith, equal.1, newer))
