-- What a job holds.
use Rattle.std.proofs.Common.{◌≡◌, ℕ, cond, List, [], ◌∷◌, refl, arith}
use Rattle.osbase.specs.{declared.references.Runner.Runner, declared.histories.HeldResource.HeldResource, History.History, History.without_resource}
use Rattle.oscript.specs.{declared.Op.Op, Runners.row_of}
use Rattle.oslaws.specs.{Jobs.since_end, Held.is_among, Held.unreleased, Held.without_one}

-- Resources without those that are released, the oldest release first.
abbrev without_all : List ℕ → List HeldResource → List HeldResource
without_all [] held = held
without_all (n ∷ ns) held = without_all ns (without_resource n held)

none-left : (ns : List ℕ) → without_all ns [] ≡ []
none-left [] = refl
none-left (n ∷ ns) = none-left ns

-- A resource that was taken after those is given back by its first release, or stays in front.
newest-first : (ns : List ℕ) (x : HeldResource) (held : List HeldResource)
    → without_all ns (x ∷ held) ≡ cond (is_among x.index ns) (without_all (without_one x.index ns) held) (x ∷ without_all ns held)
newest-first [] x held = refl
newest-first (n ∷ ns) x held = grind (arith, newest-first ns x (without_resource n held))

-- If releases are newer than the history, what is left is what the job holds without the resources that they release.
left-of : (script : List Op) (r : Runner) (h : History) (ns : List ℕ) → without_all ns (row_of script r h).held ≡ unreleased r ns (since_end r h)
left-of script r [] ns = none-left ns
left-of script r (e ∷ h) ns =
    let released : (ms : List ℕ) (n : ℕ) → without_all ms (without_resource n (row_of script r h).held) ≡ unreleased r (n ∷ ms) (since_end r h) = λ ms n. left-of script r h (n ∷ ms) in
    grind (arith, none-left ns, newest-first, left-of script r h, released)

pub held-unreleased : (script : List Op) (r : Runner) (h : History) → (row_of script r h).held ≡ unreleased r [] (since_end r h)
held-unreleased script r h = left-of script r h []
