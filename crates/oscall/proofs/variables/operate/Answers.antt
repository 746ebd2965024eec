use Rattle.std.proofs.Common.{SFits, w64, refl, rules}
use Rattle.std.proofs.lemmas.Int.{to_z-of_z}
use Rattle.oscall.proofs.variables.operate.Goals as goal

pub returns-in-Set : goal.returns-in-Set
returns-in-Set g c =
    let number : SFits w64 c.in-Set.number = search rules in
    let done = simp to_z-of_z at c.set.ensures in
    rw c.in-Set.is (record { known = refl; steps = (λ yes. done); others = (λ no. cc) })

pub returns-in-Add : goal.returns-in-Add
returns-in-Add g c =
    let number : SFits w64 c.in-Add.number = search rules in
    let done = simp to_z-of_z at c.add.ensures in
    rw c.in-Add.is (record { known = refl; steps = (λ yes. done); others = (λ no. cc) })
