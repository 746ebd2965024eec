use Rattle.std.proofs.Common.{◌≡◌, SFits, w64, ℤ, ap, sym, ◌∙◌, rules, lit≤}
use Rattle.std.proofs.lemmas.Int.{to_z-of_z}
use Rattle.oscript.specs.{declared.Frame.Frame, Frames.value_of}
use Rattle.osrunner.specs.Rows.{frame_in}
use Rattle.osacts.specs.Runs.{runs, says}
use Rattle.osacts.proofs.Each.{as_steps}
use Rattle.oscall.specs.Variables.{sets, sum_of}
use Rattle.oscall.proofs.variables.add_variable.Goals as goal

pub returns : goal.returns
returns g c =
    let value : SFits w64 c.value.result = search rules in
    let other : SFits w64 c.value-2.result = search rules in
    let sum : SFits w64 c.sum-value.result = search rules in
    let sum-is = simp to_z-of_z at c.sum-value.ensures in
    let frame = frame_in c.args.runner c.args.state.now.tasks.rows in
    let is : sum_of (value_of c.args.variable frame) (value_of c.args.other frame) ≡ c.sum-value.result =
    ap (λ (f : Frame). sum_of (value_of c.args.variable f) (value_of c.args.other f)) (sym c.frame-frame.ensures) ∙ ap (λ (z : ℤ). sum_of z (value_of c.args.other c.frame-frame.result)) (sym c.value.ensures) ∙ ap (λ (z : ℤ). sum_of c.value.result z) (sym c.value-2.ensures) ∙ sym sum-is in
    as_steps (ap (λ (z : ℤ). runs (sets c.args.runner c.args.variable z) c.args.state.now) is) (ap (λ (z : ℤ). says (sets c.args.runner c.args.variable z) c.args.state.now) is) (lit≤ tt) (lit≤ tt)
    (simp to_z-of_z at c.set.ensures)
