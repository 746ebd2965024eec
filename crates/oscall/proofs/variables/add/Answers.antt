use Rattle.std.proofs.Common.{◌≡◌, SFits, w64, ℤ, ap, sym, ◌∙◌, rules, lit≤}
use Rattle.std.proofs.lemmas.Int.{to_z-of_z}
use Rattle.oscript.specs.{declared.Frame.Frame, Frames.value_of}
use Rattle.osrunner.specs.Rows.{frame_in}
use Rattle.osacts.specs.Runs.{runs, says}
use Rattle.osacts.proofs.Each.{as_steps}
use Rattle.oscall.specs.Variables.{sets, sum_of}
use Rattle.oscall.proofs.variables.add.Goals as goal

pub returns : goal.returns
returns g c =
    let number : SFits w64 c.args.number = c.ranges.number in
    let value : SFits w64 c.value.result = search rules in
    let sum : SFits w64 c.sum-value.result = search rules in
    let sum-is = simp to_z-of_z at c.sum-value.ensures in
    let is : sum_of (value_of c.args.variable (frame_in c.args.runner c.args.state.now.tasks.rows)) c.args.number ≡ c.sum-value.result =
    ap (λ (frame : Frame). sum_of (value_of c.args.variable frame) c.args.number) (sym c.frame-frame.ensures) ∙ ap (λ (z : ℤ). sum_of z c.args.number) (sym c.value.ensures) ∙ sym sum-is in
    as_steps (ap (λ (z : ℤ). runs (sets c.args.runner c.args.variable z) c.args.state.now) is) (ap (λ (z : ℤ). says (sets c.args.runner c.args.variable z) c.args.state.now) is) (lit≤ tt) (lit≤ tt)
    (simp to_z-of_z at c.set.ensures)
