use Rattle.std.proofs.Common.{◌≡◌, inr, map, refl}
use Rattle.std.proofs.{lemmas.List.Folds.list_all-map, lemmas.Simd.map-map}
use Rattle.osvalidate.specs.Operation.{op_of, operations_of}
use Rattle.osvalidate.proofs.Operations.{judged-none, judged-some}
use Rattle.osvalidate.proofs.judging.judge_parts.Goals as goal

pub returns-in_ok-ops_of-in-Ok : goal.returns-in_ok-ops_of-in-Ok
returns-in_ok-ops_of-in-Ok c =
    let j = judged-some c.args.objects.now.declared c.args.core (operations_of c.args.script.now) c.in-Ok.parts c.in-Ok.ensures in
    let value : c.from_vec-ops.result ≡ map (op_of c.args.objects.now.declared) (operations_of c.args.script.now) = rw (c.from_vec-ops.ensures, c.in_ok-ops_of-in-Ok.ensures, c.as_slice.ensures, j.1) (simp map-map refl) in (
      j.0,
      value,
      rw (c.verdict_of_parts-verdict.ensures, c.is_jumping_within.ensures, c.as_slice-in-Ok.ensures, c.as_slice-in-Ok-2.ensures, value, j.1) (simp list_all-map refl),
    )

pub returns-in-Err-Unfit : goal.returns-in-Err-Unfit
returns-in-Err-Unfit c = inr (refl, judged-none c.args.objects.now.declared c.args.core (operations_of c.args.script.now) (rw c.in-Err-Unfit.field-0-is at c.in-Err-Unfit.ensures))
