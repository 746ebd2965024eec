use Rattle.std.proofs.lemmas.Result.{err_from_is_err_and}
use Rattle.osvalidate.proofs.Least.{least-tests_of}
use Rattle.osload.proofs.Meant.{plan-kept}
use Rattle.osload.proofs.configs.read_config.Goals as goal

pub returns-in_err-plan_if_faultless-clause-fault : goal.returns-in_err-plan_if_faultless-clause-fault
returns-in_err-plan_if_faultless-clause-fault c =
    let p = err_from_is_err_and c.from_residual-in_err-plan_if_faultless.result c.from_residual-in_err-plan_if_faultless.ensures.1 in
    rw (p.1, p.2, c.in_ok-value.ensures, c.in_ok-text.ensures.shape) (λ known. least-tests_of c.in_ok-text.text c.in_err-plan_if_faultless.field-0.0 (c.in_err-plan_if_faultless.ensures.fault known))

pub new-requires : goal.new-requires
new-requires c =
    let kept = plan-kept c.in_ok-text.text c.in_ok-text.ensures.named c.in_ok-plan_if_faultless.ensures.ok.0 in
    rw c.in_ok-plan_if_faultless.ensures.ok.1 (record { limits = kept.0; representable = kept.1 })
