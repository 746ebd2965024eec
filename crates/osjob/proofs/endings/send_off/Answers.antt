use Rattle.std.proofs.{Common.Err, Common.ap, Common.◌∙◌, lemmas.Result.err_from_is_err_and}
use Rattle.osjob.proofs.endings.send_off.Goals as goal

pub returns-in_err-flush : goal.returns-in_err-flush
returns-in_err-flush g c =
    let p = err_from_is_err_and c.from_residual.result c.from_residual.ensures.1 in
    record { flushed = Err c.in_err-flush.field-0.0; sends = c.in_err-flush.ensures; result_is = p.1 ∙ ap Err p.2 }
