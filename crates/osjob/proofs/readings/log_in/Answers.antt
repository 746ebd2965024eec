use Rattle.std.proofs.lemmas.Result.{err_from_is_err_and}
use Rattle.osjob.proofs.Replaying.{IsLogFault-read}
use Rattle.osjob.proofs.readings.log_in.Goals as goal

pub returns-in_err-read_log-clause-fault : goal.returns-in_err-read_log-clause-fault
returns-in_err-read_log-clause-fault g c =
    let p = err_from_is_err_and c.from_residual-in_err-read_log.result c.from_residual-in_err-read_log.ensures.1 in
    rw p.1 (λ apart. IsLogFault-read c.args.config.now _ c.in_ok-text.text.now _ p.0 c.in_ok-text.ensures.text p.2 c.in_err-read_log.ensures.bad)
