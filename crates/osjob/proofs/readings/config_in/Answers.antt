use Rattle.std.proofs.lemmas.Result.{err_from_is_err_and}
use Rattle.osload.specs.Meaning.{faults_of}
use Rattle.osjob.proofs.Reading.{IsFaultOf-read}
use Rattle.osjob.proofs.readings.config_in.Goals as goal

pub returns-in_err-read_config-clause-fault : goal.returns-in_err-read_config-clause-fault
returns-in_err-read_config-clause-fault g c =
    let p = err_from_is_err_and c.from_residual-in_err-read_config.result c.from_residual-in_err-read_config.ensures.1 in
    rw p.1 (IsFaultOf-read faults_of _ c.in_ok-text.text.now _ p.0 c.in_ok-text.ensures.text p.2 c.in_err-read_config.ensures.fault)
