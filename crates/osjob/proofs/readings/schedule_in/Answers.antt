use Rattle.std.proofs.lemmas.Result.{err_from_is_err_and}
use Rattle.osinput.specs.Given.{schedule_faults}
use Rattle.osjob.proofs.Reading.{IsFaultOf-read}
use Rattle.osjob.proofs.readings.schedule_in.Goals as goal

pub returns-in_err-read_schedule-clause-fault : goal.returns-in_err-read_schedule-clause-fault
returns-in_err-read_schedule-clause-fault g c =
    let p = err_from_is_err_and c.from_residual-in_err-read_schedule.result c.from_residual-in_err-read_schedule.ensures.1 in
    rw p.1 (IsFaultOf-read (schedule_faults c.args.config.now) _ c.in_ok-text.text.now _ p.0 c.in_ok-text.ensures.text p.2 c.in_err-read_schedule.ensures.fault)
