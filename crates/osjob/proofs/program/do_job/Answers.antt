use Rattle.osjob.proofs.program.do_job.Goals as goal

pub returns : goal.returns
returns g c = record { printed = _; result = _; prints = c.print_job-result.ensures; closes = c.close.ensures }
