use Rattle.osjob.proofs.endings.report_ending.Goals as goal

pub returns-in-Err-clause-reported : goal.returns-in-Err-clause-reported
returns-in-Err-clause-reported g c = rw c.in-Err.is (c.fault_line.result, c.fault_line.ensures)
