use Rattle.ostrace.proofs.Writing.{Writes-begun, Writes-then, Wrote-all}
use Rattle.osjob.specs.Runs.{last_line}
use Rattle.osjob.proofs.threads.write_by_threads.Goals as goal

pub returns-in_err-write_reports_by_threads : goal.returns-in_err-write_reports_by_threads
returns-in_err-write_reports_by_threads g c =
    Writes-begun _ _ _ _ _ (last_line c.args.ended) _ _ c.from_residual.ensures.0 c.in_err-write_reports_by_threads.ensures

pub returns : goal.returns
returns g c =
    Writes-then _ _ _ _ _ _ _ _ (Wrote-all _ _ _ _ _ _ c.in_ok-write_reports_by_threads.ensures)
    (rw (c.as_bytes.ensures.value, c.last_line.ensures) at c.write_all.ensures)
