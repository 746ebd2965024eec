use Rattle.std.proofs.Common.{arith}
use Rattle.ostrace.proofs.Writing.{Writes-begun, Writes-then}
use Rattle.osjob.specs.Runs.{last_line}
use Rattle.osjob.proofs.runs.write_run.Goals as goal

pub returns-in_err-write_reports : goal.returns-in_err-write_reports
returns-in_err-write_reports g c =
    let wrote = c.in_err-write_reports.ensures in
    Writes-begun _ _ _ _ _ (last_line c.args.ended) _ _ c.from_residual.ensures.0 (record { ok = wrote.ok; err = wrote.err; count = wrote.failed })

pub returns : goal.returns
returns g c =
    let wrote = c.in_ok-write_reports.ensures in
    Writes-then _ _ _ _ _ _ _ _ (record { appends = wrote.ok; same = omega (arith, wrote.failed) })
    (rw (c.as_bytes.ensures.value, c.last_line.ensures) at c.write_all.ensures)
