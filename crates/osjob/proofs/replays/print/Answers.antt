use Rattle.osjob.proofs.Printing.{Writes-block}
use Rattle.osjob.proofs.replays.print.Goals as goal

pub returns : goal.returns
returns g c =
    let wrote = c.write_reports.ensures in
    let block = Writes-block _ _ _ _ c.args.config.now c.args.report.now _ _ c.from_ref.ensures.value (record { ok = wrote.ok; err = wrote.err; count = wrote.failed }) in
    record { written = c.write_reports.result; writes = block; result_is = c.written.ensures }
