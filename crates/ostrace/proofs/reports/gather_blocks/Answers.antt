use Rattle.std.proofs.lemmas.List.{take_more}
use Rattle.ostrace_text.specs.Trace.{block_of}
use Rattle.ostrace.proofs.Gathering.{Gathers-broken, Gathers-next}
use Rattle.ostrace.proofs.reports.gather_blocks.Goals as goal

pub returns-in_err-gather : goal.returns-in_err-gather
returns-in_err-gather g c =
    let more = rw (← c.report-item.is) at (take_more c.args.reports.now c.loop-report.report-index c.report-item.result c.loop-report-test.true) in
    Gathers-broken (block_of c.args.plan.now) c.args.reports.now c.loop-report.report-index more _ c.loop-report.invariant c.from_residual.ensures.0 (rw c.whole.ensures at c.in_err-gather.ensures)

pub loop-report-preserved : goal.loop-report-preserved
loop-report-preserved g c =
    let more = rw (← c.report-item.is) at (take_more c.args.reports.now c.loop-report.report-index c.report-item.result c.loop-report-test.true) in
    Gathers-next (block_of c.args.plan.now) c.args.reports.now c.loop-report.report-index more _ c.loop-report.invariant (rw c.whole.ensures at c.in_ok-gather.ensures)
