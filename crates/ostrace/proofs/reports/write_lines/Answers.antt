use Rattle.std.proofs.{Common.◌++◌, lemmas.List.take_more}
use Rattle.ostrace_text.specs.Trace.{line_end, line_of}
use Rattle.ostrace.proofs.Gathering.{Gathers-broken, Gathers-next}
use Rattle.ostrace.proofs.reports.write_lines.Goals as goal

pub returns-in_err-write_ended_line : goal.returns-in_err-write_ended_line
returns-in_err-write_ended_line g c =
    Gathers-broken (λ mark. line_of c.args.names.now mark ++ line_end) c.args.marks.now c.loop-mark.mark-index (take_more c.args.marks.now c.loop-mark.mark-index _ c.loop-mark-test.true) _ c.loop-mark.invariant c.from_residual.ensures.0 c.in_err-write_ended_line.ensures

pub loop-mark-preserved : goal.loop-mark-preserved
loop-mark-preserved g c =
    Gathers-next (λ mark. line_of c.args.names.now mark ++ line_end) c.args.marks.now c.loop-mark.mark-index (take_more c.args.marks.now c.loop-mark.mark-index _ c.loop-mark-test.true) _ c.loop-mark.invariant c.in_ok-write_ended_line.ensures
