use Rattle.std.proofs.Common.{Ok, take}
use Rattle.ostrace_text.specs.Trace.{lines_of}
use Rattle.ostrace.specs.{Gathers.Gathers, declared.sinks.WriteFailed.WriteFailed}
use Rattle.ostrace.proofs.reports.write_lines.Given as goal

abbrev pub invariant-loop-mark : goal.invariant-loop-mark
invariant-loop-mark g l = Gathers {E = WriteFailed} g.S.Sink.taken g.S.Sink.failed l.initial.out l.out l.initial.gathered l.gathered (lines_of l.names (take l.mark-index l.marks)) (Ok tt)
