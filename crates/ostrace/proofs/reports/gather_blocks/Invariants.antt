use Rattle.std.proofs.Common.{Ok, take}
use Rattle.ostrace_text.specs.Trace.{text_of}
use Rattle.ostrace.specs.{Gathers.Gathers, declared.sinks.WriteFailed.WriteFailed}
use Rattle.ostrace.proofs.reports.gather_blocks.Given as goal

abbrev pub invariant-loop-report : goal.invariant-loop-report
invariant-loop-report g l = Gathers {E = WriteFailed} g.S.Sink.taken g.S.Sink.failed l.initial.out l.out l.initial.gathered l.gathered (text_of l.plan (take l.report-index l.reports)) (Ok tt)
