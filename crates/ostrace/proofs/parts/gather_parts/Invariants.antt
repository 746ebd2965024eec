use Rattle.std.proofs.Common.{Ok, take}
use Rattle.ostrace.specs.{Gathers.Gathers, Parts.parts_text, declared.sinks.WriteFailed.WriteFailed}
use Rattle.ostrace.proofs.parts.gather_parts.Given as goal

abbrev pub invariant-loop-part : goal.invariant-loop-part
invariant-loop-part g l = Gathers {E = WriteFailed} g.S.Sink.taken g.S.Sink.failed l.initial.out l.out l.initial.gathered l.gathered (parts_text (take l.part-index l.parts)) (Ok tt)
