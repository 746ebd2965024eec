use Rattle.std.proofs.Common.{Ok, take}
use Rattle.ostrace.specs.{Gathers.Gathers, Pieces.text_after_spaces, declared.sinks.WriteFailed.WriteFailed}
use Rattle.ostrace.proofs.words.write_after_space.Given as goal

abbrev pub invariant-loop-word : goal.invariant-loop-word
invariant-loop-word g l = Gathers {E = WriteFailed} g.S.Sink.taken g.S.Sink.failed l.initial.out l.out l.initial.gathered l.gathered (text_after_spaces (take l.word-index l.words)) (Ok tt)
