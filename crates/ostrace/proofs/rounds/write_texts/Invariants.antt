use Rattle.std.proofs.Common.{take}
use Rattle.ostrace.specs.Parts.{parts_text}
use Rattle.ostrace.proofs.Writing.{Wrote}
use Rattle.ostrace.proofs.rounds.write_texts.Given as goal

abbrev pub invariant-loop-at : goal.invariant-loop-at
invariant-loop-at g l = Wrote g.S.Sink.taken g.S.Sink.failed l.initial.out l.out (parts_text (take l.at l.parts))
