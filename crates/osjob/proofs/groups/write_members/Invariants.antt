use Rattle.ostrace.proofs.Writing.{Wrote}
use Rattle.osbase.specs.Sets.{has_core}
use Rattle.osjob.specs.Groups.{number_word}
use Rattle.osjob.proofs.Lines.{lines_below}
use Rattle.osjob.proofs.groups.write_members.Given as goal

abbrev pub invariant-loop-number : goal.invariant-loop-number
invariant-loop-number g l = Wrote g.O.Sink.taken g.O.Sink.failed l.initial.out l.out (lines_below (has_core l.group) number_word l.number)
