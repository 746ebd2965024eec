use Rattle.ostrace.proofs.Writing.{Wrote}
use Rattle.osrun.proofs.Configured.{is_there}
use Rattle.osjob.specs.Checks.{coupling_line}
use Rattle.osjob.proofs.Lines.{lines_below}
use Rattle.osjob.proofs.checks.write_couplings.Given as goal

abbrev pub invariant-loop-number : goal.invariant-loop-number
invariant-loop-number g l = Wrote g.O.Sink.taken g.O.Sink.failed l.initial.out l.out (lines_below (is_there l.config) (coupling_line l.config) l.number)
