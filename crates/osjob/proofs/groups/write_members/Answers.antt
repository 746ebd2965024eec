use Rattle.osbase.specs.Sets.{has_core}
use Rattle.osjob.specs.Groups.{number_word}
use Rattle.osjob.proofs.Lines.{Writes-no_line, Wrote-line}
use Rattle.osjob.proofs.groups.write_members.Goals as goal

pub returns-in_err-write_member : goal.returns-in_err-write_member
returns-in_err-write_member g c =
    Writes-no_line (has_core c.args.group.now) number_word _ _ _ c.loop-number.out _ c.loop-number.number c.loop-number-test.true c.loop-number.invariant _ _ c.from_residual.ensures.0 c.in_err-write_member.ensures

pub loop-number-preserved : goal.loop-number-preserved
loop-number-preserved g c =
    Wrote-line (has_core c.args.group.now) number_word _ _ _ c.loop-number.out _ c.loop-number.number c.loop-number-test.true c.loop-number.invariant _ c.in_ok-write_member.ensures
