use Rattle.osrun.proofs.Configured.{is_there}
use Rattle.osjob.specs.Groups.{group_line}
use Rattle.osjob.proofs.Lines.{Writes-no_line, Wrote-line}
use Rattle.osjob.proofs.groups.write_groups.Goals as goal

pub returns-in_err-write_group_at : goal.returns-in_err-write_group_at
returns-in_err-write_group_at g c =
    Writes-no_line (is_there c.args.config.now) (group_line c.args.config.now) _ _ _ c.loop-number.out _ c.loop-number.number c.loop-number-test.true c.loop-number.invariant _ _ c.from_residual.ensures.0 c.in_err-write_group_at.ensures

pub loop-number-preserved : goal.loop-number-preserved
loop-number-preserved g c =
    Wrote-line (is_there c.args.config.now) (group_line c.args.config.now) _ _ _ c.loop-number.out _ c.loop-number.number c.loop-number-test.true c.loop-number.invariant _ c.in_ok-write_group_at.ensures
