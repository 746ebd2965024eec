use Rattle.osrun.proofs.Configured.{is_there}
use Rattle.osjob.specs.Checks.{coupling_line}
use Rattle.osjob.proofs.Lines.{Writes-no_line, Wrote-line}
use Rattle.osjob.proofs.checks.write_couplings.Goals as goal

pub returns-in_err-write_coupling : goal.returns-in_err-write_coupling
returns-in_err-write_coupling g c =
    Writes-no_line (is_there c.args.config.now) (coupling_line c.args.config.now) _ _ _ c.loop-number.out _ c.loop-number.number c.loop-number-test.true c.loop-number.invariant _ _ c.from_residual.ensures.0 c.in_err-write_coupling.ensures

pub loop-number-preserved : goal.loop-number-preserved
loop-number-preserved g c =
    Wrote-line (is_there c.args.config.now) (coupling_line c.args.config.now) _ _ _ c.loop-number.out _ c.loop-number.number c.loop-number-test.true c.loop-number.invariant _ c.in_ok-write_coupling.ensures
