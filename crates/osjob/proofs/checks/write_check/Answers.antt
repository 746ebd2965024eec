use Rattle.std.proofs.Common.{codes}
use Rattle.std.specs.List.{flat_map}
use Rattle.osrun.specs.Fits.{ids_of}
use Rattle.ostrace.proofs.Writing.{Writes-begun, Writes-then, Wrote-all}
use Rattle.osjob.specs.Checks.{coupling_line}
use Rattle.osjob.proofs.checks.write_check.Goals as goal

pub returns-in_err-write_all : goal.returns-in_err-write_all
returns-in_err-write_all g c =
    let plan = c.args.config.now in
    Writes-begun _ _ _ _ (codes "ok\n") (flat_map (coupling_line plan) (ids_of plan)) _ _ c.from_residual.ensures.0 c.in_err-write_all.ensures

pub returns : goal.returns
returns g c =
    let plan = c.args.config.now in
    Writes-then _ _ _ _ _ (codes "ok\n") (flat_map (coupling_line plan) (ids_of plan)) _ (Wrote-all _ _ _ _ _ _ c.in_ok-write_all.ensures) c.write_couplings.ensures
