use Rattle.std.proofs.Common.{codes}
use Rattle.ostrace.proofs.Writing.{Writes-begun, Writes-then, Wrote-all}
use Rattle.osjob.specs.Groups.{number_of}
use Rattle.osjob.proofs.groups.write_number.Goals as goal

pub returns-in_err-write_all : goal.returns-in_err-write_all
returns-in_err-write_all g c = Writes-begun _ _ _ _ (codes " ") (number_of c.args.core) _ _ c.from_residual.ensures.0 c.in_err-write_all.ensures

pub returns : goal.returns
returns g c =
    Writes-then _ _ _ _ _ (codes " ") (number_of c.args.core) _ (Wrote-all _ _ _ _ _ _ c.in_ok-write_all.ensures) (rw (c.as_bytes.ensures.value, c.format.ensures.text) at c.write_all-2.ensures)
