use Rattle.std.proofs.Common.{codes}
use Rattle.ostrace.proofs.Writing.{Writes-begun, Writes-then, Wrote-all}
use Rattle.osjob.proofs.checks.write_line.Goals as goal

pub returns-in_err-write_all : goal.returns-in_err-write_all
returns-in_err-write_all g c =
    Writes-begun _ _ _ _ c.args.text.now (codes "\n") _ _ c.from_residual.ensures.0 (rw c.as_bytes.ensures.value at c.in_err-write_all.ensures)

pub returns : goal.returns
returns g c =
    Writes-then _ _ _ _ _ c.args.text.now (codes "\n") _ (Wrote-all _ _ _ _ _ _ (rw c.as_bytes.ensures.value at c.in_ok-write_all.ensures)) c.write_all-2.ensures
