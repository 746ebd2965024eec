use Rattle.std.proofs.Common.{◌++◌, codes}
use Rattle.ostrace.proofs.Writing.{Writes-begun, Writes-then, Wrote-all}
use Rattle.osjob.specs.Groups.{number_word}
use Rattle.osjob.proofs.groups.write_head.Goals as goal

pub returns-in_err-write_all : goal.returns-in_err-write_all
returns-in_err-write_all g c = Writes-begun _ _ _ _ (codes "core") (number_word c.args.core ++ codes " group") _ _ c.from_residual.ensures.0 c.in_err-write_all.ensures

pub returns-in_err-write_number : goal.returns-in_err-write_number
returns-in_err-write_number g c =
    Writes-then _ _ _ _ _ (codes "core") (number_word c.args.core ++ codes " group") _ (Wrote-all _ _ _ _ _ _ c.in_ok-write_all.ensures)
    (Writes-begun _ _ _ _ (number_word c.args.core) (codes " group") _ _ c.from_residual-in_err-write_number.ensures.0 c.in_err-write_number.ensures)

pub returns : goal.returns
returns g c =
    Writes-then _ _ _ _ _ (codes "core") (number_word c.args.core ++ codes " group") _ (Wrote-all _ _ _ _ _ _ c.in_ok-write_all.ensures)
    (Writes-then _ _ _ _ _ (number_word c.args.core) (codes " group") _ (Wrote-all _ _ _ _ _ _ c.in_ok-write_number.ensures) c.write_all-2.ensures)
