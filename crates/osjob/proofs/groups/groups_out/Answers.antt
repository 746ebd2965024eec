use Rattle.std.proofs.Common.{refl}
use Rattle.osjob.proofs.Printing.{PrintsFrom-done, PrintsFrom-faulty}
use Rattle.osjob.proofs.groups.groups_out.Goals as goal

pub returns-in_err-config-clause-comes : goal.returns-in_err-config-clause-comes
returns-in_err-config-clause-comes g c = PrintsFrom-faulty _ _ _ _ _ _ _ _ _ c.from_residual.ensures.1 (λ fault is. rw is (c.in_err-config.ensures.fault, c.in_err-config.ensures.asked))

pub returns-clause-comes : goal.returns-clause-comes
returns-clause-comes g c =
    PrintsFrom-done _ _ _ _ _ _ _ _ _ _ _ (record { plan = c.in_ok-config.config; config = c.in_ok-config.ensures.ok; text_is = refl; outcome_is = refl }) c.write_groups.ensures c.written.ensures
