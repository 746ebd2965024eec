use Rattle.std.proofs.Common.{refl}
use Rattle.osjob.specs.Performs.{in_config, in_core}
use Rattle.osjob.proofs.Printing.{PrintsFrom-done, PrintsFrom-faulty}
use Rattle.osjob.proofs.groups.group_out.Goals as goal

pub returns-in_err-config-clause-comes : goal.returns-in_err-config-clause-comes
returns-in_err-config-clause-comes g c =
    PrintsFrom-faulty _ _ _ _ _ _ _ _ _ c.from_residual.ensures.1 (λ fault is. rw is ((λ apart. in_config (c.in_err-config.ensures.fault apart)), c.in_err-config.ensures.asked))

pub returns-in_err-known_core-clause-comes : goal.returns-in_err-known_core-clause-comes
returns-in_err-known_core-clause-comes g c =
    PrintsFrom-faulty _ _ _ _ _ _ _ _ _ c.from_residual-in_err-known_core.ensures.1
    (λ fault is. rw is ((λ apart. in_core c.in_ok-config.config c.in_ok-config.ensures.ok c.in_err-known_core.ensures.fault), (λ unreadable. let named = c.in_err-known_core.ensures.fault.1 in cc)))

pub returns-in_err-text-clause-comes : goal.returns-in_err-text-clause-comes
returns-in_err-text-clause-comes g c =
    let named = c.in_err-text.ensures.fault in
    PrintsFrom-faulty _ _ _ _ _ _ _ _ _ c.from_residual-in_err-text.ensures.1 (λ fault is. rw is ((λ apart. absurd (apart named)), (λ unreadable. cc)))

pub returns-clause-comes : goal.returns-clause-comes
returns-clause-comes g c =
    let plan = c.in_ok-config.config in
    let of = c.in_ok-text.ensures.ok in
    PrintsFrom-done _ _ _ _ _ _ _ _ _ _ _
    (record { plan = plan; config = c.in_ok-config.ensures.ok; configured = c.in_ok-known_core.ensures.ok; group = of.group; least = of.least; text_is = refl; outcome_is = refl })
    (rw (c.as_str.ensures.value, of.text_is) at c.write_line.ensures) c.written.ensures
