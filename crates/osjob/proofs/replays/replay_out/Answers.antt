use Rattle.std.proofs.Common.{arith}
use Rattle.osload.specs.Meaning.{config_of}
use Rattle.osjob.specs.{Replays.in_config, Replays.in_core, Replays.in_log, Runs.at_config, Runs.at_stimuli}
use Rattle.osjob.proofs.{Printing.PrintsFrom-faulty, Replaying.replay-comes, Reading.Means-there, Reading.config-kept}
use Rattle.osjob.proofs.replays.replay_out.Goals as goal

pub returns-in_err-config-clause-comes : goal.returns-in_err-config-clause-comes
returns-in_err-config-clause-comes g c =
    PrintsFrom-faulty _ _ _ _ _ _ _ _ _ c.from_residual.ensures.1 (λ fault is. rw is ((λ apart. in_config (c.in_err-config.ensures.fault apart)), c.in_err-config.ensures.asked))

pub returns-in_err-config-clause-stops : goal.returns-in_err-config-clause-stops
returns-in_err-config-clause-stops g c = at_config c.in_err-config.ensures.ahead

pub returns-in_err-known_core-clause-comes : goal.returns-in_err-known_core-clause-comes
returns-in_err-known_core-clause-comes g c =
    let unknown = c.in_err-known_core.ensures.fault in
    PrintsFrom-faulty _ _ _ _ _ _ _ _ _ c.from_residual-in_err-known_core.ensures.1
    (λ fault is. rw is ((λ apart. in_core c.in_ok-config.config c.in_ok-config.ensures.ok unknown), (λ unreadable. let named = unknown.1 in cc)))

pub returns-in_err-known_core-clause-stops : goal.returns-in_err-known_core-clause-stops
returns-in_err-known_core-clause-stops g c = at_config c.in_ok-config.ensures.ahead

pub log_in-requires-clause-read : goal.log_in-requires-clause-read
log_in-requires-clause-read g c = Means-there config_of _ 0 c.in_ok-config.config c.in_ok-config.ensures.ok

pub returns-in_err-items-clause-comes : goal.returns-in_err-items-clause-comes
returns-in_err-items-clause-comes g c =
    let plan = c.in_ok-config.config in
    let config = config-kept _ _ plan c.in_err-items.ensures.keeps c.in_ok-config.ensures.ok in
    PrintsFrom-faulty _ _ _ _ _ _ _ _ _ c.from_residual-in_err-items.ensures.1
    (λ fault is. rw is ((λ apart. in_log plan config c.in_ok-known_core.ensures.ok (c.in_err-items.ensures.fault apart)), c.in_err-items.ensures.asked))

pub returns-in_err-items-clause-stops : goal.returns-in_err-items-clause-stops
returns-in_err-items-clause-stops g c =
    let plan = c.in_ok-config.config in
    at_stimuli plan (config-kept _ _ plan c.in_err-items.ensures.keeps c.in_ok-config.ensures.ok) (omega (arith, c.in_ok-config.ensures.ahead, c.in_err-items.ensures.ahead))

pub returns-clause-comes : goal.returns-clause-comes
returns-clause-comes g c =
    let plan = c.in_ok-config.config in
    replay-comes _ _ _ _ plan c.args.core c.in_ok-items.items _ _ _ (config-kept _ _ plan c.in_ok-items.ensures.keeps c.in_ok-config.ensures.ok)
    c.in_ok-known_core.ensures.ok c.in_ok-items.ensures.ok (rw c.as_slice.ensures at c.play.ensures)

pub returns-clause-stops : goal.returns-clause-stops
returns-clause-stops g c =
    let plan = c.in_ok-config.config in
    at_stimuli plan (config-kept _ _ plan c.in_ok-items.ensures.keeps c.in_ok-config.ensures.ok) (omega (arith, c.in_ok-config.ensures.ahead, c.in_ok-items.ensures.ahead))
