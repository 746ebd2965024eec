use Rattle.std.proofs.Common.{refl}
use Rattle.std.proofs.lemmas.Result.{IfOk-weaker}
use Rattle.oscommand.proofs.Subcommands.{joined}
use Rattle.oscommand.proofs.jobs.with_config_commands.Goals as goal

pub returns : goal.returns
returns c =
    let check = joined _ _ _ _ _ c.in_ok-subcommand.ensures refl refl c.in_ok-config_command.ensures in
    let cut = joined _ _ _ _ _ c.in_ok-subcommand-2.ensures refl check c.in_ok-core_command.ensures in
    let groups = joined _ _ _ _ _ c.in_ok-subcommand-3.ensures refl cut c.in_ok-config_command-2.ensures in
    IfOk-weaker c.subcommand-4.result _ _ (λ r added. joined _ _ _ _ _ added refl groups c.in_ok-core_command-2.ensures) c.subcommand-4.ensures
