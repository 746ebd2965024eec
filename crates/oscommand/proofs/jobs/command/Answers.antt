use Rattle.std.proofs.Common.{ap, refl, ◌∙◌}
use Rattle.std.proofs.lemmas.Result.{IfOk-weaker}
use Rattle.clap.specs.Simple.{app_of_fields}
use Rattle.oscommand.specs.CommandLine.{requires_subcommand, tells_version, with_config_commands}
use Rattle.oscommand.proofs.Subcommands.{joined}
use Rattle.oscommand.proofs.jobs.command.Goals as goal

pub returns : goal.returns
returns c =
    let named = ap app_of_fields c.about.ensures ∙ ap app_of_fields c.version.ensures ∙ ap tells_version c.new.ensures.app in
    let above = ap app_of_fields c.subcommand_required.ensures ∙ ap requires_subcommand named in
    let run = joined _ _ _ _ _ c.in_ok-run.ensures refl above c.in_ok-run_command.ensures in
    let configs = c.in_ok-with_config_commands.ensures ∙ ap with_config_commands run in
    let replay = joined _ _ _ _ _ c.in_ok-subcommand.ensures refl configs c.in_ok-replay_command.ensures in
    IfOk-weaker c.subcommand-3.result _ _ (λ r added. joined _ _ _ _ _ added refl replay c.in_ok-threads_command.ensures) c.subcommand-3.ensures
