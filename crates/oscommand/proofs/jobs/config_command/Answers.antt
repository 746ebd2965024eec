use Rattle.std.proofs.Common.{ap, ap₂, ◌∙◌}
use Rattle.std.proofs.lemmas.Result.{IfOk-weaker}
use Rattle.clap.specs.{Simple.app_of_fields, Words.with_rule}
use Rattle.oscommand.proofs.jobs.config_command.Goals as goal

pub returns : goal.returns
returns c =
    let named = ap app_of_fields c.after_help.ensures ∙ ap app_of_fields c.about.ensures ∙ c.new.ensures.app in
    IfOk-weaker c.arg.result _ _ (λ r h. h.shape c.required_arg-config.ensures.own ∙ ap₂ with_rule named c.required_arg-config.ensures.rule) c.arg.ensures
