use Rattle.std.proofs.Common.{◌≡◌, ◌∙◌, Some, ap}
use Rattle.serde_json.specs.{Written.has_float, Written.compact_text, View.view}
use Rattle.oswrite.specs.Writing.{config_data}
use Rattle.oswrite.proofs.{Flat.config-fits, Restored.config-back}
use Rattle.oswrite.proofs.texts.config_text.Goals as goal

pub returns-clause-text : goal.returns-clause-text
returns-clause-text c =
    let same : view c.in_ok-plan_value.field-0 ≡ config_data c.args.config.now = c.in_ok-plan_value.ensures ∙ ap config_data c.plan-plan.ensures.value in
    c.in_ok-text.ensures.text (ap has_float same ∙ (config-fits c.args.config.now).0) ∙ ap compact_text same

pub returns-clause-reads_back : goal.returns-clause-reads_back
returns-clause-reads_back c =
    let same : view c.in_ok-plan_value.field-0 ≡ config_data c.args.config.now = c.in_ok-plan_value.ensures ∙ ap config_data c.plan-plan.ensures.value in
    config-back c.args.config.now _ c.plan-plan.ensures.limits c.plan-plan.ensures.representable (c.in_ok-text.ensures.reads_back (rw same (config-fits c.args.config.now).1) ∙ ap Some same)
