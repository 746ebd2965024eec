use Rattle.std.proofs.Common.{ap₂, ◌∙◌}
use Rattle.std.proofs.lemmas.Result.{IfOk-weaker}
use Rattle.clap.specs.Words.{with_rule}
use Rattle.oscommand.proofs.jobs.threads_command.Goals as goal

pub returns : goal.returns
returns c =
    IfOk-weaker c.arg-5.result _ _ (λ r h. h.shape c.order_arg.ensures.own
    ∙ ap₂ with_rule (c.in_ok-arg-4.ensures.shape c.items_arg.ensures.own
    ∙ ap₂ with_rule (c.in_ok-arg-3.ensures.shape c.option_arg-2.ensures.own
    ∙ ap₂ with_rule (c.in_ok-arg-2.ensures.shape c.option_arg.ensures.own
    ∙ ap₂ with_rule (c.in_ok-arg.ensures.shape c.stimuli_arg.ensures.own
    ∙ ap₂ with_rule c.in_ok-config_command.ensures c.stimuli_arg.ensures.rule) (rw c.unsigned-turns.ensures at c.option_arg.ensures.rule)) c.option_arg-2.ensures.rule) c.items_arg.ensures.rule)
    c.order_arg.ensures.rule) c.arg-5.ensures
