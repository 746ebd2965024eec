use Rattle.std.proofs.Common.{is_some, ap, sym, ◌∙◌}
use Rattle.osvalidate.proofs.Operations.{action-acts}
use Rattle.osvalidate.proofs.judging.judge_action.Goals as goal

pub returns-clause-verdict : goal.returns-clause-verdict
returns-clause-verdict c =
    rw c.has_masks.ensures (action-acts c.args.objects.now.declared c.args.text.now c.in-Some.op (sym c.op_of_text.ensures ∙ c.in-Some.is) (ap is_some (sym c.action_of_op.ensures ∙ c.in-Some-action_of_op.is)))
