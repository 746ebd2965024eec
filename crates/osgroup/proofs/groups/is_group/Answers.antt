use Rattle.std.proofs.Common.{ap, ◌∙◌}
use Rattle.osplan.specs.declared.plans.Plan.{Plan}
use Rattle.osgroup.specs.Groups.{is_group}
use Rattle.osgroup.proofs.groups.is_group.Goals as goal

pub returns : goal.returns
returns c = c.is_group_in.ensures ∙ ap (λ (p : Plan). is_group p c.args.group) c.plan-plan.ensures.value
