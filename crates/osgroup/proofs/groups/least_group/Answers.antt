use Rattle.std.proofs.Common.{ap, ◌∙◌}
use Rattle.osplan.specs.declared.plans.Plan.{Plan}
use Rattle.osgroup.specs.Groups.{is_in_least_group}
use Rattle.osgroup.proofs.Least.{least-group, least-least, least-own}
use Rattle.osgroup.proofs.groups.least_group.Goals as goal

pub returns-clause-members : goal.returns-clause-members
returns-clause-members c = λ id. c.least_of.ensures id ∙ ap (λ (p : Plan). is_in_least_group p c.args.core id) c.plan-plan.ensures.value

pub returns-clause-group : goal.returns-clause-group
returns-clause-group c = least-group c.args.config.now c.args.core c.least_of.result (returns-clause-members c)

pub returns-clause-own : goal.returns-clause-own
returns-clause-own c = least-own c.args.config.now c.args.core c.least_of.result (returns-clause-members c)

pub returns-clause-least : goal.returns-clause-least
returns-clause-least c = least-least c.args.config.now c.args.core c.least_of.result (returns-clause-members c)
