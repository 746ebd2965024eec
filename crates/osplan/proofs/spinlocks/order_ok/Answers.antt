use Rattle.std.proofs.Common.{◌≡◌, ◌∙◌, Bool, false, length, ap, subst}
use Rattle.osbase.specs.declared.references.SpinlockId.{SpinlockId}
use Rattle.osplan.specs.{declared.plans.Plan.Plan, Spinlocks.comes_after, Spinlocks.links_of}
use Rattle.osplan.proofs.{Linked.enough, Linked.never-itself, Within.limit-parts}
use Rattle.osplan.proofs.spinlocks.order_ok.Goals as goal

abbrev is_after : SpinlockId → SpinlockId → Plan → Bool
is_after from to plan = comes_after (links_of plan.spinlocks) (length (links_of plan.spinlocks)) from to

pub returns-clause-reached : goal.returns-clause-reached
returns-clause-reached c n e =
    c.comes_after.ensures ∙ ap (is_after c.args.newest c.args.new) c.plan.ensures.value
    ∙ enough (links_of c.args.config.now.spinlocks) c.args.new n c.args.newest e

pub returns-clause-apart : goal.returns-clause-apart
returns-clause-apart c same =
    c.comes_after.ensures ∙ ap (is_after c.args.newest c.args.new) c.plan.ensures.value
    ∙ subst (λ (l : SpinlockId). is_after c.args.newest l c.args.config.now ≡ false) same
    (never-itself (links_of c.args.config.now.spinlocks) (limit-parts c.args.config.now c.plan.ensures.limits).ordered c.args.newest)
